-- The keys that are expanded have 16 bytes or 32, and no other number. Assumes nothing.
use mathlib.Core.Bool.{Bool, true, false}
use mathlib.Core.Logic.{◌↔◌, ◌⊎◌, inl, inr, ⊎_elim}
use mathlib.Core.Path.{◌≡◌, refl}
use Prim.Native.Nat.{ℕ}
use native.Mathlib.Omega.{arith}
use borrow.Author.Tests.{eqb-true, eqb-false}
use lib.Dec.{eqb}
use Rattle.aes_key.specs.Key.{KeyLength}

pub key_length_exactly : (n : ℕ) → KeyLength n ↔ ((n ≡ 16) ⊎ (n ≡ 32))
key_length_exactly n = (
  λ k. one k (eqb n 16) refl,
  ⊎_elim
      (λ s. record { at_least = omega arith; at_most = omega arith; whole = omega arith })
      (λ l. record { at_least = omega arith; at_most = omega arith; whole = omega arith }),
)
  where
    one : KeyLength n → (b : Bool) → eqb n 16 ≡ b → (n ≡ 16) ⊎ (n ≡ 32)
    one k true e = inl (eqb-true n 16 e)
    one k false e = inr (let z = eqb-false n 16 e in omega arith)
