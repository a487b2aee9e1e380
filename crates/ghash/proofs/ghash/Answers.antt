-- `ghash::ghash` meets its contract. Assumes nothing.
use mathlib.Core.Path.{◌≡◌, refl}
use mathlib.Core.List.{List}
use Prim.Native.Nat.{ℕ, ◌*◌, ◌^◌, ◌<◌}
use native.Mathlib.Omega.{arith}
use lib.Bits.{bit_xor}
use lib.ListN.{length}
use Rattle.ghash.specs.Steps.{words}
use Rattle.ghash.specs.Ghash.{hashed, GHASH, ◌•◌}
use Rattle.ghash.specs.Input.{padded, hash_input}
use Rattle.ghash.proofs.Hashing.{GHASH_input}
use Rattle.ghash.proofs.ghash.Goals as goal

nothing : words 0 0 ≡ 0
unfolding words
nothing = refl

whole : (H : ℕ) (A C : List ℕ) (y₁ y₂ x r : ℕ) → 8 * length A < 2 ^ 64 → 8 * length C < 2 ^ 64
    → y₁ ≡ hashed H (words 0 0) (padded A) → y₂ ≡ hashed H y₁ (padded C) → x ≡ bit_xor y₂ (words (8 * length A) (8 * length C)) → r ≡ x • H
    → r ≡ GHASH H (hash_input A C)
whole H A C y₁ y₂ x r ha hc h₁ h₂ hx hr = cc (nothing, GHASH_input H A C ha hc)

pub returns : goal.returns
returns c H steps =
    whole H _ _ _ _ _ _ (omega arith) (omega arith) (c.hash.ensures H steps) (c.hash-y.ensures H steps) c.add.ensures (c.product.ensures H steps)
