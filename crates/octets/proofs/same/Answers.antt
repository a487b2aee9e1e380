-- `octets::same` meets its contract: strings of two lengths differ, and of one length they do where a bit of a byte does. Assumes nothing.
use mathlib.Core.Path.{◌≡◌, refl, sym, ap}
use mathlib.Core.Bool.{Bool, true, false}
use mathlib.Core.List.{List}
use Prim.Native.Nat.{ℕ}
use lib.Dec.{eqb}
use lib.ListN.{length}
use borrow.Author.Tests.{eqb-true, eqb-false}
use Rattle.octets.specs.Octets.{same}
use Rattle.octets.proofs.Laws.{equal_same, unequal_same}
use Rattle.octets.proofs.same.Goals as goal

-- d is 0 exactly if the strings are equal
judged : (a b : List ℕ) (d : ℕ) → (d ≡ 0 → a ≡ b) × (a ≡ b → d ≡ 0) → eqb d 0 ≡ same a b
judged a b d h = go (eqb d 0) refl
  where
    go : (t : Bool) → eqb d 0 ≡ t → t ≡ same a b
    go true e = sym (equal_same a b (h.0 (eqb-true d 0 e)))
    go false e = sym (unequal_same a b (λ p. eqb-false d 0 e (h.1 p)))

pub returns-then-a-b : goal.returns-then-a-b
returns-then-a-b c = sym (unequal_same _ _ (λ e. c.if-a-b.true (ap length e)))

pub returns : goal.returns
returns c = judged _ _ c.differences.result c.differences.ensures
