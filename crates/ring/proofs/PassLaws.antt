-- Reading by the first three pages that are not blank, found one after the other. Assumes nothing.
use Prim.Native.Nat.{ℕ, suc, ◌+◌, ◌-◌, ◌<◌, ◌≤◌}
use mathlib.Core.Path.{◌≡◌, refl, sym, ap, subst}
use mathlib.Core.Bool.{true, false}
use mathlib.Core.List.{List, [], ◌∷◌}
use native.Mathlib.Nat.{sub-zero}
use native.Mathlib.Omega.{arith}
use Rattle.std.proofs.Common.{Option, Some, None}
use Rattle.std.specs.List.{slice_get}
use Rattle.std.specs.Option.{is_some}
use Rattle.ring.specs.Ring.{ring_wrong, Newest, Blank, Unreadable, used_from, alone, reading, read_ring, Within}
use Rattle.ring.proofs.Exactly.{first_used}
use Rattle.ring.proofs.NewestLaws.{read_within}

module _ (ring : List ℕ) (pages slots : ℕ) where
  -- r is the first used page from `from` on
  abbrev pub IsNext : ℕ → Option ℕ → Type 0
  IsNext from r = r ≡ slice_get (used_from ring slots from (pages - from)) 0

  none : (from : ℕ) → IsNext from None → used_from ring slots from (pages - from) ≡ []
  none from n = go (used_from ring slots from (pages - from)) n
    where
      go : (u : List ℕ) → None ≡ slice_get u 0 → u ≡ []
      go [] m = refl
      go (q ∷ rest) m = cc

  one : (from p : ℕ) → from ≤ pages → IsNext from (Some p) → p < pages
      → used_from ring slots from (pages - from) ≡ p ∷ used_from ring slots (p + 1) (pages - (p + 1))
  one from p h n l = go (used_from ring slots from (pages - from)) refl n
    where
      go : (u : List ℕ) → used_from ring slots from (pages - from) ≡ u → Some p ≡ slice_get u 0 → u ≡ p ∷ used_from ring slots (p + 1) (pages - (p + 1))
      go [] i m = cc
      go (q ∷ rest) i m =
          let j : p ≡ q = cc in
          let e : from + (pages - from) - suc q ≡ pages - (p + 1) = omega arith in
          let s : suc q ≡ p + 1 = omega arith in
          let r : used_from ring slots (p + 1) (pages - (p + 1)) ≡ rest = rw (← e, ← s) (first_used ring slots (pages - from) from q rest i).more in
          cc

  by : (used : List ℕ) → used_from ring slots 0 (pages - 0) ≡ used → read_ring ring pages slots ≡ reading ring pages slots used
  unfolding read_ring
  by used e = ap (reading ring pages slots) (rw sub-zero at e)

  pub read_none : IsNext 0 None → read_ring ring pages slots ≡ Blank
  unfolding reading
  read_none f = by [] (none 0 f)

  module _ {p : ℕ} (f : IsNext 0 (Some p)) (h : p < pages) where
    pub read_one : IsNext (p + 1) None → read_ring ring pages slots ≡ alone ring slots p
    unfolding reading
    read_one g = by (p ∷ []) (rw (one 0 p (omega arith) f h, none (p + 1) g))

    module _ {q : ℕ} (g : IsNext (p + 1) (Some q)) (i : q < pages) where
      two : used_from ring slots 0 (pages - 0) ≡ p ∷ q ∷ used_from ring slots (q + 1) (pages - (q + 1))
      two = rw (one 0 p (omega arith) f h, one (p + 1) q (omega arith) g i)

      pub read_two : (r : Option ℕ) → IsNext (q + 1) r → is_some r ≡ false → read_ring ring pages slots ≡ reading ring pages slots (p ∷ q ∷ [])
      read_two None k e = by (p ∷ q ∷ []) (rw two (rw (none (q + 1) k)))
      read_two (Some r) k e = cc

      pub read_more : (r : Option ℕ) → IsNext (q + 1) r → is_some r ≡ true → read_ring ring pages slots ≡ Unreadable
      unfolding reading
      read_more None k e = cc
      read_more (Some r) k e = third (used_from ring slots (q + 1) (pages - (q + 1))) refl k
        where
          third : (u : List ℕ) → used_from ring slots (q + 1) (pages - (q + 1)) ≡ u → Some r ≡ slice_get u 0 → read_ring ring pages slots ≡ Unreadable
          third [] j m = cc
          third (s ∷ rest) j m = by (p ∷ q ∷ s ∷ rest) (rw two (rw j))

-- what is read lies in the ring
pub and_within : (pages slots : ℕ) (ring : List ℕ) → ring_wrong pages slots ring ≡ false → {n : Newest} → n ≡ read_ring ring pages slots
    → (n ≡ read_ring ring pages slots) × Within pages slots n
and_within pages slots ring w e = (e, subst (Within pages slots) (sym e) (read_within pages slots ring w))
