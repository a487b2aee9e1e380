-- The pages of a ring, and what bytes put within one of them leave. Assumes nothing.
use Prim.Native.Nat.{ℕ, ◌+◌, ◌*◌, ◌≤◌, ◌<◌}
use mathlib.Core.Path.{◌≡◌, refl, sym, ap, ◌∙◌}
use mathlib.Core.Bool.{Bool, true, false}
use mathlib.Core.List.{List}
use native.Mathlib.Omega.{arith}
use lib.ListN.{length}
use lib.Dec.{ltb}
use borrow.Author.Tests.{ltb-true, ltb-false}
use Rattle.octets.specs.Limits.{slot_length}
use Rattle.octets.specs.Octets.{part, put, blank}
use Rattle.octets.proofs.Laws.{part_part, length_part, length_put, part_put_before, part_put_after, part_put_inside, part_put_same, blank_part}
use Rattle.ring.specs.Ring.{ring_wrong, slot_at, page_at}
use Rattle.ring.proofs.SizeLaws as sizes
use Rattle.ring.proofs.SizeLaws.{Sized, sized_alike, page_fits}

pub slot_in_page : (ring : List ℕ) (slots p s : ℕ) → s < slots → slot_at ring slots p s ≡ part (page_at ring slots p) (slot_length * s) slot_length
unfolding slot_at page_at
slot_in_page ring slots p s h =
    let e : slot_length * (p * slots + s) ≡ slot_length * (p * slots) + slot_length * s = omega arith in
    ap (λ i. part ring i slot_length) e ∙ sym (part_part ring (slot_length * (p * slots)) (slot_length * slots) (slot_length * s) slot_length (omega arith))

pub page_blank : (ring : List ℕ) (slots p : ℕ) → blank ring ≡ true → blank (page_at ring slots p) ≡ true
unfolding page_at
page_blank ring slots p b = blank_part ring (slot_length * (p * slots)) (slot_length * slots) b

pub length_page : {pages slots : ℕ} {ring : List ℕ} → Sized pages slots ring → (p : ℕ) → p < pages → length (page_at ring slots p) ≡ slot_length * slots
unfolding page_at
length_page {pages} {slots} {ring} z p h = length_part ring (slot_length * (p * slots)) (slot_length * slots) (sizes.page_ends z p h)

pub length_slot : {pages slots : ℕ} {ring : List ℕ} → Sized pages slots ring → (p s : ℕ) → p < pages → s < slots → length (slot_at ring slots p s) ≡ slot_length
unfolding slot_at
length_slot {pages} {slots} {ring} z p s h k = length_part ring (slot_length * (p * slots + s)) slot_length (sizes.slot_ends z p h s k)

-- `ys` is put at index `i`, which is offset `k` of page `p`
pub record PutWithin (pages slots : ℕ) (ring : List ℕ) (p k i : ℕ) (ys : List ℕ) : Type 0 where
  pub size : Sized pages slots ring
  pub in_ring : p < pages
  pub place : i ≡ slot_length * (p * slots) + k
  pub in_page : k + length ys ≤ slot_length * slots

module _ {pages slots : ℕ} {ring : List ℕ} {p k i : ℕ} {ys : List ℕ} (w : PutWithin pages slots ring p k i ys) where
  page_ends : slot_length * (p * slots) + slot_length * slots ≤ length ring
  page_ends = sizes.page_ends w.size p w.in_ring

  ends : i + length ys ≤ length ring
  ends = omega (arith, page_ends)

  pub put_sizes : ring_wrong pages slots ring ≡ false → ring_wrong pages slots (put ring i ys) ≡ false
  put_sizes r = sized_alike pages slots (put ring i ys) ring (length_put ring i ys ends) r

  pub put_page : page_at (put ring i ys) slots p ≡ put (page_at ring slots p) k ys
  unfolding page_at
  put_page =
      ap (λ j. part (put ring j ys) (slot_length * (p * slots)) (slot_length * slots)) w.place
      ∙ part_put_inside ring (slot_length * (p * slots)) (slot_length * slots) k ys page_ends w.in_page

  pub put_whole : k ≡ 0 → length ys ≡ slot_length * slots → page_at (put ring i ys) slots p ≡ ys
  unfolding page_at
  put_whole o l =
      let e : i ≡ slot_length * (p * slots) = omega arith in
      ap (λ j. part (put ring j ys) (slot_length * (p * slots)) (slot_length * slots)) e ∙ part_put_same ring (slot_length * (p * slots)) ys (omega (arith, page_ends)) (slot_length * slots) l

  pub put_other : (q : ℕ) → (q ≡ p → ⊥) → page_at (put ring i ys) slots q ≡ page_at ring slots q
  unfolding page_at
  put_other q n = go (ltb q p) refl
    where
      go : (t : Bool) → ltb q p ≡ t → page_at (put ring i ys) slots q ≡ page_at ring slots q
      go true e = part_put_before ring i ys ends (slot_length * (q * slots)) (slot_length * slots) (omega (arith, page_fits p slots q (ltb-true q p e)))
      go false e =
          let l : p < q = omega (arith, ltb-false q p e) in
          part_put_after ring i ys ends (slot_length * (q * slots)) (slot_length * slots) (omega (arith, page_fits q slots p l))
