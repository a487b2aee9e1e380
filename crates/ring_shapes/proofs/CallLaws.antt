-- The outcomes of the call, and the sizes that it takes. Assumes nothing.
use Prim.Native.Nat.{ℕ, zero, suc, ◌+◌, ◌-◌, ◌*◌, ◌/◌, ◌%◌, ◌≤◌, ◌<◌}
use mathlib.Core.Path.{◌≡◌, refl, ap, ◌∙◌}
use mathlib.Core.Bool.{Bool, true, false, not}
use mathlib.Core.Option.{none, some}
use mathlib.Core.List.{List}
use native.Mathlib.Omega.{arith}
use lib.ListN.{length}
use lib.Dec.{ltb}
use borrow.Author.Tests.{ltb-true, ltb-false, le-ltb, lt-ltb, not-false}
use Rattle.octets.specs.Limits.{shape_pages_limit, shape_slots_limit}
use Rattle.stops.specs.Stops.{first_of}
use Rattle.stops.proofs.Laws.{neither}
use Rattle.ring.specs.Ring.{ring_wrong, page_before}
use Rattle.ring.proofs.SizeLaws.{Sized, sized, right_size, sized_alike}
use Rattle.ring_shapes.specs.Shapes.{shapes, with_records, blank_ring, ring_of, ring_number, size_wrong, past_last, shape_stop, shaped_by, ring_shape}
use Rattle.ring_shapes.specs.Each.{Small, StopsExactly}
use Rattle.ring_shapes.proofs.PlaceLaws.{page_shape, in_all, number_is, Place, place_of}

module _ (pages slots number : ℕ) (ring : List ℕ) where
  pub stops_1 : size_wrong pages slots ring ≡ true → record { stop = some 1; ring = ring } ≡ ring_shape pages slots number ring
  unfolding ring_shape shaped_by shape_stop first_of
  stops_1 w = rw w

  pub stops_26 : size_wrong pages slots ring ≡ false → past_last pages slots number ≡ true → record { stop = some 26; ring = ring } ≡ ring_shape pages slots number ring
  unfolding ring_shape shaped_by shape_stop first_of
  stops_26 w l = rw (w, l)

  pub written : (left : List ℕ) → size_wrong pages slots ring ≡ false → past_last pages slots number ≡ false → left ≡ ring_number pages slots number
      → record { stop = none; ring = left } ≡ ring_shape pages slots number ring
  unfolding ring_shape shaped_by shape_stop first_of
  written left w l e = rw (w, l, e)

-- a page has one shape more than it has slots
pub past_is : (pages slots number : ℕ) → ltb (pages * (slots + 1)) number ≡ past_last pages slots number
unfolding past_last
past_is pages slots number = go (ltb number (length (shapes pages slots))) refl
  where
    go : (t : Bool) → ltb number (length (shapes pages slots)) ≡ t → ltb (pages * (slots + 1)) number ≡ not t
    go true e = le-ltb (pages * (slots + 1)) number (omega (arith, ltb-true number (length (shapes pages slots)) e, in_all pages slots))
    go false e = lt-ltb (pages * (slots + 1)) number (omega (arith, ltb-false number (length (shapes pages slots)) e, in_all pages slots))

-- ---- a number that is not past the last, and not 0

pub place_in : (pages slots number : ℕ) → 0 < number → past_last pages slots number ≡ false → Place pages slots number ((number - 1) / (slots + 1)) ((number - 1) % (slots + 1))
unfolding past_last
place_in pages slots number z l = place_of pages slots number z (ltb-true _ _ (not-false _ l))

module _ {pages slots number page j : ℕ} (a : Place pages slots number page j) where
  number_at : ring_number pages slots number ≡ ring_of pages slots (page_shape page j)
  number_at = ap (ring_number pages slots) a.number ∙ number_is pages slots page j a.page_in a.shape_in

  pub number_alone : 0 < j → ring_number pages slots number ≡ with_records (blank_ring pages slots) slots page j
  unfolding ring_of
  number_alone z = number_at ∙ go j z
    where
      go : (j : ℕ) → 0 < j → ring_of pages slots (page_shape page j) ≡ with_records (blank_ring pages slots) slots page j
      go zero z = absurd (omega arith)
      go (suc s) z = refl

  pub number_pending : j ≡ 0 → ring_number pages slots number ≡ with_records (with_records (blank_ring pages slots) slots (page_before pages page) slots) slots page 1
  unfolding ring_of
  number_pending e = number_at ∙ ap (λ (i : ℕ). ring_of pages slots (page_shape page i)) e

pub number_none : (pages slots : ℕ) → ring_number pages slots 0 ≡ blank_ring pages slots
unfolding ring_number shapes ring_of
number_none pages slots = refl

-- ---- the sizes that are taken

-- what stop 1 tests: the ring's sizes, and the two limits
parts : (pages slots : ℕ) (ring : List ℕ) → size_wrong pages slots ring ≡ false
    → (ring_wrong pages slots ring ≡ false) × (pages ≤ shape_pages_limit) × (slots ≤ shape_slots_limit)
unfolding size_wrong
parts pages slots ring w =
    let b = neither _ _ w in
    let a = neither _ _ b.0 in
    (a.0, ltb-false _ _ a.1, ltb-false _ _ b.1)

from_parts : (pages slots : ℕ) (ring : List ℕ) → ring_wrong pages slots ring ≡ false → pages ≤ shape_pages_limit → slots ≤ shape_slots_limit
    → size_wrong pages slots ring ≡ false
unfolding size_wrong
from_parts pages slots ring r p s = rw (r, le-ltb shape_pages_limit pages p, le-ltb shape_slots_limit slots s)

pub size_alike : (pages slots : ℕ) (a b : List ℕ) → length a ≡ length b → size_wrong pages slots b ≡ false → size_wrong pages slots a ≡ false
size_alike pages slots a b e w =
    let q = parts pages slots b w in
    from_parts pages slots a (sized_alike pages slots a b e q.0) q.1 q.2

pub right : (pages slots : ℕ) (ring : List ℕ) → size_wrong pages slots ring ≡ false → Sized pages slots ring
right pages slots ring w = sized pages slots ring (parts pages slots ring w).0

pub small : (pages slots : ℕ) (ring : List ℕ) → size_wrong pages slots ring ≡ false → Small pages slots ring
small pages slots ring w =
    let q = parts pages slots ring w in
    let z = right pages slots ring w in
    record { few_pages = (z.numbers.some_pages, q.1); few_slots = (z.numbers.some_slots, q.2); bytes = z.bytes }

taken : (pages slots : ℕ) (ring : List ℕ) → Small pages slots ring → size_wrong pages slots ring ≡ false
taken pages slots ring s =
    from_parts pages slots ring
    (right_size (record {
      numbers = record {
        some_pages = s.few_pages.0;
        few_pages = omega (arith, s.few_pages.1);
        some_slots = s.few_slots.0;
        few_slots = omega (arith, s.few_slots.1);
      };
      bytes = s.bytes;
    }))
    s.few_pages.1 s.few_slots.1

pub stops_exactly : (pages slots number : ℕ) (ring : List ℕ) → StopsExactly pages slots number ring
unfolding shape_stop first_of past_last
stops_exactly pages slots number ring = record {
  other_sizes = λ n. go n (size_wrong pages slots ring) refl;
  past = λ s l. rw (taken pages slots ring s, le-ltb number (length (shapes pages slots)) (omega (arith, in_all pages slots)));
  there = λ s l. rw (taken pages slots ring s, lt-ltb number (length (shapes pages slots)) (omega (arith, in_all pages slots)));
}
  where
    go : (Small pages slots ring → ⊥) → (t : Bool) → size_wrong pages slots ring ≡ t → shape_stop pages slots number ring ≡ some 1
    go n true w = rw w
    go n false w = absurd (n (small pages slots ring w))
