-- `ring_shapes::put_shape` meets its contract: quotient and remainder are the page of the number's shape and its place there. Assumes nothing.
use Prim.Native.Nat.{ℕ, ◌+◌, ◌-◌, ◌*◌, ◌/◌, ◌%◌, ◌≤◌, ◌<◌}
use mathlib.Core.Path.{◌≡◌, sym, ap, ◌∙◌}
use mathlib.Core.List.{List}
use native.Mathlib.Omega.{arith}
use lib.ListN.{length}
use Rattle.octets.specs.Limits.{slot_length}
use Rattle.ring.specs.Ring.{page_before}
use Rattle.ring.proofs.SizeLaws.{Sized, page_ends}
use Rattle.ring.proofs.TurnLaws.{before_laws}
use Rattle.ring_shapes.specs.Shapes.{with_records, ring_number}
use Rattle.ring_shapes.specs.Inner.{ToShape}
use Rattle.ring_shapes.proofs.PlaceLaws.{Place}
use Rattle.ring_shapes.proofs.RingLaws.{with_length}
use Rattle.ring_shapes.proofs.CallLaws.{right, place_in, number_alone, number_pending}
use Rattle.ring_shapes.proofs.put_shape.Goals as goal

module _ {pages slots number : ℕ} {ring : List ℕ} (h : ToShape pages slots number ring) where
  -- the page of the shape, and its place there
  abbrev p : ℕ
  p = (number - 1) / (slots + 1)

  abbrev j : ℕ
  j = (number - 1) % (slots + 1)

  place : Place pages slots number p j
  place = place_in pages slots number h.not_first h.there

  size : Sized pages slots ring
  size = right pages slots ring h.size

  ends : slot_length * (p * slots) + slot_length * slots ≤ length ring
  ends = page_ends size p place.page_in

  before_ends : slot_length * (page_before pages p * slots + slots) ≤ length ring
  before_ends = omega (arith, page_ends size (page_before pages p) (before_laws pages p size.numbers.some_pages place.page_in).in_ring)

  alone_is : (left : List ℕ) → 0 < j → left ≡ with_records ring slots p j → left ≡ ring_number pages slots number
  alone_is left z e = e ∙ ap (λ (r : List ℕ). with_records r slots p j) h.none_yet ∙ sym (number_alone place z)

  module _ (before : ℕ) (first : List ℕ) (b : before ≡ page_before pages p) (f : first ≡ with_records ring slots before slots) where
    first_is : first ≡ with_records ring slots (page_before pages p) slots
    first_is = f ∙ ap (λ (q : ℕ). with_records ring slots q slots) b

    first_length : length first ≡ length ring
    first_length = ap length first_is ∙ with_length ring slots (page_before pages p) slots before_ends

    pending_is : (left : List ℕ) → j ≤ 0 → left ≡ with_records first slots p 1 → left ≡ ring_number pages slots number
    pending_is left z e =
        let o : j ≡ 0 = omega arith in
        e ∙ ap (λ (r : List ℕ). with_records r slots p 1) (first_is ∙ ap (λ (r : List ℕ). with_records r slots (page_before pages p) slots) h.none_yet)
        ∙ sym (number_pending place o)

pub overflow_add-page : goal.overflow_add-page
overflow_add-page c = omega (arith, (size c.requires).numbers.few_slots)

pub overflow_add-records : goal.overflow_add-records
overflow_add-records c = omega (arith, (size c.requires).numbers.few_slots)

pub put_records-requires : goal.put_records-requires
put_records-requires c =
    let h = c.requires in
    omega (arith, ends h, (place h).shape_in)

pub returns-then-records-gt0 : goal.returns-then-records-gt0
returns-then-records-gt0 c =
    alone_is c.requires _ c.if-records-gt0.true c.put_records.ensures

pub page_before-before-requires : goal.page_before-before-requires
page_before-before-requires c =
    let h = c.requires in
    omega (arith, (place h).page_in, (place h).number)

pub put_records-requires-2 : goal.put_records-requires-2
put_records-requires-2 c = rw c.page_before-before.ensures (omega (arith, before_ends c.requires))

pub put_records-requires-3 : goal.put_records-requires-3
put_records-requires-3 c =
    let h = c.requires in
    omega (arith, ends h, (size h).numbers.some_slots, first_length h _ _ c.page_before-before.ensures c.put_records-2.ensures)

pub returns : goal.returns
returns c =
    let h = c.requires in
    pending_is h _ _ c.page_before-before.ensures c.put_records-2.ensures _ c.if-records-gt0.false c.put_records-3.ensures
