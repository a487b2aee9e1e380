-- `ring_shapes::ring_shape` meets its contract. Assumes nothing.
use Prim.Native.Nat.{ℕ, ◌<◌}
use mathlib.Core.Path.{◌≡◌, sym, ap, ◌∙◌}
use mathlib.Core.Bool.{false}
use mathlib.Core.List.{List}
use native.Mathlib.Omega.{arith}
use lib.ListN.{length, length-replicate}
use Rattle.octets.specs.Octets.{erased}
use Rattle.ring_shapes.specs.Shapes.{blank_ring, ring_number, size_wrong, past_last}
use Rattle.ring_shapes.specs.Inner.{ToShape}
use Rattle.ring_shapes.proofs.CallLaws.{right, small, size_alike, stops_1, stops_26, written, number_none}
use Rattle.ring_shapes.proofs.ring_shape.Goals as goal

-- the buffer after it was filled
filled : (pages slots : ℕ) (ring left : List ℕ) → size_wrong pages slots ring ≡ false → left ≡ erased (length ring) → left ≡ blank_ring pages slots
filled pages slots ring left w e = e ∙ ap erased (right pages slots ring w).bytes

to_shape : (pages slots number : ℕ) (ring left : List ℕ) → size_wrong pages slots ring ≡ false → past_last pages slots number ≡ false → left ≡ erased (length ring)
    → 0 < number → ToShape pages slots number left
to_shape pages slots number ring left w l e z = record {
  size = size_alike pages slots left ring (ap length e ∙ length-replicate (length ring) 0xFF) w;
  none_yet = filled pages slots ring left w e;
  not_first = z;
  there = l;
}

pub returns-then-size_wrong : goal.returns-then-size_wrong
returns-then-size_wrong c =
    let a = c.args in
    stops_1 a.pages a.slots a.number a.ring.now (sym c.size_wrong.ensures ∙ c.if-size_wrong.true)

pub past_last-requires : goal.past_last-requires
past_last-requires c =
    let a = c.args in
    let s = small a.pages a.slots a.ring.now (sym c.size_wrong.ensures ∙ c.if-size_wrong.false) in
    (s.few_pages.1, s.few_slots.1)

pub returns-then-past_last : goal.returns-then-past_last
returns-then-past_last c =
    let a = c.args in
    stops_26 a.pages a.slots a.number a.ring.now (sym c.size_wrong.ensures ∙ c.if-size_wrong.false)
    (sym c.past_last.ensures ∙ c.if-past_last.true)

pub put_shape-requires : goal.put_shape-requires
put_shape-requires c =
    let a = c.args in
    to_shape a.pages a.slots a.number a.ring.now _ (sym c.size_wrong.ensures ∙ c.if-size_wrong.false)
    (sym c.past_last.ensures ∙ c.if-past_last.false) c.fill.ensures c.if-number-gt0.true

pub returns-then-number-gt0 : goal.returns-then-number-gt0
returns-then-number-gt0 c =
    let a = c.args in
    written a.pages a.slots a.number a.ring.now _ (sym c.size_wrong.ensures ∙ c.if-size_wrong.false)
    (sym c.past_last.ensures ∙ c.if-past_last.false) c.put_shape.ensures

pub returns-else-number-gt0 : goal.returns-else-number-gt0
returns-else-number-gt0 c =
    let a = c.args in
    let w : size_wrong a.pages a.slots a.ring.now ≡ false = sym c.size_wrong.ensures ∙ c.if-size_wrong.false in
    let z : a.number ≡ 0 = omega arith in
    written a.pages a.slots a.number a.ring.now _ w (sym c.past_last.ensures ∙ c.if-past_last.false)
    (filled a.pages a.slots a.ring.now _ w c.fill.ensures ∙ sym (number_none a.pages a.slots) ∙ ap (ring_number a.pages a.slots) (sym z))
