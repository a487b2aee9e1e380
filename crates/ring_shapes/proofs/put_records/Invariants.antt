-- `ring_shapes::put_records` meets its contract: the loop's invariant is that R stands in the slots passed. Assumes nothing.
use Rattle.std.proofs.Common.{◌≡◌}
use Rattle.ring_shapes.specs.Shapes.{with_records}
use Rattle.ring_shapes.proofs.put_records.Given as goal

abbrev pub invariant-loop-slot : goal.invariant-loop-slot
invariant-loop-slot l = l.ring ≡ with_records l.initial.ring l.slots l.page l.slot
