-- `ring_shapes::put_records` meets its contract: the loop's invariant is that R stands in the slots passed. Assumes nothing.
use Rattle.std.proofs.Common.{refl, sym, ◌∙◌}
use Rattle.ring.specs.Ring.{record_put}
use Rattle.ring_shapes.specs.Shapes.{with_records}
use Rattle.ring_shapes.proofs.RingLaws.{R_is, with_more}
use Rattle.ring_shapes.proofs.put_records.Goals as goal

pub loop-slot-init : goal.loop-slot-init
unfolding with_records
loop-slot-init c = refl

pub loop-slot-preserved : goal.loop-slot-preserved
loop-slot-preserved c =
    let a = c.args in
    let k = c.loop-slot in
    c.write_record.ensures ∙ (λ i. record_put (k.invariant i) a.slots a.page k.slot ((c.record_of-r.ensures ∙ sym R_is) i))
    ∙ with_more a.ring.now a.slots a.page k.slot
