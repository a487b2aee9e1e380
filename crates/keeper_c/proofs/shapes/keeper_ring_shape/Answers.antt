-- `keeper_c::shapes::keeper_ring_shape` meets its contract. Assumes nothing.
use mathlib.Core.Path.{ap, ◌∙◌}
use Rattle.ring_shapes.specs.Shapes.{Shaped}
use Rattle.keeper_c.specs.Calls.{answer}
use Rattle.keeper_c.proofs.shapes.keeper_ring_shape.Goals as goal

pub returns : goal.returns
returns c =
    let shaped = c.ring_shape.ensures in
    (c.answer.ensures ∙ ap (λ (o : Shaped). answer o.stop) shaped, ap (λ (o : Shaped). o.ring) shaped)
