-- `ring_shapes::size_wrong` meets its contract. Assumes nothing.
use Rattle.ring_shapes.specs.Shapes.{size_wrong}
use Rattle.ring_shapes.proofs.size_wrong.Goals as goal

pub returns : goal.returns
unfolding size_wrong
returns c = rw c.ring_wrong.ensures
