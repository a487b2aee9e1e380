-- `ring_shapes::past_last` meets its contract. Assumes nothing.
use Rattle.ring_shapes.proofs.CallLaws.{past_is}
use Rattle.ring_shapes.proofs.past_last.Goals as goal

pub returns : goal.returns
returns c = past_is c.args.pages c.args.slots c.args.number
