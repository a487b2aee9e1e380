-- `checkpoint::half::tag_at` meets its contract. Assumes nothing.
use Rattle.std.proofs.Common.{arith, length-take, length-drop, rules}
use Rattle.octets.specs.Octets.{part}
use Rattle.checkpoint.proofs.half.tag_at.Goals as goal

pub tag_of-requires : goal.tag_of-requires
tag_of-requires c = (search rules, simp length-take (omega arith), simp (length-take, length-drop) (omega arith))

pub returns : goal.returns
unfolding part
returns c = c.tag_of.ensures

pub slice_bounds-tag_of-end : goal.slice_bounds-tag_of-end
slice_bounds-tag_of-end c = simp length-take (omega arith)
