-- `checkpoint::fram::part_wrong` meets its contract. Assumes nothing.
use borrow.Author.Rules.{rules}
use Rattle.checkpoint.specs.Checkpoint.{part_wrong}
use Rattle.checkpoint.proofs.fram.part_wrong.Goals as goal

pub returns : goal.returns
unfolding part_wrong
returns c = search rules
