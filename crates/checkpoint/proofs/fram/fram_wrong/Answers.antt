-- `checkpoint::fram::fram_wrong` meets its contract. Assumes nothing.
use borrow.Author.Rules.{rules}
use Rattle.checkpoint.specs.Fram.{fram_wrong}
use Rattle.checkpoint.proofs.fram.fram_wrong.Goals as goal

pub returns : goal.returns
unfolding fram_wrong
returns c = search rules
