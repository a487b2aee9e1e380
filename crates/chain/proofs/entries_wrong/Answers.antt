-- `chain::entries_wrong` meets its contract. Assumes nothing.
use borrow.Author.Rules.{rules}
use Rattle.chain.specs.Chain.{entries_wrong}
use Rattle.chain.proofs.entries_wrong.Goals as goal

pub returns : goal.returns
unfolding entries_wrong
returns c = search rules
