-- `jobs::advance::finished` meets its contract. Assumes nothing.
use borrow.Author.Rules.{rules}
use Rattle.protocol.specs.Operations.{finished}
use Rattle.jobs.proofs.advance.finished.Goals as goal

pub returns-in-Save : goal.returns-in-Save
unfolding finished
returns-in-Save c = search rules

pub returns-in-PowerUp : goal.returns-in-PowerUp
unfolding finished
returns-in-PowerUp c = search rules
