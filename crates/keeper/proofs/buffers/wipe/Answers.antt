-- `keeper::buffers::wipe` meets its contract. Assumes nothing.
use borrow.Author.Rules.{rules}
use Rattle.protocol.specs.Operations.{wipe}
use Rattle.keeper.proofs.buffers.wipe.Goals as goal

pub returns : goal.returns
unfolding wipe
returns c = search rules
