-- `saves::saving::session_wrong` meets its contract. Assumes nothing.
use borrow.Author.Rules.{rules}
use Rattle.protocol.specs.Operations.{session_wrong}
use Rattle.saves.proofs.saving.session_wrong.Goals as goal

pub returns : goal.returns
unfolding session_wrong
returns c = search rules
