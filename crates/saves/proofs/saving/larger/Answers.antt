-- `saves::saving::larger` meets its contract. Assumes nothing.
use borrow.Author.Tests.{lt-ltb, le-ltb}
use Rattle.protocol.specs.Operations.{larger}
use Rattle.saves.proofs.saving.larger.Goals as goal

pub returns-then-a-b : goal.returns-then-a-b
unfolding larger
returns-then-a-b c = rw (lt-ltb _ _ c.if-a-b.true)

pub returns-else-a-b : goal.returns-else-a-b
unfolding larger
returns-else-a-b c = rw (le-ltb _ _ c.if-a-b.false)
