-- `saves::saving::save_restarts` meets its contract. Assumes nothing.
use borrow.Author.Tests.{lt-ltb, le-ltb}
use Rattle.protocol.specs.Operations.{save_restarts}
use Rattle.saves.proofs.saving.save_restarts.Goals as goal

pub returns-then-known-heard : goal.returns-then-known-heard
unfolding save_restarts
returns-then-known-heard c = rw (lt-ltb _ _ c.if-known-heard.true)

pub returns-else-known-heard : goal.returns-else-known-heard
unfolding save_restarts
returns-else-known-heard c = rw (le-ltb _ _ c.if-known-heard.false)
