-- `settings::last_kind` meets its contract. Assumes nothing.
use borrow.Author.Tests.{eq-eqb, ne_eqb}
use Rattle.settings.proofs.last_kind.Goals as goal

pub returns-then-version-eq1 : goal.returns-then-version-eq1
returns-then-version-eq1 c = rw (eq-eqb c.args.version 1 c.if-version-eq1.true)

pub returns-else-version-eq1 : goal.returns-else-version-eq1
returns-else-version-eq1 c = rw (ne_eqb c.args.version 1 c.if-version-eq1.false)
