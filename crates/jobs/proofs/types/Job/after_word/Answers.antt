-- `jobs::types::Job::after_word` meets its contract. Assumes nothing.
use borrow.Author.Tests.{eq-eqb, ne_eqb}
use Rattle.jobs.proofs.types.Job.after_word.Goals as goal

pub returns-then-w-self : goal.returns-then-w-self
returns-then-w-self c ring fram = rw (eq-eqb _ _ c.if-w-self.true) (c.going_on.ensures ring fram)

pub returns-else-w-self : goal.returns-else-w-self
returns-else-w-self c ring fram = rw (ne_eqb _ _ c.if-w-self.false) (c.going_on-else-w-self.ensures ring fram)
