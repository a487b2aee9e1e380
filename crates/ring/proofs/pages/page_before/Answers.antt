-- `ring::pages::page_before` meets its contract: each branch is a case of the definition. Assumes nothing.
use borrow.Author.Tests.{eq-eqb, ne_eqb}
use Rattle.ring.specs.Ring.{page_before}
use Rattle.ring.proofs.pages.page_before.Goals as goal

pub returns-then-page-eq0 : goal.returns-then-page-eq0
unfolding page_before
returns-then-page-eq0 c = simp (eq-eqb _ _ c.if-page-eq0.true)

pub returns-else-page-eq0 : goal.returns-else-page-eq0
unfolding page_before
returns-else-page-eq0 c = simp (ne_eqb _ _ c.if-page-eq0.false)
