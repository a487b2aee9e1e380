-- `ring::pages::next_page` meets its contract: each branch is a case of the definition. Assumes nothing.
use borrow.Author.Tests.{eq-eqb, ne_eqb}
use Rattle.ring.specs.Ring.{next_page}
use Rattle.ring.proofs.pages.next_page.Goals as goal

pub returns-then-page-pages : goal.returns-then-page-pages
unfolding next_page
returns-then-page-pages c = simp (eq-eqb _ _ c.if-page-pages.true)

pub returns-else-page-pages : goal.returns-else-page-pages
unfolding next_page
returns-else-page-pages c = simp (ne_eqb _ _ c.if-page-pages.false)
