-- `ring::pages::Ring::pair` meets its contract: which page follows picks the case of the definition. Assumes nothing.
use borrow.Author.Tests.{eq-eqb, ne_eqb}
use Rattle.ring.specs.Ring.{reading}
use Rattle.ring.proofs.pages.Ring.pair.Goals as goal

pub returns-then-q-next_page : goal.returns-then-q-next_page
unfolding reading
returns-then-q-next_page c = rw (← c.next_page.ensures, eq-eqb _ _ c.if-q-next_page.true) c.followed.ensures

pub returns-then-p-next_page : goal.returns-then-p-next_page
unfolding reading
returns-then-p-next_page c =
    rw (
      ← c.next_page.ensures,
      ne_eqb _ _ c.if-q-next_page.false,
      ← c.next_page-2.ensures,
      eq-eqb _ _ c.if-p-next_page.true,
    ) c.followed-then-p-next_page.ensures

pub returns : goal.returns
unfolding reading
returns c =
    rw (
      ← c.next_page.ensures,
      ne_eqb _ _ c.if-q-next_page.false,
      ← c.next_page-2.ensures,
      ne_eqb _ _ c.if-p-next_page.false,
    )
