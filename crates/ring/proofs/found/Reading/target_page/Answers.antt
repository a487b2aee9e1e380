-- `ring::found::Reading::target_page` meets its contract: each branch is a case of the definition. Assumes nothing.
use Rattle.std.proofs.Common.{arith}
use borrow.Author.Tests.{lt-ltb, le-ltb}
use Rattle.ring.specs.Ring.{target_page}
use Rattle.ring.proofs.SizeLaws.{sized}
use Rattle.ring.proofs.found.Reading.target_page.Goals as goal

pub overflow_add-slot : goal.overflow_add-slot
overflow_add-slot c =
    let r = c.args.self.now in
    omega (arith, c.slot.ensures, r.within.slot_in, (sized _ _ _ r.ring.right).numbers.few_slots)

pub next_page-requires : goal.next_page-requires
next_page-requires c = omega (arith, c.page-page.ensures, c.args.self.now.within.page_in)

pub returns-then-slot-self : goal.returns-then-slot-self
unfolding target_page
returns-then-slot-self c = rw (← c.slot.ensures, lt-ltb _ _ c.if-slot-self.true) c.page-page.ensures

pub returns : goal.returns
unfolding target_page
returns c = rw (← c.slot.ensures, le-ltb _ _ c.if-slot-self.false, ← c.page-page.ensures) c.next_page.ensures
