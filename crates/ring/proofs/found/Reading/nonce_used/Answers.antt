-- `ring::found::Reading::nonce_used` meets its contract: the page and the number of slots are the newest record's. Assumes nothing.
use Rattle.std.proofs.Common.{arith}
use native.Mathlib.Numerals.{add-one}
use Rattle.ring.specs.Ring.{nonce_used}
use Rattle.ring.proofs.SizeLaws.{sized}
use Rattle.ring.proofs.found.Reading.nonce_used.Goals as goal

pub page-requires-2 : goal.page-requires-2
page-requires-2 c = omega (arith, c.page.ensures, c.args.self.now.within.page_in)

pub overflow_add-slot : goal.overflow_add-slot
overflow_add-slot c =
    let r = c.args.self.now in
    omega (arith, c.slot.ensures, r.within.slot_in, (sized _ _ _ r.ring.right).numbers.few_slots)

pub nonce_in-requires : goal.nonce_in-requires
nonce_in-requires c = omega (arith, c.page-2.ensures.1, c.slot.ensures, c.args.self.now.within.slot_in)

pub returns : goal.returns
unfolding nonce_used
returns c = rw (c.nonce_in.ensures, c.page-2.ensures.0, c.page.ensures, c.slot.ensures, add-one)
