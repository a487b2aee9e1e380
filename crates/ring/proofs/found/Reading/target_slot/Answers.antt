-- `ring::found::Reading::target_slot` meets its contract: each branch is a case of the definition. Assumes nothing.
use Rattle.std.proofs.Common.{arith}
use borrow.Author.Tests.{lt-ltb, le-ltb}
use Rattle.ring.specs.Ring.{target_slot}
use Rattle.ring.proofs.SizeLaws.{sized}
use Rattle.ring.proofs.found.Reading.target_slot.Goals as goal

pub overflow_add-slot : goal.overflow_add-slot
overflow_add-slot c =
    let r = c.args.self.now in
    omega (arith, c.slot-slot.ensures, r.within.slot_in, (sized _ _ _ r.ring.right).numbers.few_slots)

pub returns-then-slot-self : goal.returns-then-slot-self
unfolding target_slot
returns-then-slot-self c = rw (← c.slot-slot.ensures, lt-ltb _ _ c.if-slot-self.true)

pub returns-else-slot-self : goal.returns-else-slot-self
unfolding target_slot
returns-else-slot-self c = rw (← c.slot-slot.ensures, le-ltb _ _ c.if-slot-self.false)
