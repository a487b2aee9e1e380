-- `ring::found::Reading::record` meets its contract: the slot is the newest record's. Assumes nothing.
use Rattle.std.proofs.Common.{arith}
use Rattle.ring.specs.Ring.{newest_record}
use Rattle.ring.proofs.SizeLaws.{sized, slot_ends}
use Rattle.ring.proofs.found.Reading.record.Goals as goal

pub slot_at-requires : goal.slot_at-requires
slot_at-requires c =
    let r = c.args.self.now in
    slot_ends (sized _ _ _ r.ring.right) c.page.result (omega (arith, c.page.ensures, r.within.page_in)) c.slot.result (omega (arith, c.slot.ensures, r.within.slot_in))

pub returns : goal.returns
unfolding newest_record
returns c = (rw (c.slot_at.ensures.0, c.page.ensures, c.slot.ensures), c.slot_at.ensures.1)
