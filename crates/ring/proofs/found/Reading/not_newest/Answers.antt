-- `ring::found::Reading::not_newest` meets its contract: page, slot and record are compared with the newest. Assumes nothing.
use Rattle.ring.specs.Ring.{not_newest}
use Rattle.ring.proofs.found.Reading.not_newest.Goals as goal

pub returns : goal.returns
unfolding not_newest
returns c = rw (c.same.ensures, c.«record».ensures.0, c.page.ensures, c.slot.ensures)
