-- `ring::pages::slot_at` meets its contract: the part is the definition. Assumes nothing.
use Rattle.ring.specs.Ring.{slot_at}
use Rattle.ring.proofs.pages.slot_at.Goals as goal

pub returns : goal.returns
unfolding slot_at
returns c = c.part.ensures
