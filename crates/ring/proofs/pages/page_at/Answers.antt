-- `ring::pages::page_at` meets its contract: the part is the definition. Assumes nothing.
use Rattle.ring.specs.Ring.{page_at}
use Rattle.ring.proofs.pages.page_at.Goals as goal

pub returns : goal.returns
unfolding page_at
returns c = c.part.ensures
