-- `ring::found::half_named` meets its contract: the value is that of the place word. Assumes nothing.
use Rattle.ring.specs.Ring.{half_named}
use Rattle.ring.proofs.found.half_named.Goals as goal

pub returns : goal.returns
unfolding half_named
returns c = rw (c.value_of.ensures.0, c.word_at.ensures)
