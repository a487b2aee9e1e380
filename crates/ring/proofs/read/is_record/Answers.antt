-- `ring::read::is_record` meets its contract: the place word is the one that the definition reads. Assumes nothing.
use Rattle.ring.specs.Ring.{is_record}
use Rattle.ring.proofs.read.is_record.Goals as goal

pub returns : goal.returns
unfolding is_record
returns c = rw (c.value_of.ensures.0, c.kind_of.ensures, c.word_at-place.ensures)
