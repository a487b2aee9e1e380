-- `ring::stores::write_record` meets its contract. Assumes nothing.
use Rattle.ring.specs.Ring.{record_put}
use Rattle.ring.proofs.stores.write_record.Goals as goal

pub returns : goal.returns
unfolding record_put
returns c = c.copy_at.ensures
