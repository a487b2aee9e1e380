-- `memories::Memories::check` meets its contract. Assumes nothing.
use Rattle.stops.proofs.Laws.{tried, tried_first}
use Rattle.memories.proofs.Memories.check.Goals as goal

pub returns : goal.returns
unfolding tried
returns c =
    rw (c.stop_if-2.ensures, c.fram_wrong.ensures, c.stop_if.ensures, c.ring_wrong.ensures) (tried_first _)
