-- `memories::check_newest` meets its contract. Assumes nothing.
use Rattle.stops.proofs.Laws.{tried, tried_first}
use Rattle.memories.proofs.check_newest.Goals as goal

pub returns : goal.returns
unfolding tried
returns c =
    rw (c.stop_if-2.ensures, c.is_unreadable.ensures, c.stop_if.ensures, c.is_blank.ensures) (tried_first _)
