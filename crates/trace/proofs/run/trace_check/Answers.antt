-- `trace::run::trace_check` meets its contract: the conditions tried in turn are the list's. Assumes nothing.
use Rattle.stops.proofs.Laws.{tried, tried_first}
use Rattle.trace.specs.Trace.{trace_stop}
use Rattle.trace.proofs.run.trace_check.Goals as goal

pub returns : goal.returns
unfolding trace_stop tried
returns c =
    rw (c.stop_if-5.ensures, c.trace_wrong.ensures, c.stop_if-4.ensures, c.stop_if-3.ensures, c.key_wrong.ensures, c.stop_if-2.ensures, c.stop_if.ensures) (tried_first _)
