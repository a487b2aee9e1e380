-- `trace::run_trace` meets its contract: the check picks the case of the definition. Assumes nothing.
use Rattle.std.proofs.lemmas.Result.{err_from_is_err_and}
use Rattle.trace.proofs.Outcomes.{trace_passes, refused_run, passed_run}
use Rattle.trace.proofs.run.run_trace.Goals as goal

pub run_words-requires : goal.run_words-requires
run_words-requires c =
    trace_passes _ _ _ _ _ c.in_ok-trace_check.ensures

pub returns-in_err-trace_check : goal.returns-in_err-trace_check
returns-in_err-trace_check c =
    let p = err_from_is_err_and c.from_residual.result c.from_residual.ensures.1 in
    rw (p.1, p.2) (refused_run _ _ _ _ _ _ c.in_err-trace_check.ensures, tt)

pub returns : goal.returns
returns c =
    (passed_run _ _ _ _ _ _ _ _ _ c.in_ok-trace_check.ensures c.run_words.ensures, c.run_words.ensures.fits)
