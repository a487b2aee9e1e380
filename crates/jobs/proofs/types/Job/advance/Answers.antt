-- `jobs::types::Job::advance` meets its contract: it stops as the checks say, and else stores. Assumes nothing.
use Rattle.std.proofs.Common.{sym}
use Rattle.std.proofs.lemmas.Result.{err_from_is_err_and}
use Rattle.protocol.specs.Operations.{advance_by, advance}
use Rattle.jobs.proofs.types.Job.advance.Goals as goal

pub store-requires : goal.store-requires
store-requires c = sym c.in_ok-check.ensures

pub returns-in_err-check : goal.returns-in_err-check
unfolding advance advance_by
returns-in_err-check c =
    let p = err_from_is_err_and c.from_residual.result c.from_residual.ensures.1 in
    rw (p.1, p.2, ← c.in_err-check.ensures)

pub returns : goal.returns
unfolding advance advance_by
returns c = rw (← c.in_ok-check.ensures) c.store.ensures
