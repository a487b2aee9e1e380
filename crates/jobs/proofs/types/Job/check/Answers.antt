-- `jobs::types::Job::check` meets its contract: the stops of the memories, then those of the job. Assumes nothing.
use Rattle.std.proofs.Common.{sym}
use Rattle.std.proofs.lemmas.Result.{err_from_is_err_and}
use Rattle.stops.proofs.Laws.{passes}
use Rattle.checkpoint.specs.Fram.{half_length}
use Rattle.protocol.specs.Operations.{staging_wrong}
use Rattle.jobs.specs.View.{advances}
use Rattle.jobs.proofs.AdvanceLaws.{memories_stop, memories_pass}
use Rattle.jobs.proofs.types.Job.check.Goals as goal

pub wrong-requires : goal.wrong-requires
wrong-requires c = (passes _ (sym c.in_ok-check.ensures)).0

pub returns-in_err-check : goal.returns-in_err-check
returns-in_err-check c =
    let a = c.args in
    let p = err_from_is_err_and c.from_residual.result c.from_residual.ensures.1 in
    rw (p.1, p.2)
    (sym (memories_stop a.ring.now a.fram.now (advances a.pages a.slots a.self a.staging.now) _ (sym c.in_err-check.ensures)))

pub returns : goal.returns
unfolding staging_wrong half_length
returns c =
    let a = c.args in
    rw (c.stop_if-2.ensures, c.wrong.ensures, c.stop_if.ensures)
    (sym (memories_pass a.ring.now a.fram.now (advances a.pages a.slots a.self a.staging.now) (sym c.in_ok-check.ensures)))
