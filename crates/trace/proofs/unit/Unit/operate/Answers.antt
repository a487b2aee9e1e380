-- `trace::Unit::operate` meets its contract. Assumes nothing.
use Rattle.std.proofs.Common.{◌∙◌}
use Rattle.std.proofs.lemmas.Result.{err_from_is_err_and}
use Rattle.trace.specs.View.{view_unit}
use Rattle.trace.proofs.Stepping.{operates, refuses, until_cut}
use Rattle.trace.proofs.unit.Unit.operate.Goals as goal

pub returns-in_err-job : goal.returns-in_err-job
returns-in_err-job c =
    let a = c.args in
    let p = err_from_is_err_and c.from_residual.result c.from_residual.ensures.1 in
    rw (p.1, p.2) (refuses a.key.now (view_unit a.self a.ring.now a.fram.now) a.w _ _ c.in_err-job.ensures)

pub returns : goal.returns
returns c =
    let a = c.args in
    operates a.key.now (view_unit a.self a.ring.now a.fram.now) a.w _ _ _ _ _ _ c.in_ok-job.ensures (c.unwrap_or.ensures ∙ until_cut a.self.cut) c.store_on.ensures
