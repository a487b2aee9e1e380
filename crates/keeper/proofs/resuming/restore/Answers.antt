-- `keeper::resuming::restore` meets its contract. Assumes nothing.
use Rattle.std.proofs.Common.{refl, sym, arith}
use Rattle.std.proofs.lemmas.Result.{err_from_is_err_and}
use Rattle.octets.specs.Limits.{part_limit}
use Rattle.checkpoint.specs.Half.{form_of}
use Rattle.checkpoint.proofs.StoredLaws.{head_facts}
use Rattle.jobs.specs.View.{view_phase}
use Rattle.keeper.proofs.ResumeLaws.{restore_stops, restore_begins}
use Rattle.keeper.proofs.resuming.restore.Goals as goal

pub overflow_add-job : goal.overflow_add-job
overflow_add-job c =
    let h = c.args.restart.now.head in
    omega (arith, h.says.open_is, (head_facts part_limit (form_of h.half.now) h.half.now h.says.good).open_small)

pub overflow_add-job-2 : goal.overflow_add-job-2
overflow_add-job-2 c =
    let h = c.args.restart.now.head in
    let f = head_facts part_limit (form_of h.half.now) h.half.now h.says.good in
    omega (arith, h.says.open_is, h.says.secret_is, f.open_small, f.secret_small)

pub overflow_add-job-3 : goal.overflow_add-job-3
overflow_add-job-3 c =
    let h = c.args.restart.now.head in
    omega (arith, h.says.restarts_is, (head_facts part_limit (form_of h.half.now) h.half.now h.says.good).restarts_small)

pub returns-in_err-tag : goal.returns-in_err-tag
returns-in_err-tag c =
    let a = c.args in
    let made = c.in_err-tag.ensures in
    let left = made.stops _ refl in
    let p = err_from_is_err_and c.from_residual.result c.from_residual.ensures.1 in
    rw (p.1, p.2) (restore_stops _ _ _ a.key.now _ _ a.staging.now _ a.state.now _ _ (sym made.check) refl left.0 left.1)

pub returns : goal.returns
returns c =
    let a = c.args in
    let h = a.restart.now.head in
    let made = c.in_ok-tag.ensures in
    restore_begins a.key.now a.restart.now.latest.now h.half.now a.restart.now.nonce.now h.says.good _ h.packet h.open_part h.secret h.restarts a.target.half a.target.page a.target.slot (view_phase a.phase) _
    a.staging.now _ a.state.now _ _ (sym made.check) h.says.packet_is h.says.open_is h.says.secret_is h.says.restarts_is c.array.ensures (made.begins _ refl)
