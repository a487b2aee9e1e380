-- `keeper_c::calls::keeper_advance` meets its contract. Assumes nothing.
use Rattle.std.proofs.Common.{refl, ap, ◌∙◌}
use Rattle.protocol.specs.Types.{Job, this_firmware}
use Rattle.protocol.specs.Operations.{advance}
use Rattle.protocol.specs.Calls.{sizes}
use Rattle.keeper_c.proofs.AdvanceLaws.{no_buffer, held, left, on_goes, on_moves}
use Rattle.keeper_c.proofs.calls.keeper_advance.Goals as goal

pub returns-then-session-ne-SESSION_LENGTH : goal.returns-then-session-ne-SESSION_LENGTH
returns-then-session-ne-SESSION_LENGTH c =
    let a = c.args in
    no_buffer a.ring.now a.fram.now (sizes a.pages a.slots) a.staging.now a.job.now a.session.now c.if-session-ne-SESSION_LENGTH.true _ _
    c.check.ensures c.stopped.ensures

pub put_job-requires : goal.put_job-requires
put_job-requires c =
    let a = c.args in
    let m = c.in-Ok.ensures ∙ ap (λ (j : Job). advance this_firmware a.ring.now a.fram.now record { sizes = sizes a.pages a.slots; job = j; staging = a.staging.now }) c.job_in.ensures in
    held a.ring.now a.fram.now (sizes a.pages a.slots) a.staging.now a.job.now a.session.now c.if-session-ne-SESSION_LENGTH.false _ m (on_goes c.in-Ok.advanced.progress)

pub returns-in-Err : goal.returns-in-Err
returns-in-Err c =
    let a = c.args in
    let m = c.in-Err.ensures ∙ ap (λ (j : Job). advance this_firmware a.ring.now a.fram.now record { sizes = sizes a.pages a.slots; job = j; staging = a.staging.now }) c.job_in.ensures in
    left a.ring.now a.fram.now (sizes a.pages a.slots) a.staging.now a.job.now a.session.now c.if-session-ne-SESSION_LENGTH.false _ m _ _ _ c.stop_number.ensures refl refl

pub returns-in-Ok : goal.returns-in-Ok
returns-in-Ok c =
    let a = c.args in
    let m = c.in-Ok.ensures ∙ ap (λ (j : Job). advance this_firmware a.ring.now a.fram.now record { sizes = sizes a.pages a.slots; job = j; staging = a.staging.now }) c.job_in.ensures in
    let ended = c.put_ended.ensures in
    left a.ring.now a.fram.now (sizes a.pages a.slots) a.staging.now a.job.now a.session.now c.if-session-ne-SESSION_LENGTH.false _ m _ _ _ ended.0
    (c.put_job.ensures ∙ on_moves c.in-Ok.advanced.progress _ a.job.now) ended.1
