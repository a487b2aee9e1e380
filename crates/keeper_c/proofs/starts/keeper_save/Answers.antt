-- `keeper_c::starts::keeper_save` meets its contract. Assumes nothing.
use Rattle.std.proofs.Common.{refl, ap, ◌∙◌}
use Rattle.protocol.specs.Types.{this_firmware}
use Rattle.protocol.specs.Calls.{From, saves}
use Rattle.protocol.specs.Operations.{save_stop, save}
use Rattle.saves.specs.View.{save_arguments}
use Rattle.keeper_c.specs.Calls.{saves_in}
use Rattle.keeper_c.proofs.StartLaws.{save_bad, save_good}
use Rattle.keeper_c.proofs.FromLaws.{stops_alike, saves_alike}
use Rattle.keeper_c.proofs.starts.keeper_save.Goals as goal

pub returns-then-job-ne-JOB_LENGTH : goal.returns-then-job-ne-JOB_LENGTH
returns-then-job-ne-JOB_LENGTH c =
    let a = c.args in
    let arguments = save_arguments a.pages a.slots a.key.now a.nonce.now a.packet a.open_part.now a.secret.now a.staging.now in
    save_bad a.ring.now a.fram.now a.job.now (saves_in arguments a.from.now) c.if-job-ne-JOB_LENGTH.true _ _
    (c.save_check-check.ensures ∙ ap (λ (f : From). save_stop this_firmware a.ring.now a.fram.now (saves arguments f)) c.from_in-follows.ensures ∙ stops_alike a.ring.now a.fram.now arguments a.from.now) c.stopped.ensures

pub returns-in-Err : goal.returns-in-Err
returns-in-Err c =
    let a = c.args in
    let arguments = save_arguments a.pages a.slots a.key.now a.nonce.now a.packet a.open_part.now a.secret.now a.staging.now in
    save_good a.ring.now a.fram.now a.job.now c.if-job-ne-JOB_LENGTH.false _ _ _ (saves_in arguments a.from.now)
    (c.in-Err.ensures ∙ ap (λ (f : From). save this_firmware a.ring.now a.fram.now (saves arguments f)) c.from_in-follows.ensures ∙ saves_alike a.ring.now a.fram.now arguments a.from.now)
    c.stop_number.ensures refl refl

pub returns-in-Ok : goal.returns-in-Ok
returns-in-Ok c =
    let a = c.args in
    let arguments = save_arguments a.pages a.slots a.key.now a.nonce.now a.packet a.open_part.now a.secret.now a.staging.now in
    save_good a.ring.now a.fram.now a.job.now c.if-job-ne-JOB_LENGTH.false _ _ _ (saves_in arguments a.from.now)
    (c.in-Ok.ensures ∙ ap (λ (f : From). save this_firmware a.ring.now a.fram.now (saves arguments f)) c.from_in-follows.ensures ∙ saves_alike a.ring.now a.fram.now arguments a.from.now)
    refl c.put_job.ensures refl
