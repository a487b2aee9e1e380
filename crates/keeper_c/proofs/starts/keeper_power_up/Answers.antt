-- `keeper_c::starts::keeper_power_up` meets its contract. Assumes nothing.
use Rattle.std.proofs.Common.{refl}
use Rattle.keeper.specs.View.{powers_up}
use Rattle.keeper_c.proofs.StartLaws.{power_up_bad, power_up_good}
use Rattle.keeper_c.proofs.starts.keeper_power_up.Goals as goal

pub returns-then-job-ne-JOB_LENGTH : goal.returns-then-job-ne-JOB_LENGTH
returns-then-job-ne-JOB_LENGTH c =
    let a = c.args in
    power_up_bad a.ring.now a.fram.now a.job.now (powers_up a.pages a.slots a.key.now a.nonce.now a.staging.now a.state.now) a.secret_len.now c.if-job-ne-JOB_LENGTH.true _ _
    c.power_up_check-check.ensures c.stopped.ensures

pub returns-in-Err : goal.returns-in-Err
returns-in-Err c =
    let a = c.args in
    power_up_good a.ring.now a.fram.now a.job.now c.if-job-ne-JOB_LENGTH.false _ _ _ (powers_up a.pages a.slots a.key.now a.nonce.now a.staging.now a.state.now) a.secret_len.now _
    c.in-Err.ensures c.stop_number.ensures refl refl

pub returns-in-Ok : goal.returns-in-Ok
returns-in-Ok c =
    let a = c.args in
    power_up_good a.ring.now a.fram.now a.job.now c.if-job-ne-JOB_LENGTH.false _ _ _ (powers_up a.pages a.slots a.key.now a.nonce.now a.staging.now a.state.now) a.secret_len.now _
    c.in-Ok.ensures refl c.put_job.ensures refl
