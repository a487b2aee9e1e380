-- `jobs::types::Job::going_on` meets its contract. Assumes nothing.
use Rattle.protocol.specs.Operations.{going_on}
use Rattle.jobs.proofs.types.Job.going_on.Goals as goal

pub returns : goal.returns
unfolding going_on
returns c ring fram = rw c.in_phase.ensures
