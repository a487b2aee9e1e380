-- `jobs::types::Job::ended` meets its contract. Assumes nothing.
use Rattle.protocol.specs.Operations.{ended}
use Rattle.jobs.proofs.types.Job.ended.Goals as goal

pub returns : goal.returns
unfolding ended
returns c ring fram = rw (c.finished.ensures.0, c.finished.ensures.1, c.in_phase.ensures, c.session.ensures)
