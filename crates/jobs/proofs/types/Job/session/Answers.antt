-- `jobs::types::Job::session` meets its contract. Assumes nothing.
use Rattle.protocol.specs.Operations.{session_of}
use Rattle.jobs.proofs.types.Job.session.Goals as goal

pub returns : goal.returns
unfolding session_of
returns c = rw c.record_bytes-latest.ensures
