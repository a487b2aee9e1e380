-- `jobs::types::Job::record_bytes` meets its contract. Assumes nothing.
use Rattle.protocol.specs.Operations.{job_record}
use Rattle.jobs.proofs.types.Job.record_bytes.Goals as goal

pub returns : goal.returns
unfolding job_record
returns c = c.record_of.ensures
