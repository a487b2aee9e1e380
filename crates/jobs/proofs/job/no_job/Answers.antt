-- `jobs::job::no_job` meets its contract. Assumes nothing.
use mathlib.Core.Path.{refl}
use Rattle.protocol.specs.Operations.{no_job}
use Rattle.jobs.proofs.job.no_job.Goals as goal

pub returns : goal.returns
unfolding no_job
returns c = refl
