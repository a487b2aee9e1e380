-- `jobs::job::no_session` meets its contract. Assumes nothing.
use mathlib.Core.Path.{refl}
use Rattle.protocol.specs.Operations.{no_session}
use Rattle.jobs.proofs.job.no_session.Goals as goal

pub returns : goal.returns
unfolding no_session
returns c = refl
