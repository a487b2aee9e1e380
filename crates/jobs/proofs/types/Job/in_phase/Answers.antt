-- `jobs::types::Job::in_phase` meets its contract. Assumes nothing.
use mathlib.Core.Path.{refl}
use Rattle.protocol.specs.Operations.{in_phase}
use Rattle.jobs.proofs.types.Job.in_phase.Goals as goal

pub returns : goal.returns
unfolding in_phase
returns c = refl
