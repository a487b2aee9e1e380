-- `trace::unit::store_on` meets its contract: the stores that are left, from where the job is, come to what all of them do. Assumes nothing.
use Rattle.std.proofs.Common.{◌≡◌, ◌-◌, ◌≤◌, Ok, length}
use Rattle.jobs.specs.declared.types.Progress.TheVariants.{GoingOn}
use Rattle.jobs.specs.View.{view_moved}
use Rattle.trace.specs.Trace.{stored_on}
use Rattle.trace.proofs.unit.store_on.Given as goal

abbrev pub invariant-loop : goal.invariant-loop
invariant-loop l =
    (length l.ring ≡ length l.initial.ring) × (length l.fram ≡ length l.initial.fram) × (l.counter ≤ l.n)
    × (stored_on (l.n - l.counter) l.staging (view_moved (Ok GoingOn) l.job l.ring l.fram) ≡ stored_on l.n l.staging (view_moved (Ok GoingOn) l.initial.job l.initial.ring l.initial.fram))
