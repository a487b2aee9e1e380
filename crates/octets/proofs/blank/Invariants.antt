-- `octets::blank` meets its contract: the slice is blank if what is left of it is. Assumes nothing.
use Rattle.std.proofs.Common.{◌≡◌, ◌≤◌, length}
use lib.ListN.{drop}
use Rattle.octets.specs.Octets.{blank}
use Rattle.octets.proofs.blank.Given as goal

abbrev pub invariant-loop-b : goal.invariant-loop-b
invariant-loop-b l = (l.b-index ≤ length l.s) × (blank l.s ≡ blank (drop l.b-index l.s))
