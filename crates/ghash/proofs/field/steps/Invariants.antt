-- `ghash::field::steps` meets its contract: after i turns of its loop the first i steps stand in t. Assumes nothing.
use mathlib.Core.Path.{◌≡◌}
use Prim.Native.Nat.{◌-◌, ◌≤◌}
use lib.ListN.{length}
use Rattle.ghash.specs.Steps.{value}
use Rattle.ghash.specs.Ghash.{Vᵢ}
use Rattle.ghash.proofs.Product.{Made}
use Rattle.ghash.proofs.field.steps.Given as goal

abbrev pub invariant-loop-i : goal.invariant-loop-i
invariant-loop-i l =
    (l.i ≤ 128) × (length l.t ≡ 256) × (value l.v ≡ Vᵢ l.i (value l.initial.v)) × Made l.t (value l.initial.v) l.i

abbrev pub decreases-loop-i : goal.decreases-loop-i
decreases-loop-i l = 128 - l.i
