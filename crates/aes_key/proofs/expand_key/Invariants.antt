-- `aes_key::expand_key` meets its contract. The loop's invariant: the words before w[i] are the schedule's, and the rest is 0.
-- Assumes nothing.
use mathlib.Core.Path.{◌≡◌}
use Prim.Native.Nat.{◌+◌, ◌-◌, ◌*◌, ◌≤◌}
use lib.ListN.{length}
use Rattle.aes_key.specs.Key.{expanded, padded}
use Rattle.aes_key.proofs.expand_key.Given as goal

abbrev pub invariant-loop-i : goal.invariant-loop-i
invariant-loop-i l = (l.i-end ≡ 4 * l.nk + 28) × (l.i ≤ l.i-end) × (length l.w ≡ 240) × (l.w ≡ padded (expanded l.nk l.key l.i))

abbrev pub decreases-loop-i : goal.decreases-loop-i
decreases-loop-i l = l.i-end - l.i
