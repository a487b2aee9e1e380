-- `ghash::field::add_steps` meets its contract: after i turns of its loop the sum is Z of `at + i`. Assumes nothing.
use mathlib.Core.Path.{◌≡◌}
use Prim.Native.Nat.{ℕ, ◌+◌, ◌-◌, ◌*◌, ◌/◌, ◌%◌, ◌^◌, ◌≤◌, ◌<◌}
use Rattle.ghash.specs.Steps.{value, Steps}
use Rattle.ghash.specs.Ghash.{bit, Zᵢ}
use Rattle.ghash.proofs.field.add_steps.Given as goal

abbrev pub invariant-loop-i : goal.invariant-loop-i
invariant-loop-i l =
    (l.i ≤ 64)
    × (l.w ≡ l.initial.w * 2 ^ l.i % 2 ^ 64)
    × ((y H : ℕ) → Steps H l.t → ((k : ℕ) → k < 64 → l.initial.w / 2 ^ (63 - k) % 2 ≡ bit y (l.at + k)) → value l.initial.sum ≡ Zᵢ l.at y H → value l.sum ≡ Zᵢ (l.at + l.i) y H)

abbrev pub decreases-loop-i : goal.decreases-loop-i
decreases-loop-i l = 64 - l.i
