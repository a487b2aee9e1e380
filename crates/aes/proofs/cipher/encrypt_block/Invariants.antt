-- `aes::cipher::encrypt_block` meets its contract. The loop's invariant: the state is what the rounds before this one make of the first.
-- Assumes nothing.
use mathlib.Core.Path.{◌≡◌}
use Prim.Native.Nat.{◌-◌, ◌<◌, ◌≤◌}
use Rattle.aes.specs.Cipher.{rounds}
use Rattle.aes.proofs.cipher.encrypt_block.Given as goal

abbrev pub invariant-loop-round : goal.invariant-loop-round
invariant-loop-round l = (0 < l.round) × (l.round ≤ l.schedule.rounds) × (l.s ≡ rounds l.schedule.keys.now l.initial.s (l.round - 1))

abbrev pub decreases-loop-round : goal.decreases-loop-round
decreases-loop-round l = l.schedule.rounds - l.round
