-- `aes::cipher::sub_bytes` meets its contract: the loop fills the new state.
-- Assumes nothing.
use mathlib.Core.Path.{◌≡◌}
use Prim.Native.Nat.{◌-◌}
use lib.ListN.{get_or}
use Rattle.sbox.specs.Field.{sub_byte}
use Rattle.octets.proofs.Tables.{Filled}
use Rattle.aes.proofs.cipher.sub_bytes.Given as goal

abbrev pub invariant-loop-i : goal.invariant-loop-i
invariant-loop-i l = Filled 16 (λ k v. v ≡ sub_byte (get_or l.s k 0)) l.i l.r

abbrev pub decreases-loop-i : goal.decreases-loop-i
decreases-loop-i l = 16 - l.i
