-- `aes::table::round_table` meets its contract: the loop fills the table.
-- Assumes nothing.
use mathlib.Core.Path.{◌≡◌}
use Prim.Native.Nat.{◌-◌}
use Rattle.sbox.specs.Field.{sub_byte}
use Rattle.aes.specs.Word.{bytes_of, spread}
use Rattle.octets.proofs.Tables.{Filled}
use Rattle.aes.proofs.table.round_table.Given as goal

abbrev pub invariant-loop-i : goal.invariant-loop-i
invariant-loop-i l = Filled 256 (λ k v. bytes_of v ≡ spread (sub_byte k)) l.i l.t

abbrev pub decreases-loop-i : goal.decreases-loop-i
decreases-loop-i l = 256 - l.i
