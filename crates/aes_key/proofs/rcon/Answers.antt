-- `aes_key::rcon` meets its contract: antt computes the ten powers of x, and they are the table's.
-- Assumes nothing.
use Prim.Native.Nat.{◌-◌}
use borrow.Author.Rules.{rules}
use Rattle.octets.proofs.Tables.{get_or_table}
use Rattle.sbox.specs.Field.{xtime}
use Rattle.aes_key.specs.Key.{x_power}
use Rattle.aes_key.proofs.rcon.Goals as goal

pub returns : goal.returns
unfolding x_power xtime
returns c = get_or_table 10 x_power (c.args.j - 1) (search rules)
