-- `sbox::sub_byte` meets its contract: a byte is below 256, and the table has its image there.
-- Assumes nothing.
use Rattle.std.proofs.Common.{◌<◌, rules}
use Rattle.octets.proofs.Tables.{get_or_table}
use Rattle.sbox.specs.Field.{sub_byte}
use Rattle.sbox.proofs.sub_byte.Goals as goal

pub bounds-sbox-from : goal.bounds-sbox-from
bounds-sbox-from c = let small : c.args.x < 256 = search rules in rw c.from.ensures small

pub returns : goal.returns
returns c = rw (c.requires, c.from.ensures) (get_or_table 256 sub_byte c.args.x (search rules))
