-- `aes::table::entry` meets its contract: 02 • b is xtime b, and 03 • b is xtime b ⊕ b.
-- Assumes nothing.
use Rattle.sbox.proofs.FieldLaws.{twice, thrice}
use Rattle.aes.proofs.table.entry.Goals as goal

pub returns : goal.returns
returns c = let b = c.args.b in cc (twice b, thrice b)
