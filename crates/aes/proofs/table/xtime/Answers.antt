-- `aes::table::xtime` meets its contract: its arithmetic is the definition's.
-- Assumes nothing.
use borrow.Author.Rules.{rules}
use Rattle.sbox.specs.Field.{xtime}
use Rattle.aes.proofs.table.xtime.Goals as goal

pub returns : goal.returns
unfolding xtime
returns c = search rules
