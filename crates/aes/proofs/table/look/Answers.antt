-- `aes::table::look` meets its contract: a byte is below 256.
-- Assumes nothing.
use Rattle.std.proofs.Common.{◌<◌, rules}
use Rattle.aes.proofs.table.look.Goals as goal

pub returns : goal.returns
returns c = let small : c.args.x < 256 = search rules in rw c.from.ensures (c.requires.entry c.args.x small)
