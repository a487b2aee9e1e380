-- `octets::word_at` meets its contract. Assumes nothing.
use Rattle.std.proofs.Common.{arith}
use Rattle.octets.proofs.Numbers.{word_at_is}
use Rattle.octets.proofs.word_at.Goals as goal

pub returns : goal.returns
returns c = rw (word_at_is c.args.s.now c.args.i, c.from_be_bytes.ensures) (omega arith)
