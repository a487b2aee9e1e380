-- `hex_digits::encode` meets its contract: the digits of the first i bytes are written, and the rest is as it was. Assumes nothing.
use Rattle.std.proofs.Common.{arith}
use Rattle.hex_digits.proofs.Laws.{encoded_none, encoded_on}
use Rattle.hex_digits.proofs.encode.Goals as goal

pub loop-i-init : goal.loop-i-init
loop-i-init c = encoded_none c.args.out.now c.args.s.now c.args.at (omega arith)

pub loop-i-preserved : goal.loop-i-preserved
loop-i-preserved c =
    let a = c.args in
    encoded_on a.out.now a.s.now _ a.at c.loop-i.i _ _ (omega arith) (omega arith) c.loop-i.invariant c.digit_of.ensures c.digit_of-in-loop-i.ensures
