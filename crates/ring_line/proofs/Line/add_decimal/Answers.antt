-- `ring_line::Line::add_decimal` meets its contract: each branch writes the digits of a case of the definition. Assumes nothing.
use native.Mathlib.Omega.{arith}
use Rattle.ring_line.proofs.LineLaws.{text_is, one_digit, two_digits, three_digits}
use Rattle.ring_line.proofs.Line.add_decimal.Goals as goal

pub returns-then-n-lt10 : goal.returns-then-n-lt10
returns-then-n-lt10 c = text_is 3 (one_digit _ _ (omega arith) c.digit.ensures) (omega arith) c.add.ensures

pub returns-then-n-lt100 : goal.returns-then-n-lt100
returns-then-n-lt100 c = text_is 3 (two_digits _ _ _ (omega arith) (omega arith) c.digit-then-n-lt100.ensures c.digit-then-n-lt100-2.ensures) (omega arith) c.add-then-n-lt100.ensures

pub returns : goal.returns
returns c = text_is 3 (three_digits _ _ _ _ (omega arith) c.digit-2.ensures c.digit-3.ensures c.digit-4.ensures) (omega arith) c.add-2.ensures
