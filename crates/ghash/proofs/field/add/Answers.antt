-- `ghash::field::add` meets its contract. Assumes nothing.
use native.Mathlib.Omega.{arith}
use Rattle.ghash.proofs.Words.{xor_words}
use Rattle.ghash.proofs.field.add.Goals as goal

pub returns : goal.returns
returns c = xor_words _ _ _ _ (omega arith) (omega arith)
