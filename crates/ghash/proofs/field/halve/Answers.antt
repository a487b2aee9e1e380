-- `ghash::field::halve` meets its contract. Assumes nothing.
use native.Mathlib.Omega.{arith}
use Rattle.ghash.proofs.Words.{halve_words}
use Rattle.ghash.proofs.field.halve.Goals as goal

pub returns : goal.returns
returns c = halve_words _ _ _ (omega arith) c.folded_constant.ensures
