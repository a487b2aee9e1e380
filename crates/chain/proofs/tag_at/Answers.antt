-- `chain::tag_at` meets its contract. Assumes nothing.
use native.Mathlib.Omega.{arith}
use Rattle.chain.specs.Chain.{tag_at}
use Rattle.chain.proofs.tag_at.Goals as goal

pub part-requires : goal.part-requires
part-requires c = omega arith

pub returns : goal.returns
unfolding tag_at
returns c = c.part.ensures.0

pub overflow_mul-i : goal.overflow_mul-i
overflow_mul-i c = omega arith

pub overflow_add-i : goal.overflow_add-i
overflow_add-i c = omega arith
