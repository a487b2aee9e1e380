-- `resealing::outgrows` meets its contract. Assumes nothing.
use native.Mathlib.Omega.{arith}
use lib.Dec.{ltb}
use lib.ListN.{length}
use Rattle.checkpoint.specs.Checkpoint.{Longer, sealed_length}
use Rattle.protocol.specs.Operations.{outgrows}
use Rattle.resealing.proofs.Laws.{lengths_fit}
use Rattle.resealing.proofs.outgrows.Goals as goal

pub overflow_add-result : goal.overflow_add-result
overflow_add-result c = let h = c.args.head.now in omega (arith, h.says.open_is, lengths_fit h.half.now)

pub overflow_add-result-2 : goal.overflow_add-result-2
overflow_add-result-2 c = let h = c.args.head.now in omega (arith, h.says.open_is, h.says.secret_is, lengths_fit h.half.now)

pub returns : goal.returns
unfolding outgrows
returns c =
    let h = c.args.head.now in
    λ i. ltb (length h.half.now) (sealed_length Longer (h.says.open_is i) (h.says.secret_is i))
