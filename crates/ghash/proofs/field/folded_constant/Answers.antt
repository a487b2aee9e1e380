-- `ghash::field::folded_constant` meets its contract. Assumes nothing.
use native.Mathlib.Omega.{arith}
use Rattle.ghash.proofs.Words.{last_bit}
use Rattle.ghash.proofs.field.folded_constant.Goals as goal

pub returns : goal.returns
returns c =
    let bit = last_bit c.args.lo in
    (λ zero. omega arith, λ one. omega arith)
