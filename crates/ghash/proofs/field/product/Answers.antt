-- `ghash::field::product` meets its contract: the steps that the bits of both words choose. Assumes nothing.
use native.Mathlib.Omega.{arith}
use Rattle.ghash.specs.Steps.{value}
use Rattle.ghash.proofs.Product.{product_is}
use Rattle.ghash.proofs.field.product.Goals as goal

pub returns : goal.returns
returns c H steps =
    let x = c.args.x in
    product_is x.hi x.lo H _ _ (omega arith) (c.add_steps-first.ensures (value x) H steps) (c.add_steps.ensures (value x) H steps)
