-- `constant_time::constant_time_product` meets its contract. Assumes nothing.
use mathlib.Core.Path.{ap₂, ◌∙◌}
use Rattle.ghash.specs.Ghash.{◌•◌}
use Rattle.constant_time.proofs.constant_time_product.Goals as goal

pub returns : goal.returns
returns c =
    c.product-p.ensures _ c.steps-t.ensures ∙ ap₂ ◌•◌ c.first_block-2.ensures c.first_block.ensures
