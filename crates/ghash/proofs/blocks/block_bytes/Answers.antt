-- `ghash::blocks::block_bytes` meets its contract. Assumes nothing.
use Rattle.std.proofs.Common.{◌∙◌}
use Rattle.octets.specs.Octets.{bytes}
use Rattle.ghash.specs.Steps.{words}
use Rattle.ghash.proofs.Words.{high_first}
use Rattle.ghash.proofs.blocks.block_bytes.Goals as goal

pub returns : goal.returns
unfolding words
returns c = c.to_be_bytes.ensures ∙ high_first _ ∙ (λ i. bytes 16 (words (c.from.ensures i) (c.from-2.ensures i)))
