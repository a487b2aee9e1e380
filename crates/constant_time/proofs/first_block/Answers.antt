-- `constant_time::first_block` meets its contract. Assumes nothing.
use Rattle.std.proofs.Common.{◌+◌, ◌∙◌, arith}
use Rattle.std.proofs.lemmas.List.{get_or-take}
use Rattle.octets.proofs.Numbers.{number_ext}
use Rattle.constant_time.proofs.first_block.Goals as goal

pub returns-then-s-gt16 : goal.returns-then-s-gt16
returns-then-s-gt16 c = c.block_of.ensures ∙ number_ext _ c.args.s.now 0 0 16 (λ i l. get_or-take 16 c.args.s.now (0 + i) 0 (omega arith))
