-- `keeper_c::dumps::keeper_chain_order` meets its contract. Assumes nothing.
use mathlib.Core.Path.{ap, ◌∙◌}
use Rattle.chain.specs.Chain.{Ordered}
use Rattle.keeper_c.specs.Calls.{answer}
use Rattle.keeper_c.proofs.dumps.keeper_chain_order.Goals as goal

pub returns : goal.returns
returns c =
    let ordered = c.chain_order.ensures in
    (c.answer.ensures ∙ ap (λ (o : Ordered). answer o.stop) ordered, ap (λ (o : Ordered). o.positions) ordered)
