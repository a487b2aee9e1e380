-- `keeper_c::cipher::keeper_open` meets its contract. Assumes nothing.
use mathlib.Core.Path.{ap, ◌∙◌}
use Rattle.gcm.specs.Calls.{Opening}
use Rattle.keeper_c.specs.Calls.{answer}
use Rattle.keeper_c.proofs.cipher.keeper_open.Goals as goal

pub returns : goal.returns
returns c =
    let opened = c.«open».ensures in
    (c.answer.ensures ∙ ap (λ (o : Opening). answer o.stop) opened, ap (λ (o : Opening). o.out) opened)
