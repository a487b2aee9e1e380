-- `keeper_c::cipher::stopped` meets its contract. Assumes nothing.
use mathlib.Core.Path.{ap, ◌∙◌}
use Rattle.keeper_c.specs.Calls.{answer}
use Rattle.keeper_c.proofs.cipher.stopped.Goals as goal

pub returns : goal.returns
returns c = c.answer.ensures ∙ ap answer c.stop_if.ensures
