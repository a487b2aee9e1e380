-- `keeper_c::new_units::keeper_factory_check` meets its contract. Assumes nothing.
use mathlib.Core.Path.{ap, ◌∙◌}
use Rattle.keeper_c.specs.Calls.{answer}
use Rattle.keeper_c.proofs.new_units.keeper_factory_check.Goals as goal

pub returns : goal.returns
returns c = c.answer.ensures ∙ ap answer c.factory_check.ensures
