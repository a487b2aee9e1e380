-- `keeper_c::lists::keeper_settings_write` meets its contract. Assumes nothing.
use mathlib.Core.Path.{ap, ◌∙◌}
use Rattle.settings.specs.Settings.{Written}
use Rattle.keeper_c.specs.Calls.{answer}
use Rattle.keeper_c.proofs.lists.keeper_settings_write.Goals as goal

pub returns : goal.returns
returns c =
    let written = c.settings_write.ensures in
    (c.answer.ensures ∙ ap (λ (w : Written). answer w.stop) written, ap (λ (w : Written). w.list) written)
