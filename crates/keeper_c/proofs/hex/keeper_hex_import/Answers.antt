-- `keeper_c::hex::keeper_hex_import` meets its contract. Assumes nothing.
use mathlib.Core.Path.{ap, ◌∙◌}
use Rattle.intel_hex.specs.Import.{Import}
use Rattle.keeper_c.specs.Calls.{answer}
use Rattle.keeper_c.proofs.hex.keeper_hex_import.Goals as goal

pub returns : goal.returns
returns c =
    let imported = c.import_image.ensures in
    (c.answer.ensures ∙ ap (λ (o : Import). answer o.stop) imported, ap (λ (o : Import). o.image) imported)
