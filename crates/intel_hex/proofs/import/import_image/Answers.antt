-- `intel_hex::import_image` meets its contract. Assumes nothing.
use Rattle.std.proofs.Common.{sym, ◌∙◌}
use Rattle.std.proofs.lemmas.Result.{err_from_is_err_and}
use Rattle.intel_hex.proofs.ImportLaws.{import_refused, import_done, stop_image, stop_text}
use Rattle.intel_hex.proofs.import.import_image.Goals as goal

pub returns-then-image_wrong : goal.returns-then-image_wrong
returns-then-image_wrong c = import_refused _ _ 2 (stop_image _ _ (sym c.if-image_wrong.ensures))

pub returns-in_err-text_check : goal.returns-in_err-text_check
returns-in_err-text_check c =
    let p = err_from_is_err_and c.from_residual.result c.from_residual.ensures.1 in
    rw (p.1, p.2) (import_refused _ _ _ (c.in_err-text_check.ensures ∙ sym (stop_text _ _ (sym c.if-image_wrong.ensures))))

pub store_text-requires : goal.store_text-requires
store_text-requires c = sym c.in_ok-text_check.ensures

pub returns : goal.returns
returns c = import_done _ _ _ (stop_text _ _ (sym c.if-image_wrong.ensures) ∙ sym c.in_ok-text_check.ensures) c.store_text.ensures
