-- `intel_hex::export_image` meets its contract. Assumes nothing.
use Rattle.std.proofs.Common.{ℕ, true, false, List, length, refl, sym, ap₂, ◌∙◌, zero-add, arith}
use Rattle.std.proofs.Math.Option.{none}
use borrow.Author.Tests.{lt-ltb, le-ltb}
use Rattle.intel_hex.specs.Export.{hex_text, export_by}
use Rattle.intel_hex.proofs.ExportLaws.{text_length_is, image_fits, answered}
use Rattle.intel_hex.proofs.export.export_image.Goals as goal

pub returns-then-image_wrong : goal.returns-then-image_wrong
unfolding export_by
returns-then-image_wrong c = answered _ _ true _ (sym c.if-image_wrong.ensures) refl

pub text_length-requires : goal.text_length-requires
text_length-requires c = image_fits _ (sym c.if-image_wrong.ensures)

pub returns-then-text-text_length : goal.returns-then-text-text_length
unfolding export_by
returns-then-text-text_length c =
    let image = c.args.image.now in
    answered image _ false true (sym c.if-image_wrong.ensures) (lt-ltb _ (length (hex_text image)) (omega (arith, text_length_is image)))

pub put_text-requires : goal.put_text-requires
put_text-requires c = (sym c.if-image_wrong.ensures, omega (arith, text_length_is c.args.image.now))

pub returns : goal.returns
unfolding export_by
returns c =
    let image = c.args.image.now in
    ap₂ (λ (n : ℕ) (t : List ℕ). record { stop = none; written = n; text = t }) (c.put_text.ensures.ends ∙ zero-add _) c.put_text.ensures.written
    ∙ answered image _ false false (sym c.if-image_wrong.ensures) (le-ltb _ (length (hex_text image)) (omega (arith, text_length_is image)))
