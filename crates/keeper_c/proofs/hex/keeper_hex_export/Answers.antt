-- `keeper_c::hex::keeper_hex_export` meets its contract. Assumes nothing.
use Rattle.std.proofs.Common.{◌≡◌, ℕ, List, refl, sym, ap, ◌∙◌}
use mathlib.Core.Option.{Option, some}
use Rattle.intel_hex.specs.Export.{Export, export}
use Rattle.keeper_c.specs.Calls.{exporting_left, exporting_by, export_call}
use Rattle.keeper_c.proofs.hex.keeper_hex_export.Goals as goal

called : (e : Export) (image text : List ℕ) (written : ℕ) (stop : Option ℕ) → e.stop ≡ stop → e ≡ export image text → exporting_by stop e written ≡ export_call image text written
unfolding export_call
called e image text written stop s f = sym (ap (λ (o : Option ℕ). exporting_by o e written) s) ∙ ap (λ (x : Export). exporting_by x.stop x written) f

refused : (e : Export) (image text : List ℕ) (written r n : ℕ) → r ≡ n → e.stop ≡ some n → e ≡ export image text → exporting_left r e.text written ≡ export_call image text written
refused e image text written r n m s f = ap (λ (k : ℕ). exporting_left k e.text written) m ∙ called e image text written (some n) s f

pub returns-in-Err : goal.returns-in-Err
returns-in-Err c =
    let a = c.args in
    refused _ a.image.now a.text.now a.written.now _ _ c.stop_number.ensures refl c.in-Err.ensures

pub returns-in-Ok : goal.returns-in-Ok
returns-in-Ok c =
    let a = c.args in
    called _ a.image.now a.text.now a.written.now _ refl c.in-Ok.ensures
