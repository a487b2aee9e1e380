-- `hex_export::export` is safe: the text lies in its buffer. Assumes nothing.
use Rattle.std.proofs.Common.{◌≡◌, ℕ, ◌≤◌, List, length, sym}
use Rattle.std.proofs.Math.Seq.{length-take-le}
use Rattle.intel_hex.specs.Export.{Export, export}
use Rattle.intel_hex.proofs.ExportLaws.{export_within}
use Rattle.hex_export.proofs.export.Goals as goal

within : (x : Export) (image text : List ℕ) → x ≡ export image text → x.written ≤ length x.text
within x image text e = rw e (export_within image text)

pub slice_bounds-write_out-end : goal.slice_bounds-write_out-end
slice_bounds-write_out-end g c = within _ _ _ c.in-Ok.ensures

pub slice_bounds-write_out-end-in-Ok : goal.slice_bounds-write_out-end-in-Ok
slice_bounds-write_out-end-in-Ok g c = sym (length-take-le _ _ (within _ _ _ c.in-Ok.ensures))
