-- `hex_import::main` is safe. The lengths of its buffers are named, since a search counts their bytes one by one. Assumes nothing.
use Rattle.std.proofs.Common.{ℕ, sym}
use Rattle.std.proofs.lemmas.List.{length-replicate}
use Rattle.hex_import.proofs.main.Goals as goal

pub slice_bounds-run-end : goal.slice_bounds-run-end
slice_bounds-run-end c = sym (length-replicate {A = ℕ} 4194305 0)

pub slice_bounds-run-end-2 : goal.slice_bounds-run-end-2
slice_bounds-run-end-2 c = sym (length-replicate {A = ℕ} 262145 0xFF)

pub run-requires : goal.run-requires
run-requires c = length-replicate {A = ℕ} 262145 0xFF
