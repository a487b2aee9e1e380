-- `intel_hex::export::put_text` meets its contract: the first k data lines are written, with the type 04 lines before them. Assumes nothing.
use mathlib.Core.Path.{◌≡◌}
use Prim.Native.Nat.{◌-◌, ◌≤◌}
use lib.ListN.{length}
use Rattle.hex_lines.specs.Inner.{Wrote}
use Rattle.intel_hex.specs.Export.{blocks}
use Rattle.intel_hex.proofs.export.put_text.Given as goal

abbrev pub invariant-loop-k : goal.invariant-loop-k
invariant-loop-k l = (l.k ≤ l.n) × (length l.text ≡ length l.initial.text) × Wrote l.initial.text 0 (blocks l.image l.k) l.text l.at

abbrev pub decreases-loop-k : goal.decreases-loop-k
decreases-loop-k l = l.n - l.k
