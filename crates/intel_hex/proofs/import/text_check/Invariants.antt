-- The text's stop is that of what is left, behind the reading.
use Rattle.std.proofs.Common.{◌≡◌, ◌<◌, length}
use Rattle.hex_lines.specs.Format.{boundary}
use Rattle.intel_hex.specs.Import.{lines_of, start, text_stop}
use Rattle.intel_hex.proofs.import.text_check.Given as goal

abbrev pub invariant-loop-rest : goal.invariant-loop-rest
invariant-loop-rest l = (l.reading.upper < boundary) × (text_stop l.size start (lines_of l.text) ≡ text_stop l.size l.reading (lines_of l.rest))

abbrev pub decreases-loop-rest : goal.decreases-loop-rest
decreases-loop-rest l = length l.rest
