-- What is left of the text, stored behind the reading, makes the image.
use Rattle.std.proofs.Common.{◌≡◌, ◌<◌, length}
use Rattle.std.proofs.Math.Option.{none}
use Rattle.hex_lines.specs.Format.{boundary}
use Rattle.intel_hex.specs.Import.{lines_of, start, text_stop, stored}
use Rattle.intel_hex.proofs.import.store_text.Given as goal

abbrev pub invariant-loop-rest : goal.invariant-loop-rest
invariant-loop-rest l =
    (l.reading.upper < boundary) × (length l.image ≡ length l.initial.image)
    × (text_stop (length l.initial.image) l.reading (lines_of l.rest) ≡ none)
    × (stored start l.initial.image (lines_of l.text) ≡ stored l.reading l.image (lines_of l.rest))

abbrev pub decreases-loop-rest : goal.decreases-loop-rest
decreases-loop-rest l = length l.rest
