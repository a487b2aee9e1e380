-- An image as Intel HEX (document 02, A.1): lines of 16 data bytes, of which the last may be shorter. A type 04 line comes first, and again
-- where the upper 16 address bits change; the end line closes.
use Rattle.std.specs.Prelude.{ℕ, zero, suc, ◌+◌, ◌-◌, ◌*◌, ◌/◌, ◌%◌, Bool, cond, not, ◌||◌, List, [], ◌∷◌, ◌++◌, eqb, ltb, length, Result}
use Rattle.std.proofs.Math.Option.{Option, none, some}
use Rattle.std.specs.Result.{result_unwrap_or}
use Rattle.octets.specs.Limits.{image_limit, data_per_line}
use Rattle.octets.specs.Octets.{part, put, bytes}
use Rattle.stops.specs.Stops.{first_of}
use Rattle.stops.specs.View.{check_number}
use Rattle.hex_lines.specs.Format.{data_line, end_line, upper_line, boundary}
use Rattle.hex_lines.specs.Line.{hex_line}
use Rattle.stops.specs.declared.Stop.{Stop}

-- the address of data line k, counted from 0, and its upper bits
abbrev pub place : ℕ → ℕ
place k = data_per_line * k

abbrev pub upper : ℕ → ℕ
upper k = place k / boundary

-- whether a type 04 line stands before data line k
abbrev pub upper_changes : ℕ → Bool
upper_changes k = eqb k 0 || not (eqb (upper k) (upper (k - 1)))

unfoldable pub upper_part : ℕ → List ℕ
upper_part k = cond (upper_changes k) (hex_line upper_line 0 (bytes 2 (upper k))) []

unfoldable pub data_part : List ℕ → ℕ → List ℕ
data_part image k = hex_line data_line (place k % boundary) (part image (place k) data_per_line)

-- data line k, with the type 04 line before it
unfoldable pub block : List ℕ → ℕ → List ℕ
block image k = upper_part k ++ data_part image k

-- the first n of them
unfoldable pub blocks : List ℕ → ℕ → List ℕ
blocks image zero = []
blocks image (suc k) = blocks image k ++ block image k

-- how many data lines n bytes make
abbrev pub line_count : ℕ → ℕ
line_count n = (n + (data_per_line - 1)) / data_per_line

unfoldable pub hex_text : List ℕ → List ℕ
hex_text image = blocks image (line_count (length image)) ++ hex_line end_line 0 []

-- ---- the call

abbrev pub image_wrong : ℕ → Bool
image_wrong n = eqb n 0 || ltb image_limit n

-- from the image and what the buffer for the text holds before
unfoldable pub export_stop : (image text : List ℕ) → Option ℕ
export_stop image text = first_of (
    (2, image_wrong (length image)) ∷
    (4, ltb (length text) (length (hex_text image))) ∷ [])

-- what an export answers, and what the buffer for the text holds afterwards
pub record Export : Type 0 where
  pub stop : Option ℕ
  pub written : ℕ
  pub text : List ℕ

-- on a stop the buffer is as it was, and the length is 0
unfoldable pub export_by : Option ℕ → (image text : List ℕ) → Export
export_by (some n) image text = record { stop = some n; written = 0; text = text }
export_by none image text = record { stop = none; written = length (hex_text image); text = put text 0 (hex_text image) }

unfoldable pub export : (image text : List ℕ) → Export
export image text = export_by (export_stop image text) image text

-- the code's answer, with what it left in the buffer
abbrev pub exported_as : Result ℕ Stop → List ℕ → Export
exported_as r text = record { stop = check_number r; written = result_unwrap_or r 0; text = text }
