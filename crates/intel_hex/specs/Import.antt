-- Intel HEX read into an image (document 02, A.1): lines in either letter case, each closed by its line feed, with or without a carriage
-- return before it. The first bad line decides, and of its stops the lowest.
use Rattle.std.specs.Prelude.{ℕ, ◌+◌, ◌-◌, ◌*◌, Bool, true, false, cond, not, ◌&&◌, ◌||◌, List, [], ◌∷◌, eqb, ltb, length, take, get_or, Result}
use Rattle.std.proofs.Math.Option.{Option, none, some}
use Rattle.octets.specs.Octets.{put}
use Rattle.stops.specs.Stops.{first_of}
use Rattle.stops.specs.View.{check_number}
use Rattle.stops.specs.declared.Stop.{Stop}
use Rattle.hex_lines.specs.Format.{line_feed, carriage_return, data_line, upper_line, boundary}
use Rattle.hex_lines.specs.Line.{data_length, address, kind, data_bytes, upper_bits, malformed, checksum_wrong}
use Rattle.intel_hex.specs.Export.{image_wrong}
use Rattle.intel_hex.specs.declared.import.Reading.{Reading}

-- ---- the lines of a text

-- a line without its line feed and the lines behind it, or what stands behind the last line feed
pub data Lines : Type 0 where
  line : List ℕ → Lines → Lines
  rest : List ℕ → Lines

abbrev pub longer : ℕ → Lines → Lines
longer b (line l more) = line (b ∷ l) more
longer b (rest s) = rest (b ∷ s)

unfoldable pub lines_of : List ℕ → Lines
lines_of [] = rest []
lines_of (b ∷ s) = cond (eqb b line_feed) (line [] (lines_of s)) (longer b (lines_of s))

-- a line without the one carriage return that may end it; any other one is malformed
unfoldable pub bare : List ℕ → List ℕ
bare l = cond (eqb (get_or l (length l - 1) 0) carriage_return) (take (length l - 1) l) l

-- ---- one line after the other

-- a Reading is what the lines so far have set: the upper address bits, the first address above the data, and whether the end line has been
-- read
abbrev pub start : Reading
start = record { upper = 0; next = 0; ended = false }

-- where the data of a line go
abbrev pub data_place : Reading → List ℕ → ℕ
data_place r l = r.upper * boundary + address l

-- outside an image of so many bytes, past a 64 KiB boundary, or not above the data before
abbrev pub misplaced : (size place address n next : ℕ) → Bool
misplaced size p a n next = ltb size (p + n) || ltb boundary (a + n) || ltb p next

unfoldable pub line_stop : ℕ → Reading → List ℕ → Option ℕ
line_stop size r l = first_of (
    (15, r.ended || malformed l) ∷
    (16, checksum_wrong l) ∷
    (17, eqb (kind l) data_line && misplaced size (data_place r l) (address l) (data_length l) r.next) ∷ [])

-- a type 04 line may repeat or lower the upper bits, and may point outside the image: only data are judged
unfoldable pub after : Reading → List ℕ → Reading
after r l =
    cond (eqb (kind l) data_line) (record { upper = r.upper; next = data_place r l + data_length l; ended = r.ended })
    (cond (eqb (kind l) upper_line) (record { upper = upper_bits l; next = r.next; ended = r.ended })
    (record { upper = r.upper; next = r.next; ended = true }))

unfoldable pub image_after : Reading → List ℕ → List ℕ → List ℕ
image_after r image l = cond (eqb (kind l) data_line) (put image (data_place r l) (data_bytes l)) image

-- a line's stop, or what the lines behind it give
abbrev pub or_else : Option ℕ → Option ℕ → Option ℕ
or_else (some n) other = some n
or_else none other = other

abbrev pub empty : List ℕ → Bool
empty [] = true
empty (b ∷ s) = false

-- the stop of a text for an image of so many bytes; that the end line is missing is found last
unfoldable pub text_stop : ℕ → Reading → Lines → Option ℕ
text_stop size r (line l more) = or_else (line_stop size r (bare l)) (text_stop size (after r (bare l)) more)
text_stop size r (rest s) = first_of ((15, not r.ended || not (empty s)) ∷ [])

-- the image with the data of every line
unfoldable pub stored : Reading → List ℕ → Lines → List ℕ
stored r image (line l more) = stored (after r (bare l)) (image_after r image (bare l)) more
stored r image (rest s) = image

-- ---- the call

unfoldable pub import_stop : (text image : List ℕ) → Option ℕ
import_stop text image = or_else (first_of ((2, image_wrong (length image)) ∷ [])) (text_stop (length image) start (lines_of text))

-- what an import answers, and what the image holds afterwards
pub record Import : Type 0 where
  pub stop : Option ℕ
  pub image : List ℕ

-- on a stop the image is as it was
unfoldable pub import_by : Option ℕ → (text image : List ℕ) → Import
import_by (some n) text image = record { stop = some n; image = image }
import_by none text image = record { stop = none; image = stored start image (lines_of text) }

unfoldable pub import : (text image : List ℕ) → Import
import text image = import_by (import_stop text image) text image

-- the code's answer, with what it left in the image
abbrev pub imported_as : Result Unit Stop → List ℕ → Import
imported_as r image = record { stop = check_number r; image = image }
