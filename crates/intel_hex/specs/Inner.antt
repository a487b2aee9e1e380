-- What the inner functions find in a text; no call's contract names it.
use Rattle.std.specs.Prelude.{ℕ, ◌+◌, ◌-◌, ◌*◌, ◌/◌, ◌<◌, ◌≤◌, ◌≡◌, Bool, ◌&&◌, List, [], ◌∷◌, eqb, length, drop, Result, Ok, Err}
use Rattle.std.proofs.Math.Option.{Option, some}
use Rattle.stops.specs.Stops.{first_of}
use Rattle.stops.specs.View.{stop_number}
use Rattle.stops.specs.declared.Stop.{Stop}
use Rattle.hex_lines.specs.Format.{data_line, boundary}
use Rattle.intel_hex.specs.Export.{line_count}
use Rattle.intel_hex.specs.Import.{misplaced, text_stop, lines_of}
use Rattle.intel_hex.specs.declared.import.Reading.{Reading}
use Rattle.intel_hex.specs.declared.import.Judged.{Judged}

-- ---- export

-- how long the text of an image of n bytes is: with its line feed a line without data has 12 bytes, a type 04 line 16
abbrev pub text_length : ℕ → ℕ
text_length n = 16 * ((n + (boundary - 1)) / boundary) + (12 * line_count n + 2 * n) + 12

-- ---- import

-- the stops of a line that is not malformed
unfoldable pub checks : ℕ → Reading → (kind address n : ℕ) → Bool → Option ℕ
checks size r k a n wrong = first_of (
    (15, r.ended) ∷
    (16, wrong) ∷
    (17, eqb k data_line && misplaced size (r.upper * boundary + a) a n r.next) ∷ [])

-- what judging the line that s begins with gives, where it does not stop
pub record Passes (s : List ℕ) (r : Reading) (size : ℕ) (t : Judged) : Type 0 where
  pub on : text_stop size r (lines_of s) ≡ text_stop size t.reading (lines_of (drop t.length s))
  pub more : 0 < t.length
  pub within : t.length ≤ length s
  pub upper : t.reading.upper < boundary

abbrev pub JudgedAs : (s : List ℕ) (r : Reading) (size : ℕ) → Result Judged Stop → Type 0
JudgedAs s r size (Ok t) = Passes s r size t
JudgedAs s r size (Err e) = text_stop size r (lines_of s) ≡ some (stop_number e)
