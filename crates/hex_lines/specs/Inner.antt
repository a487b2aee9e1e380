-- What the functions that write and read lines promise the layer above.
use Rattle.std.specs.Prelude.{ℕ, ◌+◌, ◌*◌, ◌/◌, ◌<◌, ◌≡◌, Bool, true, false, cond, ◌&&◌, List, eqb, length, get_or, Option, Some, None}
use Rattle.octets.specs.Octets.{part, put}
use Rattle.hex_digits.specs.Digits.{all_digits, decoded}
use Rattle.hex_lines.specs.Format.{mark, line_feed, carriage_return, boundary, line_width, sum}
use Rattle.hex_lines.specs.Line.{data_length, address, kind, shape_wrong, checksum_wrong}
use Rattle.hex_lines.specs.declared.read.Line.{Line}

-- some bytes were written from an offset on, and where they end
pub record Wrote (text : List ℕ) (at : ℕ) (bytes text' : List ℕ) (end : ℕ) : Type 0 where
  pub written : text' ≡ put text at bytes
  pub ends : end ≡ at + length bytes

-- where the line that s begins with ends
abbrev pub line_end : List ℕ → ℕ
line_end s = line_width (data_length s)

-- how many bytes end a line at offset i: a line feed, or a carriage return and a line feed; 0 where neither stands there
unfoldable pub end_length : List ℕ → ℕ → ℕ
end_length s i =
    cond (eqb (get_or s i 0) line_feed) 1
    (cond (eqb (get_or s i 0) carriage_return && eqb (get_or s (i + 1) 0) line_feed) 2 0)

-- s begins with a line that is not malformed
pub record Begins (s : List ℕ) : Type 0 where
  pub marked : get_or s 0 0 ≡ mark
  pub digits : all_digits (part s 1 (10 + 2 * data_length s)) ≡ true
  pub shape : shape_wrong (kind s) (data_length s) (address s) ≡ false
  pub closed : 0 < end_length s (line_end s)

-- what the first bytes of s say, if it begins with a line
pub record LineOf (s : List ℕ) (l : Line) : Type 0 where
  pub length : l.length ≡ data_length s
  pub address : l.address ≡ address s
  pub kind : l.kind ≡ kind s
  pub tail : l.tail ≡ end_length s (line_end s)
  pub short : l.length < 256
  pub low : l.address < boundary
  pub ends : l.tail < 3

pub record AtLine (s : List ℕ) (l : Line) (wrong : Bool) : Type 0 where
  pub begins : Begins s
  pub line : LineOf s l
  pub checksum : wrong ≡ checksum_wrong s

abbrev pub FoundIn : List ℕ → Option (Line × Bool) → Type 0
FoundIn s None = Begins s → ⊥
FoundIn s (Some found) = AtLine s found.0 found.1

-- the sum of the bytes whose digits are s
abbrev pub SumOf : List ℕ → Option ℕ → Type 0
SumOf s None = all_digits s ≡ false
SumOf s (Some n) = (all_digits s ≡ true) × (n ≡ sum (decoded s (length s / 2)))
