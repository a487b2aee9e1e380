-- A line of text in a buffer of its own.
use Rattle.std.specs.Prelude.{ℕ, ◌+◌, ◌≤◌, ◌≡◌, List, ◌++◌, length, replicate}
use Rattle.octets.specs.Octets.{put}
use Rattle.ring_line.specs.declared.Line.{Line}

-- how many bytes a line has room for
abbrev pub line_limit : ℕ
line_limit = 40

-- a text at the front, and zeros behind it
abbrev pub line_of : List ℕ → Line
line_of text = record { bytes = put (replicate line_limit 0) 0 text; length = length text }

-- r is the line l with a text behind it
pub record Added (l : Line) (text : List ℕ) (r : Line) : Type 0 where
  pub room : length r.bytes ≡ line_limit
  pub long : r.length ≡ l.length + length text
  pub holds : (before : List ℕ) → l ≡ line_of before → r ≡ line_of (before ++ text)

-- r holds a text of at most n bytes
pub record Short (text : List ℕ) (r : Line) (n : ℕ) : Type 0 where
  pub room : length r.bytes ≡ line_limit
  pub short : r.length ≤ n
  pub holds : r ≡ line_of text
