-- The bytes that the data lines of a text name, and what an import promises of them (document 02, A.1).
use Rattle.std.specs.Prelude.{ℕ, ◌+◌, ◌<◌, ◌≡◌, ◌⊎◌, List, length, get_or}
use Rattle.hex_lines.specs.Format.{data_line, head_size}
use Rattle.hex_lines.specs.Line.{byte_of, data_length, kind}
use Rattle.intel_hex.specs.Import.{Lines, line, rest, bare, data_place, after}
use Rattle.intel_hex.specs.declared.import.Reading.{Reading}

-- a data line names byte b for address i
pub record LineNames (r : Reading) (l : List ℕ) (i b : ℕ) : Type 0 where
  pub is_data : kind l ≡ data_line
  pub offset : ℕ
  pub within : offset < data_length l
  pub place : i ≡ data_place r l + offset
  pub byte : b ≡ byte_of l (head_size + offset)

-- some line of the text names byte b for address i
unfoldable pub Names : Reading → Lines → ℕ → ℕ → Type 0
Names r (line l more) i b = LineNames r (bare l) i b ⊎ Names (after r (bare l)) more i b
Names r (rest s) i b = ⊥

-- where a data line names a byte the new image holds it, and everywhere else what the old one held
pub record Precisely (r : Reading) (ls : Lines) (old new : List ℕ) : Type 0 where
  pub same_length : length new ≡ length old
  pub inside : (i b : ℕ) → Names r ls i b → i < length old
  pub named : (i b : ℕ) → Names r ls i b → get_or new i 0 ≡ b
  pub others : (i : ℕ) → ((b : ℕ) → Names r ls i b → ⊥) → get_or new i 0 ≡ get_or old i 0
