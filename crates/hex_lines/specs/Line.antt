-- A line of Intel HEX, written and read (document 02, A.1). Written, it has its line feed; read, it is what stands before its end.
use Rattle.std.specs.Prelude.{ℕ, ◌+◌, ◌*◌, Bool, not, ◌&&◌, ◌||◌, List, [], ◌∷◌, ◌++◌, eqb, ltb, length, drop, get_or}
use Rattle.octets.specs.Octets.{bytes}
use Rattle.octets.specs.Table.{table}
use Rattle.hex_digits.specs.Digits.{all_digits, pair, encoded}
use Rattle.hex_lines.specs.Format.{mark, line_feed, data_line, end_line, upper_line, head_size, line_width, checksum}

-- ---- a line written

-- a line's bytes before its checksum: length, address, type and data
abbrev pub line_bytes : (kind address : ℕ) → List ℕ → List ℕ
line_bytes kind address s = length s ∷ (bytes 2 address ++ (kind ∷ s))

-- the line of these
unfoldable pub hex_line : (kind address : ℕ) → List ℕ → List ℕ
hex_line kind address s =
    let b = line_bytes kind address s in
    mark ∷ (encoded (b ++ (checksum b ∷ [])) ++ (line_feed ∷ []))

-- ---- what a line says

-- byte i of a line, and n bytes from i on
abbrev pub byte_of : List ℕ → ℕ → ℕ
byte_of l i = pair l (1 + 2 * i)

abbrev pub bytes_of : List ℕ → ℕ → ℕ → List ℕ
bytes_of l i n = table n (λ k. byte_of l (i + k))

abbrev pub data_length : List ℕ → ℕ
data_length l = byte_of l 0

abbrev pub address : List ℕ → ℕ
address l = byte_of l 1 * 256 + byte_of l 2

abbrev pub kind : List ℕ → ℕ
kind l = byte_of l 3

abbrev pub data_bytes : List ℕ → List ℕ
data_bytes l = bytes_of l head_size (data_length l)

-- the upper address bits that a type 04 line sets: the number of its two data bytes
abbrev pub upper_bits : List ℕ → ℕ
upper_bits l = get_or (data_bytes l) 0 0 * 256 + get_or (data_bytes l) 1 0

-- a data line has data, at most 255 bytes since the length is a byte; the end line has none and a type 04 line two bytes, both with address 0;
-- another type is wrong
abbrev pub shape_wrong : (kind n address : ℕ) → Bool
shape_wrong k n a =
    not ((eqb k data_line && ltb 0 n) || (eqb k end_line && eqb n 0 && eqb a 0) || (eqb k upper_line && eqb n 2 && eqb a 0))

unfoldable pub malformed : List ℕ → Bool
malformed l =
    not (eqb (get_or l 0 0) mark) || not (all_digits (drop 1 l)) || not (eqb (length l) (line_width (data_length l)))
    || shape_wrong (kind l) (data_length l) (address l)

unfoldable pub checksum_wrong : List ℕ → Bool
checksum_wrong l = let n = head_size + data_length l in not (eqb (byte_of l n) (checksum (bytes_of l 0 n)))
