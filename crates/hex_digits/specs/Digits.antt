-- Bytes in hexadecimal: two digits for each, the higher first.
use Rattle.std.specs.Prelude.{ℕ, ◌+◌, ◌*◌, ◌/◌, ◌%◌, Bool, true, cond, ◌&&◌, ◌||◌, List, [], ◌∷◌, leb, ltb, get_or}
use Rattle.octets.specs.Table.{table}

-- 0 to 9, A to F, a to f
abbrev pub is_digit : ℕ → Bool
is_digit c = (leb 0x30 c && leb c 0x39) || (leb 0x41 c && leb c 0x46) || (leb 0x61 c && leb c 0x66)

-- the value of a digit: 0 to 9 stand from 0x30 on; the letters stand from 0x41 and 0x61 on, so A and a end in 1 and get 9 more. A byte that is
-- no digit has some value too.
abbrev pub digit_value : ℕ → ℕ
digit_value c = (c % 16 + c / 64 * 9) % 16

-- the digit of a value below 16, in upper case
abbrev pub digit_of : ℕ → ℕ
digit_of v = cond (ltb v 10) (0x30 + v) (0x37 + v)

unfoldable pub all_digits : List ℕ → Bool
all_digits [] = true
all_digits (c ∷ s) = is_digit c && all_digits s

-- the byte of the two digits from offset i on
abbrev pub pair : List ℕ → ℕ → ℕ
pair s i = digit_value (get_or s i 0) * 16 + digit_value (get_or s (i + 1) 0)

-- the n bytes whose digits s begins with
abbrev pub decoded : List ℕ → ℕ → List ℕ
decoded s n = table n (λ k. pair s (2 * k))

-- the digits of bytes
unfoldable pub encoded : List ℕ → List ℕ
encoded [] = []
encoded (b ∷ s) = digit_of (b / 16) ∷ digit_of (b % 16) ∷ encoded s
