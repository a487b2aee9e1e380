-- Byte strings: lists of numbers below 256.
use Rattle.std.specs.Prelude.{ℕ, zero, suc, ◌+◌, ◌*◌, ◌/◌, ◌%◌, ◌^◌, ◌<◌, Bool, true, false, ◌&&◌, List, [], ◌∷◌, ◌++◌, length, take, drop, get_or, replicate, eqb}
use Rattle.std.specs.Int.Bits.{bit_xor}

-- every number of a list is a byte
abbrev pub Bytes : List ℕ → Type 0
Bytes xs = (i : ℕ) → get_or xs i 0 < 256

infixr 65 ◌⊕◌
-- exclusive or, of two bytes or of two blocks
abbrev pub ◌⊕◌ : ℕ → ℕ → ℕ
a ⊕ b = bit_xor a b

-- n bytes from offset i
unfoldable pub part : List ℕ → ℕ → ℕ → List ℕ
part xs i n = take n (drop i xs)

-- xs with the bytes of ys put over its own from offset i on
unfoldable pub put : List ℕ → ℕ → List ℕ → List ℕ
put xs i ys = take i xs ++ (ys ++ drop (i + length ys) xs)

-- the same bytes
unfoldable pub same : List ℕ → List ℕ → Bool
same [] [] = true
same [] (y ∷ ys) = false
same (x ∷ xs) [] = false
same (x ∷ xs) (y ∷ ys) = eqb x y && same xs ys

-- every byte is 0xFF, as an erase leaves it
unfoldable pub blank : List ℕ → Bool
blank [] = true
blank (x ∷ xs) = eqb x 0xFF && blank xs

-- n such bytes
abbrev pub erased : ℕ → List ℕ
erased n = replicate n 0xFF

-- the number of the n bytes from offset i on, the most significant first; a byte past the end counts as 0
unfoldable pub number : List ℕ → ℕ → ℕ → ℕ
number xs i zero = 0
number xs i (suc n) = number xs i n * 256 + get_or xs (i + n) 0

-- the n bytes of a number, the most significant first
unfoldable pub bytes : ℕ → ℕ → List ℕ
bytes zero x = []
bytes (suc n) x = x / 2 ^ (8 * n) % 256 ∷ bytes n x
