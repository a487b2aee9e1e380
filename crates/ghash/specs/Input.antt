-- What is hashed for a tag: SP 800-38D, algorithm 4, steps 4 and 5.
use Rattle.std.specs.Prelude.{List, ◌++◌, ℕ, ◌+◌, ◌-◌, ◌*◌, ◌/◌, length, replicate}
use Rattle.octets.specs.Octets.{bytes}

-- how many blocks n bytes take, of which the last may be shorter
abbrev pub blocks : ℕ → ℕ
blocks n = (n + 15) / 16

-- step 4: s with zeros behind it up to whole blocks
unfoldable pub padded : List ℕ → List ℕ
padded s = s ++ replicate (16 * blocks (length s) - length s) 0

-- step 5: the lengths of A and C in bits, at 64 bits each, and what is hashed
unfoldable pub lengths : List ℕ → List ℕ → List ℕ
lengths A C = bytes 8 (8 * length A) ++ bytes 8 (8 * length C)

unfoldable pub hash_input : List ℕ → List ℕ → List ℕ
hash_input A C = padded A ++ (padded C ++ lengths A C)
