-- KEYEXPANSION: FIPS 197, section 5.2. A word is a list of four bytes, and the key schedule w is the list of its words' bytes.
-- Nk is the number of the key's words, and Nr that of the rounds.
use Rattle.std.specs.Prelude.{◌≡◌, List, [], ◌∷◌, ◌++◌, cond, ◌&&◌, ℕ, zero, suc, ◌+◌, ◌-◌, ◌*◌, ◌/◌, ◌%◌, ◌≤◌, eqb, ltb, length, get_or, replicate}
use Rattle.octets.specs.Octets.{◌⊕◌}
use Rattle.octets.specs.Table.{table}
use Rattle.sbox.specs.Field.{xtime, sub_byte}

-- the byte in row r and column c of a list of columns, which have four bytes each: a schedule's columns are its words
abbrev pub byte : List ℕ → ℕ → ℕ → ℕ
byte s r c = get_or s (r + 4 * c) 0

-- w[i]
abbrev pub word : List ℕ → ℕ → List ℕ
word w i = table 4 (λ r. byte w r i)

abbrev pub xor_word : List ℕ → List ℕ → List ℕ
xor_word u v = table 4 (λ r. get_or u r 0 ⊕ get_or v r 0)

abbrev pub rot_word : List ℕ → List ℕ
rot_word u = table 4 (λ r. get_or u ((r + 1) % 4) 0)

abbrev pub sub_word : List ℕ → List ℕ
sub_word u = table 4 (λ r. sub_byte (get_or u r 0))

-- x to the power j, an element of the field
unfoldable pub x_power : ℕ → ℕ
x_power zero = 1
x_power (suc j) = xtime (x_power j)

-- Rcon[j]
abbrev pub rcon : ℕ → List ℕ
rcon j = x_power (j - 1) ∷ 0 ∷ 0 ∷ 0 ∷ []

-- temp, which is added to w[i - Nk], of u = w[i - 1]
unfoldable pub temp : ℕ → ℕ → List ℕ → List ℕ
temp Nk i u =
    cond (eqb (i % Nk) 0) (xor_word (sub_word (rot_word u)) (rcon (i / Nk)))
    (cond (ltb 6 Nk && eqb (i % Nk) 4) (sub_word u) u)

-- w[i]: a word of the key, or one made of the words before it
unfoldable pub next_word : ℕ → List ℕ → List ℕ → ℕ → List ℕ
next_word Nk key w i = cond (ltb i Nk) (word key i) (xor_word (word w (i - Nk)) (temp Nk i (word w (i - 1))))

-- the first n words
unfoldable pub expanded : ℕ → List ℕ → ℕ → List ℕ
expanded Nk key zero = []
expanded Nk key (suc n) = expanded Nk key n ++ next_word Nk key (expanded Nk key n) n

abbrev pub Nr : ℕ → ℕ
Nr Nk = Nk + 6

unfoldable pub key_expansion : ℕ → List ℕ → List ℕ
key_expansion Nk key = expanded Nk key (4 * (Nr Nk + 1))

-- what the code expands: a key of 16 bytes or of 32
pub record KeyLength (n : ℕ) : Type 0 where
  pub at_least : 16 ≤ n
  pub at_most : n ≤ 32
  pub whole : n % 16 ≡ 0

-- How the code keeps a schedule: in 240 bytes, the longest one's, with zeros behind it
unfoldable pub padded : List ℕ → List ℕ
padded w = w ++ replicate (240 - length w) 0

-- the key schedule of a key, so kept
unfoldable pub round_keys : List ℕ → List ℕ
round_keys key = padded (key_expansion (length key / 4) key)
