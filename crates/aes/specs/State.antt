-- The state and the steps of a round: FIPS 197, sections 3.4 and 5.1. The state is 4 rows and 4 columns of bytes, and stands as the list of its columns.
use Rattle.std.specs.Prelude.{List, [], ◌∷◌, ℕ, ◌+◌, ◌*◌, ◌/◌, ◌%◌, get_or}
use Rattle.octets.specs.Octets.{◌⊕◌}
use Rattle.octets.specs.Table.{table}
use Rattle.sbox.specs.Field.{◌•◌, sub_byte}
use Rattle.aes_key.specs.Key.{byte}

-- the state with f r c in row r and column c
abbrev pub state : (ℕ → ℕ → ℕ) → List ℕ
state f = table 16 (λ i. f (i % 4) (i / 4))

unfoldable pub sub_bytes : List ℕ → List ℕ
sub_bytes s = state (λ r c. sub_byte (byte s r c))

abbrev pub shift_rows : List ℕ → List ℕ
shift_rows s = state (λ r c. byte s r ((c + r) % 4))

-- a column after MIXCOLUMNS
unfoldable pub mix_column : ℕ → ℕ → ℕ → ℕ → List ℕ
mix_column a b c d =
    (0x02 • a ⊕ 0x03 • b ⊕ c ⊕ d)
    ∷ (a ⊕ 0x02 • b ⊕ 0x03 • c ⊕ d)
    ∷ (a ⊕ b ⊕ 0x02 • c ⊕ 0x03 • d)
    ∷ (0x03 • a ⊕ b ⊕ c ⊕ 0x02 • d)
    ∷ []

unfoldable pub mix_columns : List ℕ → List ℕ
mix_columns s = state (λ r c. get_or (mix_column (byte s 0 c) (byte s 1 c) (byte s 2 c) (byte s 3 c)) r 0)

-- w is the list of the key schedule's words, and a round takes four
unfoldable pub add_round_key : List ℕ → List ℕ → ℕ → List ℕ
add_round_key s w round = state (λ r c. byte s r c ⊕ byte w r (4 * round + c))
