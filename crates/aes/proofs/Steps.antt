-- The steps of a round as tables over the index of a byte, as the loops have them.
-- Assumes nothing.
use mathlib.Core.Path.{◌≡◌, refl}
use mathlib.Core.List.{List, ◌++◌}
use Prim.Native.Nat.{ℕ, zero, suc, ◌+◌, ◌*◌, ◌-◌, ◌<◌}
use native.Mathlib.Nat.{add-zero}
use native.Mathlib.Omega.{arith}
use lib.ListN.{get_or}
use Rattle.octets.specs.Table.{table}
use Rattle.sbox.specs.Field.{sub_byte}
use Rattle.aes.specs.State.{sub_bytes, shift_rows, mix_column, mix_columns, add_round_key}
use Rattle.aes_key.specs.Key.{word, xor_word}
use Rattle.aes.specs.Cipher.{rounds}

pub sub_bytes_is : (s : List ℕ) → sub_bytes s ≡ table 16 (λ i. sub_byte (get_or s i 0))
unfolding sub_bytes
sub_bytes_is s = refl

-- the column of the bytes at four places of s, after SUBBYTES and MIXCOLUMNS
abbrev pub mixed : List ℕ → ℕ → ℕ → ℕ → ℕ → List ℕ
mixed s a b c d = mix_column (sub_byte (get_or s a 0)) (sub_byte (get_or s b 0)) (sub_byte (get_or s c 0)) (sub_byte (get_or s d 0))

-- a round key added, column by column
pub add_round_key_is : (s w : List ℕ) (round : ℕ) → add_round_key s w round
    ≡ xor_word (word s 0) (word w (4 * round)) ++ xor_word (word s 1) (word w (4 * round + 1)) ++ xor_word (word s 2) (word w (4 * round + 2)) ++ xor_word (word s 3) (word w (4 * round + 3))
unfolding add_round_key
add_round_key_is s w round = rw (add-zero (4 * round))

-- a whole round, column by column
pub round_is : (s w : List ℕ) (round : ℕ) → add_round_key (mix_columns (shift_rows (sub_bytes s))) w round
    ≡ xor_word (mixed s 0 5 10 15) (word w (4 * round)) ++ xor_word (mixed s 4 9 14 3) (word w (4 * round + 1))
    ++ xor_word (mixed s 8 13 2 7) (word w (4 * round + 2)) ++ xor_word (mixed s 12 1 6 11) (word w (4 * round + 3))
unfolding add_round_key mix_columns sub_bytes
round_is s w round = rw (add-zero (4 * round))

-- one round more
pub rounds_more : (w s₀ s : List ℕ) (n : ℕ) → 0 < n → s ≡ rounds w s₀ (n - 1) → add_round_key (mix_columns (shift_rows (sub_bytes s))) w n ≡ rounds w s₀ (n + 1 - 1)
unfolding rounds
rounds_more w s₀ s zero p e = absurd (omega arith)
rounds_more w s₀ s (suc n) p e =
    let e₁ : suc n - 1 ≡ n = omega arith in
    let e₂ : suc n + 1 - 1 ≡ suc n = omega arith in
    rw (e₂, e, e₁)
