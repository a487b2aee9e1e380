-- CIPHER: FIPS 197, section 5.1. Nr is the number of rounds, and w the key schedule.
use Rattle.std.specs.Prelude.{List, ℕ, zero, suc, ◌-◌, ◌/◌, length}
use Rattle.aes.specs.State.{sub_bytes, shift_rows, mix_columns, add_round_key}
use Rattle.aes_key.specs.Key.{Nr, key_expansion}

-- the state s after rounds 1 to n
unfoldable pub rounds : List ℕ → List ℕ → ℕ → List ℕ
rounds w s zero = s
rounds w s (suc n) = add_round_key (mix_columns (shift_rows (sub_bytes (rounds w s n)))) w (suc n)

-- the last round has no MIXCOLUMNS
unfoldable pub cipher : ℕ → List ℕ → List ℕ → List ℕ
cipher nr w block = add_round_key (shift_rows (sub_bytes (rounds w (add_round_key block w 0) (nr - 1)))) w nr

-- AES-128 and AES-256: the key's words, and the rounds
unfoldable pub AES-128 : List ℕ → List ℕ → List ℕ
AES-128 key block = cipher 10 (key_expansion 4 key) block

unfoldable pub AES-256 : List ℕ → List ℕ → List ℕ
AES-256 key block = cipher 14 (key_expansion 8 key) block

-- AES-128, AES-192 or AES-256 of a block, by the key's length; that it is AES-128 for 16 bytes and AES-256 for 32 is in proofs/Whole.antt
unfoldable pub aes : List ℕ → List ℕ → List ℕ
aes key block = let Nk = length key / 4 in cipher (Nr Nk) (key_expansion Nk key) block
