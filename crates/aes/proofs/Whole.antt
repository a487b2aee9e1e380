-- The cipher under the schedule that `expand_key` makes is AES.
-- Assumes nothing.
use mathlib.Core.Path.{◌≡◌, refl, ap, ◌∙◌}
use mathlib.Core.List.{List}
use Prim.Native.Nat.{ℕ, zero, suc, ◌+◌, ◌-◌, ◌*◌, ◌/◌, ◌%◌, ◌≤◌}
use native.Mathlib.Omega.{arith}
use lib.ListN.{length, replicate, get_or-append}
use Rattle.octets.specs.Limits.{short_key, long_key}
use Rattle.octets.specs.Octets.{◌⊕◌}
use Rattle.octets.proofs.Tables.{table_ext}
use Rattle.aes.specs.State.{sub_bytes, shift_rows, mix_columns, add_round_key}
use Rattle.aes_key.specs.Key.{byte, KeyLength, Nr, key_expansion, padded, round_keys}
use Rattle.aes.specs.Cipher.{rounds, cipher, AES-128, AES-256, aes}
use Rattle.aes_key.proofs.Schedule.{length_expanded}

-- a round whose words are within the schedule does not see the zeros after it
add_padded : (s w : List ℕ) (round : ℕ) → 16 * round + 16 ≤ length w → add_round_key s (padded w) round ≡ add_round_key s w round
unfolding add_round_key padded
add_padded s w round h =
    table_ext 16 (λ i. byte s (i % 4) (i / 4) ⊕ byte (padded w) (i % 4) (4 * round + i / 4)) (λ i. byte s (i % 4) (i / 4) ⊕ byte w (i % 4) (4 * round + i / 4))
    (λ i k. ap (λ (b : ℕ). byte s (i % 4) (i / 4) ⊕ b) (get_or-append w (replicate (240 - length w) 0) 0 (i % 4 + 4 * (4 * round + i / 4)) (omega arith)))

rounds_padded : (w s : List ℕ) (n : ℕ) → 16 * n + 16 ≤ length w → rounds (padded w) s n ≡ rounds w s n
unfolding rounds
rounds_padded w s zero h = refl
rounds_padded w s (suc n) h =
    add_padded (mix_columns (shift_rows (sub_bytes (rounds (padded w) s n)))) w (suc n) h
    ∙ ap (λ (t : List ℕ). add_round_key (mix_columns (shift_rows (sub_bytes t))) w (suc n)) (rounds_padded w s n (omega arith))

cipher_padded : (Nr : ℕ) (w block : List ℕ) → 16 * Nr + 16 ≤ length w → cipher Nr (padded w) block ≡ cipher Nr w block
unfolding cipher
cipher_padded Nr w block h =
    add_padded (shift_rows (sub_bytes (rounds (padded w) (add_round_key block (padded w) 0) (Nr - 1)))) w Nr h
    ∙ ap (λ (t : List ℕ). add_round_key (shift_rows (sub_bytes t)) w Nr)
    (rounds_padded w (add_round_key block (padded w) 0) (Nr - 1) (omega arith)
    ∙ ap (λ (t : List ℕ). rounds w t (Nr - 1)) (add_padded block w 0 (omega arith)))

pub aes_is : (key block : List ℕ) → KeyLength (length key) → cipher (Nr (length key / 4)) (round_keys key) block ≡ aes key block
unfolding aes round_keys key_expansion
aes_is key block h =
    let nk = length key / 4 in
    cipher_padded (Nr nk) (key_expansion nk key) block (omega (arith, length_expanded nk key (4 * (Nr nk + 1))))

-- by a key of 16 bytes it is AES-128, by one of 32 AES-256
of_length : (n nr : ℕ) → Nr (n / 4) ≡ nr → (key : List ℕ) → length key ≡ n → aes key ≡ (λ block. cipher nr (key_expansion (n / 4) key) block)
unfolding aes
of_length n nr e key long = λ i block. (ap (λ (m : ℕ). cipher (Nr (m / 4)) (key_expansion (m / 4) key) block) long ∙ ap (λ (r : ℕ). cipher r (key_expansion (n / 4) key) block) e) i

pub aes_128 : (key : List ℕ) → length key ≡ short_key → aes key ≡ AES-128 key
unfolding AES-128
aes_128 key long = of_length short_key 10 refl key long

pub aes_256 : (key : List ℕ) → length key ≡ long_key → aes key ≡ AES-256 key
unfolding AES-256
aes_256 key long = of_length long_key 14 refl key long
