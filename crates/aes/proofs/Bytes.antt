-- AES of a block of bytes, under a key of bytes, is bytes. Assumes nothing.
use mathlib.Core.List.{List}
use Prim.Native.Nat.{ℕ, zero, suc, ◌+◌, ◌-◌, ◌*◌, ◌/◌, ◌%◌, ◌<◌}
use mathlib.Core.Path.{sym, subst}
use lib.Dec.{lit<}
use lib.ListN.{length, get_or}
use Rattle.octets.specs.Octets.{Bytes, ◌⊕◌}
use Rattle.octets.proofs.Bytes.{bytes_xor, bytes_table}
use Rattle.sbox.specs.Field.{xtime, ◌•◌, sub_byte}
use Rattle.sbox.proofs.FieldLaws.{twice, thrice, xtime_small, sub_byte_small}
use Rattle.aes_key.specs.Key.{byte, Nr, key_expansion}
use Rattle.aes_key.proofs.Bytes.{schedule_bytes}
use Rattle.aes.specs.State.{state, sub_bytes, shift_rows, mix_column, mix_columns, add_round_key}
use Rattle.aes.specs.Cipher.{rounds, cipher, aes}

state_bytes : (f : ℕ → ℕ → ℕ) → ((r c : ℕ) → f r c < 256) → Bytes (state f)
state_bytes f h = bytes_table 16 (λ i. f (i % 4) (i / 4)) (λ i k. h (i % 4) (i / 4))

substituted : (s : List ℕ) → Bytes s → Bytes (sub_bytes s)
unfolding sub_bytes
substituted s b = state_bytes (λ r c. sub_byte (byte s r c)) (λ r c. sub_byte_small _ (b (r + 4 * c)))

shifted : (s : List ℕ) → Bytes s → Bytes (shift_rows s)
shifted s b = state_bytes (λ r c. byte s r ((c + r) % 4)) (λ r c. b (r + 4 * ((c + r) % 4)))

twice_small : (a : ℕ) → a < 256 → 0x02 • a < 256
twice_small a h = subst (λ (x : ℕ). x < 256) (sym (twice a)) (xtime_small a h)

thrice_small : (a : ℕ) → a < 256 → 0x03 • a < 256
thrice_small a h = subst (λ (x : ℕ). x < 256) (sym (thrice a)) (bytes_xor (xtime a) a (xtime_small a h) h)

-- four bytes added
sum_small : (w x y z : ℕ) → w < 256 → x < 256 → y < 256 → z < 256 → w ⊕ x ⊕ y ⊕ z < 256
sum_small w x y z a b c d = bytes_xor w _ a (bytes_xor x _ b (bytes_xor y z c d))

column_bytes : (a b c d : ℕ) → a < 256 → b < 256 → c < 256 → d < 256 → Bytes (mix_column a b c d)
unfolding mix_column
column_bytes a b c d ha hb hc hd zero = sum_small _ _ _ _ (twice_small a ha) (thrice_small b hb) hc hd
column_bytes a b c d ha hb hc hd (suc zero) = sum_small _ _ _ _ ha (twice_small b hb) (thrice_small c hc) hd
column_bytes a b c d ha hb hc hd (suc (suc zero)) = sum_small _ _ _ _ ha hb (twice_small c hc) (thrice_small d hd)
column_bytes a b c d ha hb hc hd (suc (suc (suc zero))) = sum_small _ _ _ _ (thrice_small a ha) hb hc (twice_small d hd)
column_bytes a b c d ha hb hc hd (suc (suc (suc (suc i)))) = lit< tt

mixed : (s : List ℕ) → Bytes s → Bytes (mix_columns s)
unfolding mix_columns
mixed s b =
    state_bytes (λ r c. get_or (mix_column (byte s 0 c) (byte s 1 c) (byte s 2 c) (byte s 3 c)) r 0)
    (λ r c. column_bytes _ _ _ _ (b (0 + 4 * c)) (b (1 + 4 * c)) (b (2 + 4 * c)) (b (3 + 4 * c)) r)

module _ (w : List ℕ) (k : Bytes w) where
  added : (s : List ℕ) (round : ℕ) → Bytes s → Bytes (add_round_key s w round)
  unfolding add_round_key
  added s round b = state_bytes (λ r c. byte s r c ⊕ byte w r (4 * round + c)) (λ r c. bytes_xor _ _ (b (r + 4 * c)) (k (r + 4 * (4 * round + c))))

  round_bytes : (s : List ℕ) (n : ℕ) → Bytes s → Bytes (rounds w s n)
  unfolding rounds
  round_bytes s zero b = b
  round_bytes s (suc n) b =
      let t : List ℕ = rounds w s n in
      added (mix_columns (shift_rows (sub_bytes t))) (suc n) (mixed (shift_rows (sub_bytes t)) (shifted (sub_bytes t) (substituted t (round_bytes s n b))))

  cipher_bytes : (nr : ℕ) (block : List ℕ) → Bytes block → Bytes (cipher nr w block)
  unfolding cipher
  cipher_bytes nr block b =
      let t : List ℕ = rounds w (add_round_key block w 0) (nr - 1) in
      added (shift_rows (sub_bytes t)) nr (shifted (sub_bytes t) (substituted t (round_bytes (add_round_key block w 0) (nr - 1) (added block 0 b))))

pub aes_bytes : (key block : List ℕ) → Bytes key → Bytes block → Bytes (aes key block)
unfolding aes
aes_bytes key block k b = let Nk = length key / 4 in cipher_bytes (key_expansion Nk key) (schedule_bytes Nk key k) (Nr Nk) block b
