-- The key schedule of a key of bytes is bytes. Assumes nothing.
use mathlib.Core.Bool.{Bool, true, false, cond, ◌&&◌}
use mathlib.Core.List.{List}
use Prim.Native.Nat.{ℕ, zero, suc, ◌+◌, ◌-◌, ◌*◌, ◌/◌, ◌%◌, ◌<◌}
use lib.Dec.{lit<, eqb, ltb}
use lib.ListN.{get_or}
use Rattle.octets.specs.Octets.{Bytes, ◌⊕◌}
use Rattle.octets.proofs.Bytes.{bytes_xor, bytes_append, bytes_table}
use Rattle.sbox.specs.Field.{sub_byte}
use Rattle.sbox.proofs.FieldLaws.{xtime_small, sub_byte_small}
use Rattle.aes_key.specs.Key.{byte, word, xor_word, rot_word, sub_word, x_power, rcon, temp, next_word, expanded, Nr, key_expansion}

either : (t : Bool) (u v : List ℕ) → Bytes u → Bytes v → Bytes (cond t u v)
either true u v p q = p
either false u v p q = q

xor_bytes : (u v : List ℕ) → Bytes u → Bytes v → Bytes (xor_word u v)
xor_bytes u v p q = bytes_table 4 (λ r. get_or u r 0 ⊕ get_or v r 0) (λ r h. bytes_xor _ _ (p r) (q r))

substituted_bytes : (u : List ℕ) → Bytes u → Bytes (sub_word u)
substituted_bytes u p = bytes_table 4 (λ r. sub_byte (get_or u r 0)) (λ r h. sub_byte_small _ (p r))

turned_bytes : (u : List ℕ) → Bytes u → Bytes (rot_word u)
turned_bytes u p = bytes_table 4 (λ r. get_or u ((r + 1) % 4) 0) (λ r h. p ((r + 1) % 4))

word_bytes : (w : List ℕ) (i : ℕ) → Bytes w → Bytes (word w i)
word_bytes w i p = bytes_table 4 (λ r. byte w r i) (λ r h. p (r + 4 * i))

power_small : (j : ℕ) → x_power j < 256
unfolding x_power
power_small zero = lit< tt
power_small (suc j) = xtime_small (x_power j) (power_small j)

rcon_bytes : (j : ℕ) → Bytes (rcon j)
rcon_bytes j zero = power_small (j - 1)
rcon_bytes j (suc zero) = lit< tt
rcon_bytes j (suc (suc zero)) = lit< tt
rcon_bytes j (suc (suc (suc zero))) = lit< tt
rcon_bytes j (suc (suc (suc (suc i)))) = lit< tt

temp_bytes : (Nk i : ℕ) (u : List ℕ) → Bytes u → Bytes (temp Nk i u)
unfolding temp
temp_bytes Nk i u p =
    let every = xor_bytes (sub_word (rot_word u)) (rcon (i / Nk)) (substituted_bytes (rot_word u) (turned_bytes u p)) (rcon_bytes (i / Nk)) in
    let fourth = either (ltb 6 Nk && eqb (i % Nk) 4) (sub_word u) u (substituted_bytes u p) p in
    either (eqb (i % Nk) 0) (xor_word (sub_word (rot_word u)) (rcon (i / Nk))) (cond (ltb 6 Nk && eqb (i % Nk) 4) (sub_word u) u) every fourth

next_bytes : (Nk : ℕ) (key w : List ℕ) (i : ℕ) → Bytes key → Bytes w → Bytes (next_word Nk key w i)
unfolding next_word
next_bytes Nk key w i k b =
    let last = word w (i - 1) in
    let made = xor_bytes (word w (i - Nk)) (temp Nk i last) (word_bytes w (i - Nk) b) (temp_bytes Nk i last (word_bytes w (i - 1) b)) in
    either (ltb i Nk) (word key i) (xor_word (word w (i - Nk)) (temp Nk i last)) (word_bytes key i k) made

module _ (Nk : ℕ) (key : List ℕ) (k : Bytes key) where
  expanded_bytes : (n : ℕ) → Bytes (expanded Nk key n)
  unfolding expanded
  expanded_bytes zero = λ i. lit< tt
  expanded_bytes (suc n) =
      let w : List ℕ = expanded Nk key n in
      bytes_append w (next_word Nk key w n) (expanded_bytes n) (next_bytes Nk key w n k (expanded_bytes n))

  pub schedule_bytes : Bytes (key_expansion Nk key)
  unfolding key_expansion
  schedule_bytes = expanded_bytes (4 * (Nr Nk + 1))
