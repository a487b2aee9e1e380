-- A text of bytes, encrypted under a key and a nonce of bytes, is bytes. Assumes nothing.
use Rattle.std.proofs.Common.{ℕ, zero, suc, ◌+◌, ◌/◌, ◌%◌, ◌^◌, List, [], ◌∷◌, length, get_or, take, sym, subst, lit<}
use Rattle.octets.specs.Octets.{Bytes, ◌⊕◌, part, number, bytes}
use Rattle.octets.proofs.Bytes.{bytes_xor, bytes_append, bytes_part, bytes_bytes, bytes_table}
use Rattle.aes.specs.Cipher.{aes}
use Rattle.aes.proofs.Bytes.{aes_bytes}
use Rattle.gcm.specs.Gcm.{inc32, CB, J0, AE_text, encrypted}
use Rattle.gcm.proofs.Counter.{stream, GCTR_is}

-- the counter blocks
counted : (X : List ℕ) → Bytes X → Bytes (inc32 X)
unfolding inc32 part
counted X b = bytes_append (take 12 X) (bytes 4 ((number X 12 4 + 1) % 2 ^ 32)) (bytes_part X 0 12 b) (bytes_bytes 4 ((number X 12 4 + 1) % 2 ^ 32))

blocks_bytes : (ICB : List ℕ) → Bytes ICB → (i : ℕ) → Bytes (CB ICB i)
unfolding CB
blocks_bytes ICB b zero = b
blocks_bytes ICB b (suc i) = counted (CB ICB i) (blocks_bytes ICB b i)

first_bytes : (nonce : List ℕ) → Bytes nonce → Bytes (J0 nonce)
unfolding J0
first_bytes nonce b = bytes_append nonce (0 ∷ 0 ∷ 0 ∷ 1 ∷ []) b last
  where
    last : Bytes (0 ∷ 0 ∷ 0 ∷ 1 ∷ [])
    last zero = lit< tt
    last (suc zero) = lit< tt
    last (suc (suc zero)) = lit< tt
    last (suc (suc (suc zero))) = lit< tt
    last (suc (suc (suc (suc i)))) = lit< tt

pub encrypted_bytes : (key nonce text : List ℕ) → Bytes key → Bytes nonce → Bytes text → Bytes (encrypted key nonce text)
unfolding encrypted AE_text
encrypted_bytes key nonce text k n b =
    let ICB : List ℕ = inc32 (J0 nonce) in
    subst Bytes (sym (GCTR_is (aes key) ICB text))
    (bytes_table (length text) (λ j. get_or text j 0 ⊕ stream (aes key) ICB j)
    (λ j h. bytes_xor _ _ (b j) (aes_bytes key (CB ICB (j / 16)) k (blocks_bytes ICB (counted (J0 nonce) (first_bytes nonce n)) (j / 16)) (j % 16))))
