-- Counter mode and GCM: SP 800-38D, sections 6.2, 6.5 and 7, with its names, for an IV of 12 bytes and a tag T of 16.
-- CIPH is the block cipher under the key; at the end it is AES.
use Rattle.std.specs.Prelude.{ℕ, zero, suc, ◌+◌, ◌*◌, ◌%◌, ◌^◌, cond, List, [], ◌∷◌, ◌++◌, length, take, replicate, slice_index_or}
use Rattle.std.proofs.Math.Option.{Option, none, some}
use Rattle.octets.specs.Octets.{part, same, number, bytes, ◌⊕◌}
use Rattle.octets.specs.Table.{table}
use Rattle.aes.specs.Cipher.{aes}
use Rattle.ghash.specs.Ghash.{GHASH}
use Rattle.ghash.specs.Input.{blocks, hash_input}

-- inc_32: the last 32 bits of a block count up
unfoldable pub inc32 : List ℕ → List ℕ
inc32 X = take 12 X ++ bytes 4 ((number X 12 4 + 1) % 2 ^ 32)

-- Algorithm 3. The counter blocks: CB_1 is `CB ICB 0`
unfoldable pub CB : List ℕ → ℕ → List ℕ
CB ICB zero = ICB
CB ICB (suc i) = inc32 (CB ICB i)

-- a block of text, or its beginning, with the first bytes of a block of key stream added
unfoldable pub add_bytes : List ℕ → List ℕ → List ℕ
add_bytes X S = table (length X) (λ i. slice_index_or X i 0 ⊕ slice_index_or S i 0)

-- the first i blocks Y_1, Y_2, .. of the result
unfoldable pub GCTRᵢ : (List ℕ → List ℕ) → List ℕ → List ℕ → ℕ → List ℕ
GCTRᵢ CIPH ICB X zero = []
GCTRᵢ CIPH ICB X (suc i) = GCTRᵢ CIPH ICB X i ++ add_bytes (part X (16 * i) 16) (CIPH (CB ICB i))

-- GCTR_K(ICB, X)
unfoldable pub GCTR : (List ℕ → List ℕ) → List ℕ → List ℕ → List ℕ
GCTR CIPH ICB X = GCTRᵢ CIPH ICB X (blocks (length X))

-- Algorithm 4, step 1: the hash subkey H
unfoldable pub hash_subkey : (List ℕ → List ℕ) → ℕ
hash_subkey CIPH = number (CIPH (replicate 16 0)) 0 16

-- step 2: the pre-counter block
unfoldable pub J0 : List ℕ → List ℕ
J0 IV = IV ++ (0 ∷ 0 ∷ 0 ∷ 1 ∷ [])

-- step 3: C of P; algorithm 5 takes the same step from C to P
unfoldable pub AE_text : (List ℕ → List ℕ) → List ℕ → List ℕ → List ℕ
AE_text CIPH IV P = GCTR CIPH (inc32 (J0 IV)) P

-- steps 4 to 6: the tag T of A and C
unfoldable pub AE_tag : (List ℕ → List ℕ) → List ℕ → List ℕ → List ℕ → List ℕ
AE_tag CIPH IV A C = GCTR CIPH (J0 IV) (bytes 16 (GHASH (hash_subkey CIPH) (hash_input A C)))

-- Algorithm 4, authenticated encryption: C and T
unfoldable pub GCM-AE : (List ℕ → List ℕ) → (IV P A : List ℕ) → List ℕ × List ℕ
GCM-AE CIPH IV P A = let C = AE_text CIPH IV P in (C, AE_tag CIPH IV A C)

-- Algorithm 5, authenticated decryption: P, or FAIL where T is not the tag of A and C
unfoldable pub GCM-AD : (List ℕ → List ℕ) → (IV C A T : List ℕ) → Option (List ℕ)
GCM-AD CIPH IV C A T = cond (same T (AE_tag CIPH IV A C)) (some (AE_text CIPH IV C)) none

-- AES-GCM: the text encrypted under a key and a nonce, or the encrypted text decrypted
unfoldable pub encrypted : (key nonce text : List ℕ) → List ℕ
encrypted key nonce text = AE_text (aes key) nonce text

-- the tag of associated data and encrypted text
unfoldable pub tag : (key nonce aad cipher : List ℕ) → List ℕ
tag key nonce aad cipher = AE_tag (aes key) nonce aad cipher
