-- Worked examples of the mode's authors, computed from the definitions, AES included: McGrew and Viega, "The Galois/Counter Mode of
-- Operation". Here stands what the test cases share: IV, text and associated data, and the steps from the blocks under AES to encrypted
-- text and tag. Assumes nothing.
use mathlib.Core.List.{List, ◌++◌}
use mathlib.Core.Path.{◌≡◌, refl, sym, ap, ◌∙◌}
use Prim.Native.Nat.{ℕ, zero, suc, ◌+◌, ◌*◌, ◌/◌}
use native.Mathlib.Nat.{zero-add, add-suc, suc-add}
use lib.ListN.{length, replicate}
use Rattle.octets.specs.Octets.{part, number, bytes, ◌⊕◌}
use Rattle.aes.specs.Cipher.{aes}
use Rattle.ghash.specs.Ghash.{add_if, bit, halved, Vᵢ, Zᵢ, ◌•◌, Yᵢ, hashed, GHASH}
use Rattle.ghash.specs.Input.{hash_input}
use Rattle.gcm.specs.Gcm.{inc32, CB, add_bytes, GCTRᵢ, GCTR, hash_subkey, J0, AE_text, AE_tag, encrypted, tag}

unfoldable pub IV : List ℕ
IV = bytes 12 0xcafebabefacedbaddecaf888

unfoldable pub P : List ℕ
P = bytes 60 0xd9313225f88406e5a55909c5aff5269a86a7a9531534f7da2e4c303d8a318a721c3c0c95956809532fcf0e2449a6b525b16aedf5aa0de657ba637b39

unfoldable pub A : List ℕ
A = bytes 20 0xfeedfacedeadbeeffeedfacedeadbeefabaddad2

-- ---- the text

-- P with blocks of key stream added
unfoldable pub joined : (a b c d : List ℕ) → List ℕ
joined a b c d = add_bytes (part P 0 16) a ++ add_bytes (part P 16 16) b ++ add_bytes (part P 32 16) c ++ add_bytes (part P 48 16) d

pub text_is : (K a b c d : List ℕ) → aes K (IV ++ bytes 4 2) ≡ a → aes K (IV ++ bytes 4 3) ≡ b → aes K (IV ++ bytes 4 4) ≡ c
    → aes K (IV ++ bytes 4 5) ≡ d → encrypted K IV P ≡ joined a b c d
unfolding joined encrypted AE_text GCTR GCTRᵢ CB inc32 J0 add_bytes part number bytes IV P
text_is K a b c d second third fourth fifth = λ i. joined (second i) (third i) (fourth i) (fifth i)

-- ---- the tag

-- algorithm 1 with Z and V carried along, which is computed at once
unfoldable pub carried : ℕ → ℕ → ℕ → ℕ → ℕ → ℕ
carried zero i x z v = z
carried (suc n) i x z v = carried n (suc i) x (add_if (bit x i) z v) (halved v)

carried_is : (n i x y : ℕ) → carried n i x (Zᵢ i x y) (Vᵢ i y) ≡ Zᵢ (n + i) x y
unfolding carried Zᵢ Vᵢ
carried_is zero i x y = ap (λ (k : ℕ). Zᵢ k x y) (sym (zero-add i))
carried_is (suc n) i x y = carried_is n (suc i) x y ∙ ap (λ (k : ℕ). Zᵢ k x y) (add-suc n i ∙ sym (suc-add n i))

product : (x y : ℕ) → x • y ≡ carried 128 0 x 0 y
unfolding ◌•◌ Zᵢ Vᵢ
product x y = sym (carried_is 128 0 x y)

-- algorithm 2 by such products
unfoldable pub value : ℕ → List ℕ → ℕ → ℕ
value H X zero = 0
value H X (suc i) = carried 128 0 (value H X i ⊕ number X (16 * i) 16) 0 H

value_is : (H : ℕ) (X : List ℕ) (i : ℕ) → Yᵢ H 0 X i ≡ value H X i
unfolding Yᵢ value
value_is H X zero = refl
value_is H X (suc i) =
    ap (λ (v : ℕ). (v ⊕ number X (16 * i) 16) • H) (value_is H X i) ∙ product (value H X i ⊕ number X (16 * i) 16) H

pub hash_is : (K C h : List ℕ) → aes K (replicate 16 0) ≡ h
    → GHASH (hash_subkey (aes K)) (hash_input A C) ≡ value (number h 0 16) (hash_input A C) (length (hash_input A C) / 16)
unfolding GHASH hashed hash_subkey
hash_is K C h subkey =
    ap (λ (l : List ℕ). GHASH (number l 0 16) (hash_input A C)) subkey ∙ value_is (number h 0 16) (hash_input A C) (length (hash_input A C) / 16)

pub tag_is : (K C s : List ℕ) (y : ℕ) → GHASH (hash_subkey (aes K)) (hash_input A C) ≡ y → aes K (IV ++ bytes 4 1) ≡ s
    → tag K IV A C ≡ add_bytes (bytes 16 y) s
unfolding tag AE_tag GCTR GCTRᵢ CB J0 add_bytes part bytes IV
tag_is K C s y hash first = λ i. add_bytes (bytes 16 (hash i)) (first i)
