-- Laws of AES-GCM's text and tag, and of authenticated encryption and decryption for every block cipher. Assumes nothing.
use Rattle.std.proofs.Common.{◌≡◌, ℕ, Bool, true, false, cond, List, length, refl, ap, ◌∙◌, arith}
use mathlib.Core.Option.{none, some}
use Rattle.octets.specs.Octets.{same, bytes}
use Rattle.octets.proofs.Laws.{same_refl, same_equal, equal_same, unequal_same}
use Rattle.octets.proofs.Numbers.{length_bytes}
use Rattle.ghash.specs.Ghash.{GHASH}
use Rattle.ghash.specs.Input.{hash_input}
use Rattle.gcm.specs.Gcm.{hash_subkey, J0, inc32, AE_text, AE_tag, GCM-AE, GCM-AD, encrypted, tag}
use Rattle.gcm.proofs.Counter.{length_GCTR, GCTR_twice}

module _ (CIPH : List ℕ → List ℕ) (IV : List ℕ) where
  pub text_twice : (P : List ℕ) → AE_text CIPH IV (AE_text CIPH IV P) ≡ P
  unfolding AE_text
  text_twice P = GCTR_twice CIPH (inc32 (J0 IV)) P

  pub length_text : (P : List ℕ) → length (AE_text CIPH IV P) ≡ length P
  unfolding AE_text
  length_text P = length_GCTR CIPH (inc32 (J0 IV)) P

  pub length_AE_tag : (A C : List ℕ) → length (AE_tag CIPH IV A C) ≡ 16
  unfolding AE_tag
  length_AE_tag A C =
      length_GCTR CIPH (J0 IV) (bytes 16 (GHASH (hash_subkey CIPH) (hash_input A C))) ∙ length_bytes 16 (GHASH (hash_subkey CIPH) (hash_input A C))

  -- what was sealed opens to itself
  pub sealed_opens : (P A : List ℕ) → GCM-AD CIPH IV (GCM-AE CIPH IV P A).0 A (GCM-AE CIPH IV P A).1 ≡ some P
  unfolding GCM-AE GCM-AD
  sealed_opens P A = rw (same_refl (AE_tag CIPH IV A (AE_text CIPH IV P)), text_twice P)

  -- as many bytes as the text has
  pub length_sealed : (P A : List ℕ) → length (GCM-AE CIPH IV P A).0 ≡ length P
  unfolding GCM-AE
  length_sealed P A = length_text P

  -- opening succeeds exactly if the tag is the standard's
  pub right_opens : (C A T : List ℕ) → T ≡ AE_tag CIPH IV A C → GCM-AD CIPH IV C A T ≡ some (AE_text CIPH IV C)
  unfolding GCM-AD
  right_opens C A T e = ap (λ (b : Bool). cond b (some (AE_text CIPH IV C)) none) (equal_same T (AE_tag CIPH IV A C) e)

  pub wrong_fails : (C A T : List ℕ) → (T ≡ AE_tag CIPH IV A C → ⊥) → GCM-AD CIPH IV C A T ≡ none
  unfolding GCM-AD
  wrong_fails C A T n = ap (λ (b : Bool). cond b (some (AE_text CIPH IV C)) none) (unequal_same T (AE_tag CIPH IV A C) n)

  opened_cond : (b : Bool) (X P : List ℕ) → cond b (some X) none ≡ some P → b ≡ true
  opened_cond true X P e = refl
  opened_cond false X P e = let z : ◌≡◌ {A = ℕ} 0 1 = cc in absurd (omega arith)

  pub opens_right : (C A T P : List ℕ) → GCM-AD CIPH IV C A T ≡ some P → T ≡ AE_tag CIPH IV A C
  unfolding GCM-AD
  opens_right C A T P e = same_equal T (AE_tag CIPH IV A C) (opened_cond (same T (AE_tag CIPH IV A C)) (AE_text CIPH IV C) P e)

-- ---- the laws that the layers above use

pub encrypted_twice : (key nonce text : List ℕ) → encrypted key nonce (encrypted key nonce text) ≡ text
unfolding encrypted
encrypted_twice key nonce text = text_twice _ nonce text

pub length_encrypted : (key nonce text : List ℕ) → length (encrypted key nonce text) ≡ length text
unfolding encrypted
length_encrypted key nonce text = length_text _ nonce text

pub length_tag : (key nonce aad cipher : List ℕ) → length (tag key nonce aad cipher) ≡ 16
unfolding tag
length_tag key nonce aad cipher = length_AE_tag _ nonce aad cipher
