-- What the pieces make under the round keys of a key is AES-GCM's. Assumes nothing.
use Rattle.std.proofs.Common.{◌≡◌, ℕ, ◌+◌, ◌/◌, Bool, true, false, not, ◌&&◌, eqb, ◌⊎◌, ◌↔◌, List, [], ◌∷◌, length, take, drop, sym, refl, ap, ◌∙◌, subst, ap₂, inl, inr, ⊎_elim, arith, take_at, eqb-true}
use Rattle.octets.specs.Limits.{short_key, long_key, key_lengths}
use Rattle.octets.specs.Octets.{put}
use Rattle.octets.proofs.Laws.{put_front}
use Rattle.aes_key.specs.Key.{round_keys}
use Rattle.aes_key.proofs.Lengths.{key_length_exactly}
use Rattle.aes.specs.Cipher.{cipher, aes}
use Rattle.aes.proofs.Whole.{aes_is}
use Rattle.gcm.specs.Gcm.{AE_text, AE_tag, encrypted, tag}
use Rattle.gcm.specs.Calls.{KeyLength, key_wrong}
use Rattle.gcm.proofs.Laws.{length_encrypted}

pub and_nothing : (b : Bool) → b && true ≡ b
and_nothing true = refl
and_nothing false = refl

-- where one length is taken
pub one_length : (m n : ℕ) → key_wrong (m ∷ []) n ≡ not (eqb n m)
unfolding key_wrong
one_length m n = and_nothing (not (eqb n m))

pub long_taken : key_wrong key_lengths long_key ≡ false
unfolding key_wrong
long_taken = refl

one_of_two : (n : ℕ) (a b : Bool) → eqb n short_key ≡ a → eqb n long_key ≡ b → not a && (not b && true) ≡ false → (n ≡ short_key) ⊎ (n ≡ long_key)
one_of_two n true b s l e = inl (eqb-true n short_key s)
one_of_two n false true s l e = inr (eqb-true n long_key l)
one_of_two n false false s l e = let z : ◌≡◌ {A = ℕ} 0 1 = cc in absurd (omega arith)

-- a key of 16 bytes is taken, and one of 32, and no other
pub key_exactly : (n : ℕ) → (key_wrong key_lengths n ≡ false) ↔ ((n ≡ 16) ⊎ (n ≡ 32))
unfolding key_wrong
key_exactly n = (one_of_two n (eqb n short_key) (eqb n long_key) refl refl, ⊎_elim (λ s. subst (λ (m : ℕ). key_wrong key_lengths m ≡ false) (sym s) refl) (λ l. subst (λ (m : ℕ). key_wrong key_lengths m ≡ false) (sym l) refl))

pub whole_key : (n : ℕ) → key_wrong key_lengths n ≡ false → KeyLength n
whole_key n e = (key_length_exactly n).1 ((key_exactly n).0 e)

pub under : (key w : List ℕ) (rounds : ℕ) → KeyLength (length key) → w ≡ round_keys key → rounds ≡ length key / 4 + 6 → cipher rounds w ≡ aes key
under key w rounds long made many = λ i block. (ap₂ (λ (n : ℕ) (x : List ℕ). cipher n x block) many made ∙ aes_is key block long) i

module _ (key : List ℕ) (CIPH : List ℕ → List ℕ) (e : CIPH ≡ aes key) where
  pub tag_is : (nonce aad text : List ℕ) → AE_tag CIPH nonce aad text ≡ tag key nonce aad text
  unfolding tag
  tag_is nonce aad text = ap (λ (CIPH : List ℕ → List ℕ). AE_tag CIPH nonce aad text) e

  -- the text written to the front of d, and the tag of what was written
  pub text_written : (nonce text d t : List ℕ) → t ≡ put d 0 (AE_text CIPH nonce text) → t ≡ put d 0 (encrypted key nonce text)
  unfolding encrypted
  text_written nonce text d t h = h ∙ ap (λ (CIPH : List ℕ → List ℕ). put d 0 (AE_text CIPH nonce text)) e

  pub tag_written : (nonce aad text d t T : List ℕ) → t ≡ put d 0 (AE_text CIPH nonce text)
      → T ≡ AE_tag CIPH nonce aad (take (length text) t) → T ≡ tag key nonce aad (encrypted key nonce text)
  tag_written nonce aad text d t T h k =
      let C : List ℕ = encrypted key nonce text in
      let front : take (length text) t ≡ C =
      ap (take (length text)) (text_written nonce text d t h ∙ put_front d C) ∙ take_at C (drop (length C) d) (length text) (length_encrypted key nonce text) in
      k ∙ ap (AE_tag CIPH nonce aad) front ∙ tag_is nonce aad C
