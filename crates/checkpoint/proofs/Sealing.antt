-- A checkpoint written to staging part by part: the head, the open part, the sealed secret part, the tag. Assumes nothing.
use Prim.Native.Nat.{ℕ, ◌+◌, ◌-◌, ◌/◌}
use mathlib.Core.Path.{◌≡◌, sym, ap, ◌∙◌}
use mathlib.Core.List.{List, ◌++◌}
use native.Mathlib.Omega.{arith}
use lib.ListN.{length, drop, length-append}
use Rattle.octets.specs.Limits.{tag_length}
use Rattle.octets.specs.Octets.{part, put}
use Rattle.octets.proofs.Laws.{part_append_left, part_append_right, part_whole, put_front}
use Rattle.aes.specs.Cipher.{aes}
use Rattle.gcm.specs.Gcm.{AE_text, AE_tag, encrypted, tag}
use Rattle.gcm.proofs.Laws.{length_text}
use Rattle.checkpoint.specs.Checkpoint.{Longer, Checkpoint, head_words, words, head_length, head, associated, own_tag, sealed, checkpoint_of}
use Rattle.checkpoint.proofs.SealedLaws.{length_head, length_associated}
use Rattle.octets.proofs.Lent.{put_on}

module _ (key nonce staging open_part secret previous : List ℕ) (packet restarts : ℕ) (CIPH : List ℕ → List ℕ) (e : CIPH ≡ aes key) (long : length previous ≡ tag_length) where
  abbrev c : Checkpoint
  c = checkpoint_of packet open_part secret restarts previous nonce

  pub staged : (s₁ s₂ s₃ s₄ t : List ℕ) (i j : ℕ) → i ≡ head_length Longer + length open_part → j ≡ i + length secret
      → s₁ ≡ put staging 0 (words (head_words Longer packet (length open_part / 4) (length secret / 4) restarts) ++ previous)
      → s₂ ≡ put s₁ (head_length Longer) open_part → s₃ ≡ put s₂ i (AE_text CIPH nonce secret)
      → t ≡ AE_tag CIPH nonce (part s₃ 0 i) (part s₃ i (j - i)) → s₄ ≡ put s₃ j t
      → (t ≡ own_tag key c) × (s₄ ≡ put staging 0 (sealed key c))
  unfolding head associated own_tag sealed tag encrypted
  staged s₁ s₂ s₃ s₄ t i j x y a b d f g =
      let H : List ℕ = head c in
      let A : List ℕ = associated c in
      let T : List ℕ = AE_text CIPH nonce secret in
      let lH : length H ≡ head_length Longer = length_head c long in
      let lA : length A ≡ i = length_associated c long ∙ sym x in
      let lT : length T ≡ length secret = length_text CIPH nonce secret in
      let lAT : length (A ++ T) ≡ j = length-append A T ∙ omega (arith, lA, lT, y) in
      let rest : List ℕ = drop (length (A ++ T)) staging in
      let two : s₂ ≡ put staging 0 A = b ∙ ap (λ (w : List ℕ). put w (head_length Longer) open_part) a ∙ put_on staging H open_part 0 (head_length Longer) (omega (arith, lH)) (omega arith) in
      let three : s₃ ≡ put staging 0 (A ++ T) = d ∙ ap (λ (w : List ℕ). put w i T) two ∙ put_on staging A T 0 i (omega (arith, lA)) (omega arith) in
      let split : s₃ ≡ (A ++ T) ++ rest = three ∙ put_front staging (A ++ T) in
      let front : part s₃ 0 i ≡ A =
      ap (λ (w : List ℕ). part w 0 i) split ∙ part_append_left (A ++ T) rest 0 i (omega (arith, lAT, y)) ∙ part_append_left A T 0 i (omega (arith, lA)) ∙ part_whole A i lA in
      let back : part s₃ i (j - i) ≡ T =
      ap (λ (w : List ℕ). part w i (j - i)) split ∙ part_append_left (A ++ T) rest i (j - i) (omega (arith, lAT, y)) ∙ part_append_right A T i (j - i) 0 (omega (arith, lA))
      ∙ part_whole T (j - i) (omega (arith, lT, y)) in
      let right : t ≡ own_tag key c = f ∙ (λ k. AE_tag CIPH nonce (front k) (back k)) ∙ (λ k. AE_tag (e k) nonce A (AE_text (e k) nonce secret)) in
      (right, g ∙ ap (λ (w : List ℕ). put w j t) three ∙ put_on staging (A ++ T) t 0 j (omega (arith, lAT)) (omega arith) ∙ (λ k. put staging 0 (A ++ AE_text (e k) nonce secret ++ right k)))
