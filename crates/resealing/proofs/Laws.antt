-- A half opened and sealed anew. Assumes nothing.
use Prim.Native.Nat.{ℕ, ◌+◌, ◌^◌, ◌<◌, ◌≤◌}
use mathlib.Core.Path.{◌≡◌, refl, sym, ap, ◌∙◌}
use mathlib.Core.Bool.{Bool, true, false, not}
use mathlib.Core.Option.{Option, none}
use mathlib.Core.List.{List, [], ◌∷◌}
use lib.Dec.{eqb}
use borrow.Author.Tests.{eqb-false, ltb-false, not-false}
use native.Mathlib.Omega.{arith}
use lib.ListN.{length}
use Rattle.octets.specs.Limits.{part_limit, restart_limit, tag_length}
use Rattle.octets.specs.Octets.{Bytes, part, put}
use Rattle.octets.specs.Word.{value_of}
use Rattle.octets.proofs.Laws.{part_put_same}
use Rattle.stops.specs.Stops.{first_of, then_stop}
use Rattle.stops.proofs.Laws.{no_lines, one_more, passes}
use Rattle.gcm.proofs.Laws.{length_encrypted}
use Rattle.checkpoint.specs.Checkpoint.{Longer, head_length, own_tag, sealed, sealed_length, checkpoint_of}
use Rattle.checkpoint.specs.Half.{value_at, form_of, stored_packet, open_length, secret_length, stored_restarts, stored_open, stored_cipher, stored_tag, good_head, good_tag, stored}
use Rattle.checkpoint.proofs.StoredLaws.{head_facts, length_cipher, tag_again}
use Rattle.protocol.specs.Operations.{outgrows, resumed}
use Rattle.resealing.specs.Stages.{opening_lines, Reseals}

module _ (key latest half nonce : List ℕ) (good : good_head part_limit (form_of half) half ≡ true) where
  length_restored : length (stored (form_of half) key latest half).secret ≡ secret_length (form_of half) half
  unfolding stored
  length_restored = length_encrypted key latest (stored_cipher (form_of half) half) ∙ length_cipher part_limit (form_of half) key latest half good

  -- the secret part from the front of the state that it was put to
  from_state : (state state' : List ℕ) (n : ℕ) → n ≡ secret_length (form_of half) half → part_limit ≤ length state → state' ≡ put state 0 (stored (form_of half) key latest half).secret
      → part state' 0 n ≡ (stored (form_of half) key latest half).secret
  from_state state state' n e l f =
      let S : List ℕ = (stored (form_of half) key latest half).secret in
      ap (λ (w : List ℕ). part w 0 n) f
      ∙ part_put_same state 0 S (omega (arith, length_restored, (head_facts part_limit (form_of half) half good).secret_small)) n (length_restored ∙ sym e)

  pub reseals : (t staging staging' state state' open_part secret previous : List ℕ) (d k m n r : ℕ) → Bytes half → good_tag (form_of half) key latest half ≡ true
      → d ≡ head_length (form_of half) → k ≡ stored_packet (form_of half) half → m ≡ open_length (form_of half) half → n ≡ secret_length (form_of half) half → r ≡ stored_restarts (form_of half) half → part_limit ≤ length state
      → state' ≡ put state 0 (stored (form_of half) key latest half).secret → open_part ≡ stored_open (form_of half) half → secret ≡ part state' 0 n → previous ≡ part half (d + m + n) tag_length
      → (let c = checkpoint_of k open_part secret (r + 1) previous nonce in (t ≡ own_tag key c) × (staging' ≡ put staging 0 (sealed key c)))
      → Reseals key t latest half nonce staging staging' state state'
  unfolding resumed stored stored_tag
  reseals t staging staging' state state' open_part secret previous d k m n r b tagged v w x y z l f o s p made =
      let open_is : open_part ≡ stored_open (form_of half) half = o in
      let secret_is : secret ≡ (stored (form_of half) key latest half).secret = s ∙ from_state state state' n y l f in
      let previous_is : previous ≡ own_tag key (stored (form_of half) key latest half) =
      p ∙ (λ i. part half (v i + x i + y i) tag_length) ∙ sym (tag_again part_limit (form_of half) key latest half good b tagged) in
      let again : checkpoint_of k open_part secret (r + 1) previous nonce ≡ resumed Longer key nonce (stored (form_of half) key latest half) =
      λ i. record { form = Longer; packet = w i; open_part = open_is i; secret = secret_is i; restarts = z i + 1; previous = previous_is i; nonce = nonce } in
      record {
        tag = made.0 ∙ (λ i. own_tag key (again i));
        staged = made.1 ∙ (λ i. put staging 0 (sealed key (again i)));
        restored = f;
      }

-- ---- stops 12, 13, 10 and 4

pub opening_tried : (half : List ℕ) (good used : Bool) (r : ℕ) (g : Bool) (o₁ o₂ o₃ o₄ : Option ℕ) → r ≡ stored_restarts (form_of half) half → g ≡ outgrows Longer half
    → o₁ ≡ then_stop none 12 (not good) → o₂ ≡ then_stop o₁ 13 (eqb r restart_limit) → o₃ ≡ then_stop o₂ 10 used → o₄ ≡ then_stop o₃ 4 g → o₄ ≡ first_of (opening_lines half good used)
opening_tried half good used r g o₁ o₂ o₃ o₄ x y e f k h =
    one_more (_ ∷ _ ∷ _ ∷ []) 4 _ g o₃ o₄
    (one_more (_ ∷ _ ∷ []) 10 _ used o₂ o₃ (one_more (_ ∷ []) 13 _ (eqb r restart_limit) o₁ o₂ (one_more [] 12 _ (not good) none o₁ no_lines refl e) (ap (λ (n : ℕ). eqb n restart_limit) x) f) refl k) y h

pub tag_passes : (half : List ℕ) (good used : Bool) → first_of (opening_lines half good used) ≡ none → good ≡ true
tag_passes half good used e = not-false good (passes _ e).0

-- where stop 13 does not apply a restart more is in range
pub restarts_below : (half : List ℕ) (r : ℕ) → good_head part_limit (form_of half) half ≡ true → r ≡ stored_restarts (form_of half) half → eqb (stored_restarts (form_of half) half) restart_limit ≡ false → r < restart_limit
restarts_below half r good e f =
    let small = (head_facts part_limit (form_of half) half good).restarts_small in
    let other : stored_restarts (form_of half) half ≡ restart_limit → ⊥ = eqb-false _ restart_limit f in
    omega (arith, small, e, other)

-- where stop 4 does not apply the half has room for its checkpoint in the longer form
pub longer_fits : (half : List ℕ) → outgrows Longer half ≡ false → sealed_length Longer (open_length (form_of half) half) (secret_length (form_of half) half) ≤ length half
unfolding outgrows
longer_fits half e = ltb-false (length half) (sealed_length Longer (open_length (form_of half) half) (secret_length (form_of half) half)) e

-- the lengths that a head says, good or not, are small numbers
pub lengths_fit : (half : List ℕ) → (open_length (form_of half) half < 2 ^ 32) × (secret_length (form_of half) half < 2 ^ 32)
unfolding open_length secret_length value_at value_of
lengths_fit half = (omega arith, omega arith)
