-- What the calls promise together. Assumes nothing.
use Rattle.std.proofs.Common.{◌≡◌, ℕ, ◌≤◌, Bool, true, false, cond, List, length, take, drop, sym, refl, ap, ◌∙◌, arith, take_at, le-ltb, eq-eqb}
use mathlib.Core.Option.{Option, none, some}
use Rattle.octets.specs.Limits.{tag_length}
use Rattle.octets.specs.Octets.{put, same}
use Rattle.octets.proofs.Laws.{same_refl, same_equal, equal_same, put_front}
use Rattle.stops.specs.Stops.{first_of}
use Rattle.aes.specs.Cipher.{aes}
use Rattle.aes.proofs.Whole.{aes_128, aes_256}
use Rattle.gcm.specs.Gcm.{GCM-AE, GCM-AD, encrypted, tag}
use Rattle.gcm.specs.Calls.{seal_stop, sealing_at, sealing, open_length_stop, Opening, opening_at, opening}
use Rattle.gcm.specs.Standard.{sealed_by, answered, opened_by, ByLength}
use Rattle.gcm.proofs.Checks.{Fit, seal_fits}
use Rattle.gcm.proofs.Laws.{encrypted_twice, length_encrypted, length_tag}
use Rattle.gcm.proofs.Outcomes as Outcomes

-- a call whose lengths pass answers what GCM-AE gives
pub sealing_is : (key nonce aad text out : List ℕ) → seal_stop (length key) (length nonce) (length aad) (length text) (length out) ≡ none
    → sealing key nonce aad text out ≡ sealed_by nonce aad text out (aes key)
unfolding sealing sealing_at GCM-AE encrypted tag
sealing_is key nonce aad text out e = ap (λ (o : Option ℕ). sealing_at o key nonce aad text out) e

-- and what holds by AES holds by AES-128 or AES-256, as the key's length says
by_length : {A : Type 0} (key : List ℕ) (x : A) (f : (List ℕ → List ℕ) → A) → x ≡ f (aes key) → ByLength key x f
by_length key x f p = (λ e. p ∙ ap f (aes_128 key e), λ e. p ∙ ap f (aes_256 key e))

pub sealing_by_length : (key nonce aad text out : List ℕ) → seal_stop (length key) (length nonce) (length aad) (length text) (length out) ≡ none
    → ByLength key (sealing key nonce aad text out) (sealed_by nonce aad text out)
sealing_by_length key nonce aad text out e = by_length key _ (sealed_by nonce aad text out) (sealing_is key nonce aad text out e)

module _ (key nonce aad text given out : List ℕ) (fits : open_length_stop (length key) (length nonce) (length aad) (length text) (length given) (length out) ≡ none) where
  judged : (b : Bool) → same given (tag key nonce aad text) ≡ b → opening key nonce aad text given out ≡ answered (cond b (some (encrypted key nonce text)) none) out
  unfolding opening_at
  judged true e = sym (Outcomes.judged key nonce aad text given out true fits (sym e))
  judged false e = sym (Outcomes.judged key nonce aad text given out false fits (sym e))

  -- a call whose lengths pass answers what GCM-AD gives
  pub opening_is : opening key nonce aad text given out ≡ opened_by nonce aad text given out (aes key)
  unfolding GCM-AD encrypted tag
  opening_is = judged (same given (tag key nonce aad text)) refl

  pub opening_by_length : ByLength key (opening key nonce aad text given out) (opened_by nonce aad text given out)
  opening_by_length = by_length key _ (opened_by nonce aad text given out) opening_is

  stop_of : (b : Bool) → (answered (cond b (some (encrypted key nonce text)) none) out).stop ≡ none → b ≡ true
  stop_of true e = refl
  stop_of false e = let z : ◌≡◌ {A = ℕ} 0 1 = cc in absurd (omega arith)

  -- and it succeeds exactly if the tag is the standard's
  pub opens_if : given ≡ tag key nonce aad text → (opening key nonce aad text given out).stop ≡ none
  opens_if e = ap (λ (r : Opening). r.stop) (judged true (equal_same given (tag key nonce aad text) e))

  pub opens_only_if : (opening key nonce aad text given out).stop ≡ none → given ≡ tag key nonce aad text
  opens_only_if e =
      same_equal given (tag key nonce aad text)
      (stop_of (same given (tag key nonce aad text)) (sym (ap (λ (r : Opening). r.stop) (judged (same given (tag key nonce aad text)) refl)) ∙ e))

fitting : (key nonce aad text given out : ℕ) → Fit key nonce aad text out → given ≡ tag_length → open_length_stop key nonce aad text given out ≡ none
unfolding open_length_stop first_of
fitting key nonce aad text given out f e =
    simp (f.key_taken, eq-eqb _ _ f.sizes.nonce_fits, eq-eqb _ _ e, le-ltb _ _ f.sizes.aad_fits, le-ltb _ _ f.sizes.text_fits, le-ltb _ _ f.sizes.out_holds)

-- what a call sealed, opened with the tag that it answered, is the text again, in any output that holds it
pub sealed_opened : (key nonce aad text out back : List ℕ) → seal_stop (length key) (length nonce) (length aad) (length text) (length out) ≡ none → length text ≤ length back
    → opening key nonce aad (take (length text) (sealing key nonce aad text out).out) (sealing key nonce aad text out).tag back ≡ record { stop = none; out = put back 0 text }
unfolding sealing sealing_at
sealed_opened key nonce aad text out back e room =
    let C : List ℕ = encrypted key nonce text in
    let T : List ℕ = tag key nonce aad C in
    let long : length C ≡ length text = length_encrypted key nonce text in
    let f = seal_fits (length key) (length nonce) (length aad) (length text) (length out) e in
    let f' : Fit (length key) (length nonce) (length aad) (length C) (length back) =
    record { key_taken = f.key_taken; key_fits = f.key_fits; sizes = record { nonce_fits = f.sizes.nonce_fits; aad_fits = f.sizes.aad_fits; text_fits = omega (arith, f.sizes.text_fits); out_holds = omega arith } } in
    let front : take (length text) (put out 0 C) ≡ C = ap (take (length text)) (put_front out C) ∙ take_at C (drop (length C) out) (length text) long in
    ap (λ (o : Option ℕ). let s = sealing_at o key nonce aad text out in opening key nonce aad (take (length text) s.out) s.tag back) e
    ∙ ap (λ (c : List ℕ). opening key nonce aad c T back) front
    ∙ judged key nonce aad C T back (fitting _ _ _ _ _ _ f' (length_tag key nonce aad C)) true (same_refl T)
    ∙ ap (λ (P : List ℕ). record { stop = none; out = put back 0 P }) (encrypted_twice key nonce text)
