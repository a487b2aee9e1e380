-- From what the pieces of `seal` and `open` make to what the calls answer, and the laws of the calls. Assumes nothing.
use Rattle.std.proofs.Common.{◌≡◌, ℕ, Bool, true, false, cond, not, List, length, replicate, sym, ap, ◌∙◌, arith}
use mathlib.Core.Option.{Option, none, some}
use Rattle.octets.specs.Octets.{put, same}
use Rattle.stops.proofs.Laws.{tried}
use Rattle.gcm.specs.Gcm.{AE_text, AE_tag, GCM-AD, tag}
use Rattle.gcm.specs.Calls.{seal_stop, sealing_at, sealing, open_length_stop, Opening, opening_at, opening}
use Rattle.gcm.specs.Standard.{answered, opened_by}
use Rattle.gcm.proofs.Checks.{open_stop_is}

module _ (key nonce aad text out : List ℕ) where
  pub unsealed : (n : ℕ) → some n ≡ seal_stop (length key) (length nonce) (length aad) (length text) (length out)
      → record { stop = some n; tag = replicate 16 0; out = out } ≡ sealing key nonce aad text out
  unfolding sealing sealing_at
  unsealed n e = ap (λ (o : Option ℕ). sealing_at o key nonce aad text out) e

module _ (key nonce aad text given out : List ℕ) where
  pub unopened : (n : ℕ) → some n ≡ open_length_stop (length key) (length nonce) (length aad) (length text) (length given) (length out)
      → record { stop = some n; out = out } ≡ opening key nonce aad text given out
  unfolding opening opening_at tried
  unopened n e = sym (ap (λ (o : Option ℕ). opening_at o key nonce text out) (open_stop_is key nonce aad text given out (sym e)))

  -- where the lengths are right the tag decides
  pub judged : (good : Bool) → open_length_stop (length key) (length nonce) (length aad) (length text) (length given) (length out) ≡ none
      → good ≡ same given (tag key nonce aad text) → opening_at (cond (not good) (some 12) none) key nonce text out ≡ opening key nonce aad text given out
  unfolding opening tried
  judged good e h =
      ap (λ (o : Option ℕ). opening_at o key nonce text out) (ap (λ (b : Bool). cond (not b) (some 12) none) h ∙ sym (open_stop_is key nonce aad text given out e))

-- the tag decides, by GCM-AD of a block cipher
module _ (CIPH : List ℕ → List ℕ) (nonce aad text given out : List ℕ) where
  abbrev answer : Bool → Opening
  answer b = answered (cond b (some (AE_text CIPH nonce text)) none) out

  by_tag : (good : Bool) → good ≡ same given (AE_tag CIPH nonce aad text) → answer good ≡ opened_by nonce aad text given out CIPH
  unfolding GCM-AD
  by_tag good h = ap answer h

  pub accepted : (good : Bool) (out' : List ℕ) → good ≡ same given (AE_tag CIPH nonce aad text) → ◌≡◌ {A = Option ℕ} none (cond (not good) (some 12) none) → out' ≡ put out 0 (AE_text CIPH nonce text)
      → record { stop = none; out = out' } ≡ opened_by nonce aad text given out CIPH
  accepted true out' h o w = ap (λ (l : List ℕ). record { stop = none; out = l }) w ∙ by_tag true h
  accepted false out' h o w = let z : ◌≡◌ {A = ℕ} 0 1 = cc in absurd (omega arith)

  pub refused : (good : Bool) (n : ℕ) → good ≡ same given (AE_tag CIPH nonce aad text) → ◌≡◌ {A = Option ℕ} (some n) (cond (not good) (some 12) none)
      → record { stop = some n; out = out } ≡ opened_by nonce aad text given out CIPH
  refused true n h o = let z : ◌≡◌ {A = ℕ} 0 1 = cc in absurd (omega arith)
  refused false n h o = ap (λ (p : Option ℕ). record { stop = p; out = out }) o ∙ by_tag false h
