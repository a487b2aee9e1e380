-- From what sealing alone answers to what the call with a buffer for the tag does. Assumes nothing.
use Prim.Native.Nat.{ℕ}
use mathlib.Core.Path.{◌≡◌, sym, ap, ap₂, ◌∙◌}
use mathlib.Core.Bool.{true, false, ◌||◌}
use mathlib.Core.Option.{Option, none, some}
use mathlib.Core.List.{List}
use native.Mathlib.Omega.{arith}
use borrow.Author.Tests.{eqb-true, not-false}
use lib.Dec.{eqb}
use lib.ListN.{length}
use Rattle.octets.specs.Limits.{key_lengths, tag_length}
use Rattle.octets.specs.Octets.{put}
use Rattle.octets.proofs.Lent.{over}
use Rattle.stops.specs.Stops.{first_of}
use Rattle.gcm.specs.Calls.{Sealing, key_wrong, nonce_wrong, tag_wrong, seal_stop, sealing_at, sealing}
use Rattle.keeper_c.specs.Calls.{answer, sealing_left, sealing_stop, sealing_by, sealing_call}
use Rattle.keeper_c.proofs.Either.{or_true, or_false}

pub right_length : (n : ℕ) → tag_wrong n ≡ false → n ≡ tag_length
right_length n e = eqb-true n tag_length (not-false (eqb n tag_length) e)

module _ (key nonce aad text out t : List ℕ) where
  -- a tag buffer of another length
  pub no_tag : (r : ℕ) → r ≡ 3 → tag_wrong (length t) ≡ true → sealing_left r out t ≡ sealing_call key nonce aad text out t
  unfolding sealing_call sealing_by sealing_stop first_of
  no_tag r e w = rw (or_true (key_wrong key_lengths (length key) || nonce_wrong (length nonce)) _ w, e)

  module _ (right : tag_wrong (length t) ≡ false) where
    stops_alike : sealing_stop key nonce aad text out t ≡ seal_stop (length key) (length nonce) (length aad) (length text) (length out)
    unfolding sealing_stop seal_stop first_of
    stops_alike = rw (or_false (key_wrong key_lengths (length key) || nonce_wrong (length nonce)) _ right)

    refused_by : (S : Option ℕ) (n : ℕ) (T out' : List ℕ) → record { stop = some n; tag = T; out = out' } ≡ sealing_at S key nonce aad text out
        → sealing_left n out' t ≡ sealing_by S key nonce aad text out t
    unfolding sealing_at sealing_by
    refused_by none n T out' e =
        let z : ◌≡◌ {A = ℕ} 1 0 = ap (λ (s : Sealing). stopped s.stop) e in
        absurd (omega arith)
      where
        stopped : Option ℕ → ℕ
        stopped none = 0
        stopped (some m) = 1
    refused_by (some m) n T out' e =
        ap₂ (λ (k : ℕ) (o : List ℕ). sealing_left k o t) (ap (λ (s : Sealing). answer s.stop) e) (ap (λ (s : Sealing). s.out) e)

    pub refused : (o : Option ℕ) (r n : ℕ) (T out' : List ℕ) → o ≡ some n → r ≡ n → record { stop = o; tag = T; out = out' } ≡ sealing key nonce aad text out
        → sealing_left r out' t ≡ sealing_call key nonce aad text out t
    unfolding sealing sealing_call
    refused o r n T out' k h e = rw (h, stops_alike) (refused_by _ n T out' (ap (λ (p : Option ℕ). record { stop = p; tag = T; out = out' }) (sym k) ∙ e))

    sealed_by : (S : Option ℕ) (T out' : List ℕ) → record { stop = none; tag = T; out = out' } ≡ sealing_at S key nonce aad text out
        → sealing_left 0 out' T ≡ sealing_by S key nonce aad text out t
    unfolding sealing_at sealing_by
    sealed_by none T out' e = ap₂ (λ (o g : List ℕ). sealing_left 0 o g) (ap (λ (s : Sealing). s.out) e) (ap (λ (s : Sealing). s.tag) e)
    sealed_by (some m) T out' e =
        let z : ◌≡◌ {A = ℕ} 1 0 = ap (λ (s : Sealing). begun s.stop) e in
        absurd (omega arith)
      where
        begun : Option ℕ → ℕ
        begun none = 1
        begun (some k) = 0

    -- the tag fills its buffer
    pub sealed : (o : Option ℕ) (T out' t' : List ℕ) → o ≡ none → length T ≡ tag_length → t' ≡ put t 0 T → record { stop = o; tag = T; out = out' } ≡ sealing key nonce aad text out
        → sealing_left 0 out' t' ≡ sealing_call key nonce aad text out t
    unfolding sealing sealing_call
    sealed o T out' t' k l p e =
        rw (over t T t' (omega (arith, right_length (length t) right, l)) p, stops_alike) (sealed_by _ T out' (ap (λ (q : Option ℕ). record { stop = q; tag = T; out = out' }) (sym k) ∙ e))
