-- What the stops of `seal` and `open` say of the lengths, and how they are tried one after the other. Assumes nothing.
use Rattle.std.proofs.Common.{◌≡◌, ℕ, Bool, true, false, not, ◌||◌, eqb, ltb, List, [], ◌∷◌, length, refl, ap, ◌∙◌, arith, ltb-false, eqb-true}
use mathlib.Core.Option.{Option, none}
use Rattle.octets.specs.Limits.{key_lengths, nonce_length, text_limit}
use Rattle.stops.specs.Stops.{first_of, then_stop}
use Rattle.stops.proofs.Laws.{tried, tried_first, first_append, passes, neither}
use Rattle.gcm.specs.Calls.{KeyLength, key_wrong, nonce_wrong, tag_wrong, buffers_wrong, Sizes, seal_stop, open_length_rows, tag_row, open_length_stop, open_stop}
use Rattle.gcm.proofs.Keys.{whole_key}

-- two conditions tried one after the other
pub two_tried : (m n : ℕ) (a b : Bool) {o p : Option ℕ} → o ≡ then_stop none m a → p ≡ then_stop o n b → p ≡ first_of ((m, a) ∷ (n, b) ∷ [])
unfolding tried
two_tried m n a b ho hp = hp ∙ ap (λ (q : Option ℕ). then_stop q n b) ho ∙ tried_first ((m, a) ∷ (n, b) ∷ [])

-- lengths that pass
pub record Fit (key nonce aad text out : ℕ) : Type 0 where
  pub key_taken : key_wrong key_lengths key ≡ false
  pub key_fits : KeyLength key
  pub sizes : Sizes nonce aad text out

no_not : (b : Bool) → not b ≡ false → b ≡ true
no_not true e = refl
no_not false e = let z : ◌≡◌ {A = ℕ} 0 1 = cc in absurd (omega arith)

fitting : (key nonce aad text out : ℕ) → key_wrong key_lengths key ≡ false → nonce_wrong nonce ≡ false → buffers_wrong aad text out ≡ false → Fit key nonce aad text out
fitting key nonce aad text out k n b =
    let last = neither (ltb text_limit aad || ltb text_limit text) (ltb out text) b in
    let first = neither (ltb text_limit aad) (ltb text_limit text) last.0 in
    record {
      key_taken = k;
      key_fits = whole_key key k;
      sizes = record {
        nonce_fits = eqb-true nonce nonce_length (no_not (eqb nonce nonce_length) n);
        aad_fits = ltb-false text_limit aad first.0;
        text_fits = ltb-false text_limit text first.1;
        out_holds = ltb-false out text last.1;
      };
    }

pub seal_fits : (key nonce aad text out : ℕ) → seal_stop key nonce aad text out ≡ none → Fit key nonce aad text out
unfolding seal_stop
seal_fits key nonce aad text out e =
    let p = passes ((3, key_wrong key_lengths key || nonce_wrong nonce) ∷ (4, buffers_wrong aad text out) ∷ []) e in
    let q = neither (key_wrong key_lengths key) (nonce_wrong nonce) p.0 in
    fitting key nonce aad text out q.0 q.1 p.1.0

module _ (key nonce aad text given out : ℕ) (e : open_length_stop key nonce aad text given out ≡ none) where
  pub open_fits : Fit key nonce aad text out
  unfolding open_length_stop
  open_fits =
      let p = passes (open_length_rows key nonce aad text given out) e in
      let q = neither (key_wrong key_lengths key || nonce_wrong nonce) (tag_wrong given) p.0 in
      let r = neither (key_wrong key_lengths key) (nonce_wrong nonce) q.0 in
      fitting key nonce aad text out r.0 r.1 p.1.0

-- the tag is looked at where the lengths pass
pub open_stop_is : (key nonce aad text given out : List ℕ) {o : Option ℕ} → open_length_stop (length key) (length nonce) (length aad) (length text) (length given) (length out) ≡ o
    → open_stop key nonce aad text given out ≡ tried o (tag_row key nonce aad text given)
unfolding open_length_stop open_stop
open_stop_is key nonce aad text given out e =
    first_append (open_length_rows (length key) (length nonce) (length aad) (length text) (length given) (length out)) (tag_row key nonce aad text given) e
