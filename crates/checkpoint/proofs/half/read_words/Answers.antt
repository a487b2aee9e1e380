-- `checkpoint::half::read_words` meets its contract. Assumes nothing.
use Rattle.std.proofs.Common.{◌≡◌, ℕ, ◌+◌, ◌-◌, ◌*◌, Bool, true, false, ◌&&◌, List, length, eqb, leb, sym, ap, ◌∙◌, arith}
use mathlib.Core.Bool.{and_assoc, and-true}
use Rattle.octets.specs.Limits.{part_limit, restart_limit, tag_length}
use Rattle.octets.specs.Octets.{Bytes}
use Rattle.octets.specs.Word.{word_at, kind_of, value_of}
use Rattle.checkpoint.specs.Checkpoint.{Form, Older, Longer, front_words, head_words, open_word, secret_word, restarts_word, head_length}
use Rattle.checkpoint.specs.Half.{form_of, stored_packet, kind_at, value_at, kinds_from, open_length, secret_length, stored_restarts, stored_length, good_head}
use Rattle.checkpoint.specs.Head.{HeadOf}
use Rattle.checkpoint.proofs.SealedLaws.{words_more}
use Rattle.checkpoint.proofs.half.read_words.Goals as goal

-- the i-th word, which stands at offset n
kind : (half : List ℕ) (i n w k : ℕ) → n ≡ 4 * i → w ≡ word_at half n → k ≡ kind_of w → k ≡ kind_at half i
unfolding kind_at
kind half i n w k p e f = f ∙ ap kind_of e ∙ ap (λ (m : ℕ). kind_of (word_at half m)) p

value : (half : List ℕ) (i n w v : ℕ) → n ≡ 4 * i → w ≡ word_at half n → v ≡ value_of w → v ≡ value_at half i
unfolding value_at
value half i n w v p e f = f ∙ ap value_of e ∙ ap (λ (m : ℕ). value_of (word_at half m)) p

-- the kinds are compared one after the other
in_order : (form : Form) (half : List ℕ)
    → kinds_from half 0 (front_words form 0) && eqb (kind_at half (open_word form)) 1 && eqb (kind_at half (secret_word form)) 2 && eqb (kind_at half (restarts_word form)) 3
    ≡ kinds_from half 0 (head_words form 0 0 0 0)
unfolding kinds_from
in_order Older half = simp (and_assoc, and-true)
in_order Longer half = simp (and_assoc, and-true)

module _ (form : Form) (half : List ℕ) (front : Bool) (s k₁ k₂ k₃ v₁ v₂ v₃ : ℕ) (f : front ≡ kinds_from half 0 (front_words form 0)) (h : s ≡ head_length form)
    (a : k₁ ≡ kind_at half (open_word form)) (b : k₂ ≡ kind_at half (secret_word form)) (c : k₃ ≡ kind_at half (restarts_word form))
    (x : v₁ ≡ value_at half (open_word form)) (y : v₂ ≡ value_at half (secret_word form)) (z : v₃ ≡ value_at half (restarts_word form)) where
  good : front && eqb k₁ 1 && eqb k₂ 2 && eqb k₃ 3 && leb (4 * v₁) part_limit && leb (4 * v₂) part_limit && leb v₃ restart_limit
      && leb (s + tag_length + 4 * v₁ + 4 * v₂) (length half) ≡ good_head part_limit form half
  unfolding good_head open_length secret_length stored_restarts stored_length
  good =
      (λ i. f i && eqb (a i) 1 && eqb (b i) 2 && eqb (c i) 3 && leb (4 * x i) part_limit && leb (4 * y i) part_limit && leb (z i) restart_limit
      && leb (h i + tag_length + 4 * x i + 4 * y i) (length half))
      ∙ ap (λ (t : Bool). t && leb (open_length form half) part_limit && leb (secret_length form half) part_limit && leb (stored_restarts form half) restart_limit
      && leb (stored_length form half) (length half)) (in_order form half)

-- what the three words say
module _ (form : Form) (half : List ℕ) (front : Bool) (i w₁ w₂ w₃ k₁ k₂ k₃ v₁ v₂ v₃ : ℕ) (p : i ≡ 4 * open_word form) (f : front ≡ kinds_from half 0 (front_words form 0))
    (e₁ : w₁ ≡ word_at half i) (e₂ : w₂ ≡ word_at half (i + 4)) (e₃ : w₃ ≡ word_at half (i + 8)) (a : k₁ ≡ kind_of w₁) (b : k₂ ≡ kind_of w₂) (c : k₃ ≡ kind_of w₃)
    (x : v₁ ≡ value_of w₁) (y : v₂ ≡ value_of w₂) (z : v₃ ≡ value_of w₃) where
  record Said : Type 0 where
    start : i + 32 - 4 ≡ head_length form
    open_part : 4 * v₁ ≡ open_length form half
    secret : 4 * v₂ ≡ secret_length form half
    restarts : v₃ ≡ stored_restarts form half
    judged : front && eqb k₁ 1 && eqb k₂ 2 && eqb k₃ 3 && leb (4 * v₁) part_limit && leb (4 * v₂) part_limit && leb v₃ restart_limit
        && leb (i + 32 - 4 + tag_length + 4 * v₁ + 4 * v₂) (length half) ≡ good_head part_limit form half

  said : Said
  unfolding open_length secret_length stored_restarts
  said =
      let p₂ : i + 4 ≡ 4 * secret_word form = omega arith in
      let p₃ : i + 8 ≡ 4 * restarts_word form = omega arith in
      let m = value half (open_word form) i _ _ p e₁ x in
      let n = value half (secret_word form) (i + 4) _ _ p₂ e₂ y in
      let r = value half (restarts_word form) (i + 8) _ _ p₃ e₃ z in
      let s : i + 32 - 4 ≡ head_length form = omega (arith, words_more form) in
      record {
        start = s;
        open_part = ap (λ (v : ℕ). 4 * v) m;
        secret = ap (λ (v : ℕ). 4 * v) n;
        restarts = r;
        judged = good form half _ _ _ _ _ _ _ _ f s (kind half (open_word form) i _ _ p e₁ a) (kind half (secret_word form) (i + 4) _ _ p₂ e₂ b)
            (kind half (restarts_word form) (i + 8) _ _ p₃ e₃ c) m n r;
      }

-- what the record that is answered keeps of the half, whether it is good or not
module _ (half : List ℕ) (front : Bool) (i packet w₁ w₂ w₃ k₁ k₂ k₃ v₁ v₂ v₃ : ℕ) (bytes : Bytes half) (p : i ≡ 4 * open_word (form_of half)) (f : front ≡ kinds_from half 0 (front_words (form_of half) 0)) (q : packet ≡ stored_packet (form_of half) half)
    (e₁ : w₁ ≡ word_at half i) (e₂ : w₂ ≡ word_at half (i + 4)) (e₃ : w₃ ≡ word_at half (i + 8)) (a : k₁ ≡ kind_of w₁) (b : k₂ ≡ kind_of w₂) (c : k₃ ≡ kind_of w₃)
    (x : v₁ ≡ value_of w₁) (y : v₂ ≡ value_of w₂) (z : v₃ ≡ value_of w₃) where
  head_of : (is_good : Bool) → front && eqb k₁ 1 && eqb k₂ 2 && eqb k₃ 3 && leb (4 * v₁) part_limit && leb (4 * v₂) part_limit && leb v₃ restart_limit
      && leb (i + 32 - 4 + tag_length + 4 * v₁ + 4 * v₂) (length half) ≡ is_good
      → HeadOf half is_good (i + 32 - 4) packet (4 * v₁) (4 * v₂) v₃
  head_of is_good g =
      let w = said (form_of half) half front i _ _ _ _ _ _ _ _ _ p f e₁ e₂ e₃ a b c x y z in
      record {
        bytes = bytes;
        good = sym w.judged ∙ g;
        start_is = w.start;
        packet_is = q;
        open_is = w.open_part;
        secret_is = w.secret;
        restarts_is = w.restarts;
      }

pub invariant_of-result : goal.invariant_of-result
invariant_of-result c =
    let q = c.requires in
    record {
      says = head_of c.args.half.now c.args.front c.args.i c.args.packet _ _ _ _ _ _ _ _ _ (λ i. (c.type_inv.half i).fits) q.0 q.1 q.2 c.word_at-first.ensures c.word_at-second.ensures c.word_at-third.ensures
          c.kind_of.ensures c.kind_of-2.ensures c.kind_of-3.ensures c.value_of-open_part.ensures.0 c.value_of-secret.ensures.0 c.value_of-restarts.ensures.0 false c.if-not-good.true;
    }

pub invariant_of-result-2 : goal.invariant_of-result-2
invariant_of-result-2 c =
    let q = c.requires in
    record {
      says = head_of c.args.half.now c.args.front c.args.i c.args.packet _ _ _ _ _ _ _ _ _ (λ i. (c.type_inv.half i).fits) q.0 q.1 q.2 c.word_at-first.ensures c.word_at-second.ensures c.word_at-third.ensures
          c.kind_of.ensures c.kind_of-2.ensures c.kind_of-3.ensures c.value_of-open_part.ensures.0 c.value_of-secret.ensures.0 c.value_of-restarts.ensures.0 true c.if-not-good.false;
    }
