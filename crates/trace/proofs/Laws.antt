-- Laws of the nonces of a trace and of its lines. Assumes nothing.
use Rattle.std.proofs.Common.{◌≡◌, ℕ, zero, suc, ◌+◌, ◌*◌, ◌/◌, ◌%◌, ◌^◌, ◌≤◌, ◌<◌, List, [], ◌∷◌, ◌++◌, append_assoc, append-nil, refl, sym, ap, ap₂, ◌∙◌, zero-add, suc-add, arith, length, replicate, length-append, lit<}
use Rattle.std.proofs.Math.Option.{none}
use native.Mathlib.Nat.{div-eq_of_lt, pow-le-pow_right}
use Rattle.octets.specs.Octets.{put, bytes}
use Rattle.octets.proofs.Numbers.{length_bytes}
use Rattle.octets.proofs.Lent.{put_on}
use Rattle.octets.specs.Word.{word_at}
use Rattle.octets.proofs.Numbers.{number_left, word_behind}
use Rattle.ring_line.specs.Line.{line_limit}
use Rattle.trace_words.specs.Words.{words_from, words_of}
use Rattle.trace.specs.Trace.{ring_length, fram_length, nonce_of, Bench, step, after, printed, lines, blank_bench}
use Rattle.trace.specs.View.{Stepped, Ran}

-- ---- nonces

-- a number that is small for its width begins with zeros
pub bytes_wide : (k n x : ℕ) → x < 2 ^ (8 * n) → bytes (k + n) x ≡ replicate k 0 ++ bytes n x
unfolding bytes
bytes_wide zero n x h = ap (λ (m : ℕ). bytes m x) (zero-add n)
bytes_wide (suc k) n x h =
    let le : 2 ^ (8 * n) ≤ 2 ^ (8 * (k + n)) = pow-le-pow_right (lit< tt) (omega arith) in
    let z : x / 2 ^ (8 * (k + n)) ≡ 0 = div-eq_of_lt (omega (arith, le)) in
    ap (λ (m : ℕ). bytes m x) (suc-add k n) ∙ ap₂ (λ (y : ℕ) (t : List ℕ). y ∷ t) (ap (λ (y : ℕ). y % 256) z) (bytes_wide k n x h)

pub nonce_put : (v : ℕ) (word nonce : List ℕ) → v < 2 ^ 32 → word ≡ bytes 4 v → nonce ≡ put (replicate 12 0) 8 word → nonce ≡ nonce_of v
unfolding put
nonce_put v word nonce h e f = f ∙ ap (put (replicate 12 0) 8) e ∙ sym (bytes_wide 8 4 v h ∙ zeros)
  where
    zeros : replicate 8 0 ++ bytes 4 v ≡ put (replicate 12 0) 8 (bytes 4 v)
    zeros = rw length_bytes (sym (ap (λ (t : List ℕ). replicate 8 0 ++ t) (append-nil (bytes 4 v))))

-- ---- words

-- those behind the first
words_behind : (w t : List ℕ) (k n : ℕ) → length w ≡ 4 → words_from (w ++ t) (suc k) n ≡ words_from t k n
unfolding words_from
words_behind w t k zero l = refl
words_behind w t k (suc n) l =
    let e : 4 * suc k ≡ 4 + 4 * k = omega arith in
    ap₂ (λ (x : ℕ) (xs : List ℕ). x ∷ xs) (ap (word_at (w ++ t)) e ∙ word_behind w t 4 (4 * k) l) (words_behind w t (suc k) n l)

pub first_word : (s w t : List ℕ) (x : ℕ) → s ≡ w ++ t → length w ≡ 4 → x ≡ word_at w 0 → words_of s ≡ x ∷ words_of t
unfolding words_of words_from word_at
first_word s w t x e l f =
    let n : length (w ++ t) / 4 ≡ suc (length t / 4) = rw (length-append w t) (omega arith) in
    rw (e, n, f) (ap₂ (λ (x : ℕ) (xs : List ℕ). x ∷ xs) (number_left w t 4 (omega arith)) (words_behind w t 0 (length t / 4) l))

pub no_words : (s : List ℕ) → length s < 4 → words_of s ≡ []
unfolding words_of words_from
no_words s h = let n : length s / 4 ≡ 0 = omega arith in rw n

words_long : (s : List ℕ) (k n : ℕ) → length (words_from s k n) ≡ n
unfolding words_from
words_long s k zero = refl
words_long s k (suc n) = ap suc (words_long s (suc k) n)

pub how_many : (s : List ℕ) → length (words_of s) ≡ length s / 4
unfolding words_of
how_many s = words_long s 0 (length s / 4)

-- ---- lines

-- the words of the trace up to `rest` have been run: the bench is at b, and the text begins with their lines; what is left makes the whole
pub record Sofar (key words rest text₀ : List ℕ) (b : Bench) (text : List ℕ) (at : ℕ) : Type 0 where
  pub done : List ℕ
  pub written : text ≡ put text₀ 0 done
  pub ends : at ≡ length done
  pub room : at + line_limit * length rest ≤ line_limit * length words
  pub left : after key b rest ≡ after key blank_bench words
  pub to_come : done ++ lines key b rest ≡ lines key blank_bench words

-- before the first word
pub nothing_done : (key words text₀ ring fram ring₀ fram₀ : List ℕ) → ring ≡ replicate (length ring₀) 0xFF → length ring₀ ≡ ring_length
    → fram ≡ replicate (length fram₀) 0xFF → length fram₀ ≡ fram_length
    → Sofar key words words text₀ (record { ring = ring; fram = fram; session = none; cut = none }) text₀ 0
unfolding put blank_bench
nothing_done key words text₀ ring fram ring₀ fram₀ e l f m =
    let b : ◌≡◌ {A = Bench} (record { ring = ring; fram = fram; session = none; cut = none }) blank_bench =
    (λ i. record { ring = (e ∙ ap (λ (k : ℕ). replicate k 0xFF) l) i; fram = (f ∙ ap (λ (k : ℕ). replicate k 0xFF) m) i; session = none; cut = none }) in
    record {
      done = [];
      written = refl;
      ends = refl;
      room = omega arith;
      left = ap (λ (y : Bench). after key y words) b;
      to_come = ap (λ (y : Bench). lines key y words) b;
    }

-- one word more
pub one_more : (key words rest text₀ : List ℕ) (w : ℕ) (b b' : Bench) (text text' : List ℕ) (at end : ℕ)
    → Sofar key words (w ∷ rest) text₀ b text at → Stepped key b w text at b' end text' → Sofar key words rest text₀ b' text' end
unfolding after lines
one_more key words rest text₀ w b b' text text' at end s t =
    record {
      done = s.done ++ printed key b w;
      written = t.line_put ∙ ap (λ (y : List ℕ). put y at (printed key b w)) s.written ∙ put_on text₀ s.done (printed key b w) 0 at (omega (arith, s.ends)) (omega arith);
      ends = omega (arith, s.ends, t.ends, length-append s.done (printed key b w));
      room = omega (arith, s.room, t.ends, t.short);
      left = ap (λ (y : Bench). after key y rest) t.unit ∙ s.left;
      to_come =
          ap (λ (y : Bench). s.done ++ printed key b w ++ lines key y rest) t.unit ∙ append_assoc s.done (printed key b w) (lines key (step key b w) rest) ∙ s.to_come;
    }

-- after the last
pub all_done : (key words text₀ : List ℕ) (b : Bench) (text : List ℕ) (at : ℕ) → Sofar key words [] text₀ b text at → at ≤ length text₀
    → Ran key words text₀ at b.ring b.fram text
unfolding after lines
all_done key words text₀ b text at s l =
    let e : s.done ≡ lines key blank_bench words = sym (append-nil s.done) ∙ s.to_come in
    record {
      ring = ap (λ (y : Bench). y.ring) s.left;
      fram = ap (λ (y : Bench). y.fram) s.left;
      lines_put = s.written ∙ ap (put text₀ 0) e;
      long = s.ends ∙ ap length e;
      fits = l;
    }
