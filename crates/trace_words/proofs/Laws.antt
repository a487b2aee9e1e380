-- Laws of the words of a trace. Assumes nothing.
use Prim.Native.Nat.{ℕ, zero, suc, ◌+◌, ◌-◌, ◌*◌, ◌/◌, ◌≤◌, ◌<◌}
use mathlib.Core.Path.{◌≡◌, refl, sym, ap, ap₂, ◌∙◌}
use mathlib.Core.Bool.{Bool, true, false, ◌||◌}
use mathlib.Core.List.{List, [], ◌∷◌, ◌++◌}
use native.Mathlib.Omega.{arith}
use lib.ListN.{length, length-append}
use Rattle.octets.specs.Word.{word_at}
use Rattle.octets.proofs.Numbers.{number_left, word_behind}
use Rattle.trace_words.specs.Words.{is_cut, words_from, words_of, word_wrong, words_wrong}

module _ (trace : List ℕ) (k n : ℕ) where
  pub next_word : k < n → words_from trace k (n - k) ≡ word_at trace (4 * k) ∷ words_from trace (k + 1) (n - (k + 1))
  unfolding words_from
  next_word h =
      let e : n - k ≡ suc (n - (k + 1)) = omega arith in
      let f : suc k ≡ k + 1 = omega arith in
      ap (words_from trace k) e ∙ ap (λ (j : ℕ). word_at trace (4 * k) ∷ words_from trace j (n - (k + 1))) f

  pub no_word : n ≤ k → words_from trace k (n - k) ≡ []
  unfolding words_from
  no_word h = let e : n - k ≡ 0 = omega arith in ap (words_from trace k) e

-- the words behind the first
words_behind : (w t : List ℕ) (k n : ℕ) → length w ≡ 4 → words_from (w ++ t) (suc k) n ≡ words_from t k n
unfolding words_from
words_behind w t k zero l = refl
words_behind w t k (suc n) l =
    let e : 4 * suc k ≡ 4 + 4 * k = omega arith in
    ap₂ (λ (x : ℕ) (xs : List ℕ). x ∷ xs) (ap (word_at (w ++ t)) e ∙ word_behind w t 4 (4 * k) l) (words_behind w t (suc k) n l)

first_word : (w t : List ℕ) → length w ≡ 4 → words_of (w ++ t) ≡ word_at w 0 ∷ words_of t
unfolding words_of words_from word_at
first_word w t l =
    let n : length (w ++ t) / 4 ≡ suc (length t / 4) = rw (length-append w t) (omega arith) in
    rw n (ap₂ (λ (x : ℕ) (xs : List ℕ). x ∷ xs) (number_left w t 4 (omega arith)) (words_behind w t 0 (length t / 4) l))

pub all_words : (trace : List ℕ) → words_from trace 0 (length trace / 4 - 0) ≡ words_of trace
unfolding words_of
all_words trace = let e : length trace / 4 - 0 ≡ length trace / 4 = omega arith in ap (words_from trace 0) e

-- the check, one word at a time: s begins with the word w, of which the code says b
module _ (s w t : List ℕ) (a b : Bool) (e : s ≡ w ++ t) (l : length w ≡ 4) (f : b ≡ word_wrong a (word_at w 0)) where
  word_next : words_wrong a (words_of s) ≡ b || words_wrong (is_cut (word_at w 0)) (words_of t)
  unfolding words_wrong
  word_next = rw (e, first_word w t l, f)

  pub word_found_wrong : b ≡ true → true ≡ words_wrong a (words_of s)
  word_found_wrong g = rw g at (sym word_next)

  pub word_found_right : (r : Bool) → b ≡ false → r ≡ is_cut (word_at w 0) → words_wrong r (words_of t) ≡ words_wrong a (words_of s)
  word_found_right r g q = rw q (rw g at (sym word_next))

pub words_end : (s : List ℕ) (a : Bool) → length s < 4 → a ≡ words_wrong a (words_of s)
unfolding words_wrong words_of words_from
words_end s a h = let n : length s / 4 ≡ 0 = omega arith in rw n
