-- Laws of the key schedule's words.
-- Assumes nothing.
use mathlib.Core.Path.{◌≡◌, refl, ap, ap₂, ◌∙◌}
use mathlib.Core.Bool.{Bool, true, false, cond}
use mathlib.Core.List.{List, ◌++◌}
use Prim.Native.Nat.{ℕ, zero, suc, ◌+◌, ◌-◌, ◌*◌, ◌/◌, ◌<◌, ◌≤◌}
use native.Mathlib.Nat.{div-lt_iff_lt-mul, le-div_iff_mul-le, one-mul}
use native.Mathlib.Numerals.{add-one}
use native.Mathlib.Omega.{arith}
use lib.Dec.{ltb}
use lib.ListN.{length, drop, replicate, length-append, length-replicate, get_or-append}
use lib.Seq.{sets, sets-eq, take-append_seam, drop-append-add}
use borrow.Author.Tests.{ltb-false}
use Rattle.octets.proofs.Tables.{table_ext}
use Rattle.aes_key.specs.Key.{byte, word, xor_word, temp, next_word, expanded, padded}

-- the number of Rcon, between 1 and 10
pub turn : (nk i : ℕ) → 0 < nk → nk ≤ i → i < 11 * nk → (0 < i / nk) × (i / nk ≤ 10)
turn nk i p lo hi = ((le-div_iff_mul-le p).1 (rw one-mul lo), omega (arith, (div-lt_iff_lt-mul p).1 hi))

zeros : (i j : ℕ) → i ≡ j → replicate {A = ℕ} i 0 ≡ replicate j 0
zeros i j e = ap (λ (k : ℕ). replicate k 0) e

drop_zeros : (i n : ℕ) → drop i (replicate {A = ℕ} n 0) ≡ replicate (n - i) 0
drop_zeros zero n = zeros n (n - 0) (omega arith)
drop_zeros (suc i) zero = zeros 0 (0 - suc i) (omega arith)
drop_zeros (suc i) (suc n) = drop_zeros i n ∙ zeros (n - i) (suc n - suc i) (omega arith)

-- a word stored behind a schedule
padded_more : (p u : List ℕ) → length p + length u ≤ 240 → sets (padded p) (length p) u ≡ padded (p ++ u)
unfolding padded
padded_more p u h =
    let z = replicate {A = ℕ} (240 - length p) 0 in
    let room : length p + length u ≤ length (p ++ z) = simp (length-append, length-replicate) (omega arith) in
    sets-eq u (p ++ z) (length p) room ∙ rw (take-append_seam, drop-append-add, drop_zeros, length-append) (ap (λ (l : List ℕ). p ++ u ++ l) (zeros (240 - length p - length u) (240 - (length p + length u)) (omega arith)))

-- the words of a schedule are those of the padded one
word_padded : (p : List ℕ) (i : ℕ) → 4 * i + 4 ≤ length p → word (padded p) i ≡ word p i
unfolding padded
word_padded p i h =
    table_ext 4 (λ r. byte (padded p) r i) (λ r. byte p r i)
    (λ r k. get_or-append p (replicate (240 - length p) 0) 0 (r + 4 * i) (omega arith))

-- a word is made of the same words in either
next_word_padded : (nk : ℕ) (key p : List ℕ) (i : ℕ) → 0 < nk → length p ≡ 4 * i → next_word nk key (padded p) i ≡ next_word nk key p i
unfolding next_word
next_word_padded nk key p i h e = go (ltb i nk) refl
  where
    go : (t : Bool) → ltb i nk ≡ t
        → cond t (word key i) (xor_word (word (padded p) (i - nk)) (temp nk i (word (padded p) (i - 1))))
        ≡ cond t (word key i) (xor_word (word p (i - nk)) (temp nk i (word p (i - 1))))
    go true q = refl
    go false q =
        let k : nk ≤ i = ltb-false i nk q in
        ap₂ (λ (u v : List ℕ). xor_word u (temp nk i v)) (word_padded p (i - nk) (omega arith)) (word_padded p (i - 1) (omega arith))

length_cond : (t : Bool) (u v : List ℕ) → length u ≡ 4 → length v ≡ 4 → length (cond t u v) ≡ 4
length_cond true u v p q = p
length_cond false u v p q = q

length_next : (nk : ℕ) (key w : List ℕ) (i : ℕ) → length (next_word nk key w i) ≡ 4
unfolding next_word
length_next nk key w i = length_cond (ltb i nk) _ _ refl refl

pub length_expanded : (nk : ℕ) (key : List ℕ) (n : ℕ) → length (expanded nk key n) ≡ 4 * n
unfolding expanded
length_expanded nk key zero = refl
length_expanded nk key (suc n) = rw (length-append, length_next) (omega (arith, length_expanded nk key n))

-- before the first word all is zero
pub expanded_none : (nk : ℕ) (key : List ℕ) → replicate 240 0 ≡ padded (expanded nk key 0)
unfolding expanded padded
expanded_none nk key = refl

-- a turn of the loop that expands the key
pub expanded_more : (nk : ℕ) (key : List ℕ) (i : ℕ) → 0 < nk → i < 60
    → sets (padded (expanded nk key i)) (4 * i) (next_word nk key (padded (expanded nk key i)) i) ≡ padded (expanded nk key (i + 1))
unfolding expanded
expanded_more nk key i h room =
    let p = expanded nk key i in
    let long : length p ≡ 4 * i = length_expanded nk key i in
    rw (next_word_padded nk key p i h long, ← long, add-one) (padded_more p (next_word nk key p i) (omega (arith, length_next nk key p i)))
