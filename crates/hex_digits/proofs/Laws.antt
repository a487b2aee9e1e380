-- Laws of hexadecimal digits: what was encoded is decoded to itself. Assumes nothing.
use mathlib.Core.Path.{◌≡◌, refl, sym, ap, ap₂, ◌∙◌}
use mathlib.Core.Bool.{Bool, true, false, ◌&&◌}
use mathlib.Core.List.{List, [], ◌∷◌, ◌++◌, append_assoc}
use Prim.Native.Nat.{ℕ, zero, suc, ◌+◌, ◌*◌, ◌/◌, ◌%◌, ◌≤◌, ◌<◌}
use native.Mathlib.Nat.{add-zero, mod-eq_of_lt}
use native.Mathlib.Numerals.{add-one}
use native.Mathlib.Omega.{arith}
use lib.Dec.{ltb}
use lib.ListN.{length, take, get_or, set, length-append, take-append-drop}
use lib.Seq.{take-suc, length-take-le}
use borrow.Author.Tests.{ltb-true, ltb-false, le-leb, lt-leb}
use Rattle.octets.specs.Octets.{Bytes, put}
use Rattle.octets.specs.Table.{table}
use Rattle.octets.proofs.Laws.{and-true, and_assoc}
use Rattle.octets.proofs.Lent.{set_on}
use Rattle.hex_digits.specs.Digits.{is_digit, digit_value, digit_of, all_digits, pair, encoded}

-- ---- digits

-- the values of 0 to 9, A to F and a to f
digit_values : (table 10 (λ i. digit_value (0x30 + i)) ≡ table 10 (λ i. i))
    × (table 6 (λ i. digit_value (0x41 + i)) ≡ table 6 (λ i. 10 + i))
    × (table 6 (λ i. digit_value (0x61 + i)) ≡ table 6 (λ i. 10 + i))
digit_values = (refl, refl, refl)

-- the digit of a value
pub record Digit (v c : ℕ) : Type 0 where
  pub value : digit_value c ≡ v
  pub digit : is_digit c ≡ true

value_is : (c q v : ℕ) → c / 64 ≡ q → c % 16 + q * 9 ≡ v → v < 16 → digit_value c ≡ v
value_is c q v e f h = ap (λ (n : ℕ). (c % 16 + n * 9) % 16) e ∙ ap (λ (n : ℕ). n % 16) f ∙ mod-eq_of_lt h

pub digit_is : (v : ℕ) → v < 16 → Digit v (digit_of v)
digit_is v h = go (ltb v 10) refl
  where
    go : (t : Bool) → ltb v 10 ≡ t → Digit v (digit_of v)
    go true e =
        let l : v < 10 = ltb-true v 10 e in
        rw e (record {
          value = value_is (0x30 + v) 0 v (omega arith) (omega arith) h;
          digit = rw (le-leb 0x30 (0x30 + v) (omega arith), le-leb (0x30 + v) 0x39 (omega arith)) refl;
        })
    go false e =
        let l : 10 ≤ v = ltb-false v 10 e in
        rw e (record {
          value = value_is (0x37 + v) 1 v (omega arith) (omega arith) h;
          digit = rw (lt-leb (0x37 + v) 0x39 (omega arith), le-leb 0x30 (0x37 + v) (omega arith), le-leb 0x41 (0x37 + v) (omega arith), le-leb (0x37 + v) 0x46 (omega arith)) refl;
        })

-- ---- what is encoded

pub length_encoded : (s : List ℕ) → length (encoded s) ≡ 2 * length s
unfolding encoded
length_encoded [] = refl
length_encoded (b ∷ s) = let e : length (encoded s) ≡ 2 * length s = length_encoded s in omega arith

pub encoded_append : (s t : List ℕ) → encoded (s ++ t) ≡ encoded s ++ encoded t
unfolding encoded
encoded_append [] t = refl
encoded_append (b ∷ s) t = ap (λ (r : List ℕ). digit_of (b / 16) ∷ digit_of (b % 16) ∷ r) (encoded_append s t)

-- nothing written yet
pub encoded_none : (d s : List ℕ) (at : ℕ) → at ≤ length d → d ≡ put d at (encoded (take 0 s))
unfolding encoded put
encoded_none d s at h = sym (rw (add-zero at) (take-append-drop at d))

-- one byte more, written behind the others
pub encoded_on : (d s out : List ℕ) (at i h l : ℕ) → i < length s → at + 2 * length s ≤ length d → out ≡ put d at (encoded (take i s))
    → h ≡ digit_of (get_or s i 0 / 16) → l ≡ digit_of (get_or s i 0 % 16)
    → set (set out (at + 2 * i) h) (at + 2 * i + 1) l ≡ put d at (encoded (take (i + 1) s))
unfolding encoded
encoded_on d s out at i h l k r e eh el =
    let E : List ℕ = encoded (take i s) in
    let m : length E ≡ 2 * i = length_encoded (take i s) ∙ ap (λ (n : ℕ). 2 * n) (length-take-le i s (omega arith)) in
    let one : at + 2 * i + 1 ≡ at + length (E ++ (h ∷ [])) = omega (arith, length-append E (h ∷ [])) in
    let more : encoded (take (i + 1) s) ≡ E ++ (h ∷ l ∷ []) =
    ap (λ (n : ℕ). encoded (take n s)) (add-one i) ∙ ap encoded (take-suc s i 0 k) ∙ encoded_append (take i s) (get_or s i 0 ∷ [])
    ∙ ap₂ (λ (x y : ℕ). E ++ (x ∷ y ∷ [])) (sym eh) (sym el) in
    ap (λ (w : List ℕ). set (set w (at + 2 * i) h) (at + 2 * i + 1) l) e
    ∙ ap (λ (w : List ℕ). set w (at + 2 * i + 1) l) (set_on d E at (at + 2 * i) h (omega arith) (omega arith))
    ∙ set_on d (E ++ (h ∷ [])) at (at + 2 * i + 1) l one (omega arith)
    ∙ ap (put d at) (append_assoc E (h ∷ []) (l ∷ []) ∙ sym more)

pub encoded_digits : (s : List ℕ) → Bytes s → all_digits (encoded s) ≡ true
unfolding encoded all_digits
encoded_digits [] b = refl
encoded_digits (x ∷ s) b =
    let x< : x < 256 = b 0 in
    rw ((digit_is (x / 16) (omega arith)).digit, (digit_is (x % 16) (omega arith)).digit) (encoded_digits s (λ i. b (suc i)))

-- byte k of what was encoded
pub pair_encoded : (s t : List ℕ) (k : ℕ) → Bytes s → k < length s → pair (encoded s ++ t) (2 * k) ≡ get_or s k 0
unfolding encoded
pair_encoded [] t k b h = absurd (omega arith)
pair_encoded (x ∷ s) t zero b h =
    let x< : x < 256 = b 0 in
    ap₂ (λ (m n : ℕ). m * 16 + n) (digit_is (x / 16) (omega arith)).value (digit_is (x % 16) (omega arith)).value ∙ (let e : x / 16 * 16 + x % 16 ≡ x = omega arith in e)
pair_encoded (x ∷ s) t (suc k) b h =
    let e : 2 * suc k ≡ suc (suc (2 * k)) = omega arith in
    let e' : suc (suc (2 * k)) + 1 ≡ suc (suc (2 * k + 1)) = omega arith in
    ap (pair (encoded (x ∷ s) ++ t)) e
    ∙ ap (λ (n : ℕ). digit_value (get_or (encoded s ++ t) (2 * k) 0) * 16 + digit_value (get_or (encoded (x ∷ s) ++ t) n 0)) e'
    ∙ pair_encoded s t k (λ i. b (suc i)) (omega arith)

-- ---- digits in a row

pub digit_at : (s : List ℕ) (i : ℕ) → all_digits s ≡ true → i < length s → is_digit (get_or s i 0) ≡ true
unfolding all_digits
digit_at [] i d h = absurd (omega arith)
digit_at (c ∷ s) zero d h = (and-true (is_digit c) (all_digits s) d).0
digit_at (c ∷ s) (suc i) d h = digit_at s i (and-true (is_digit c) (all_digits s) d).1 (omega arith)

pub all_digits_append : (s t : List ℕ) → all_digits (s ++ t) ≡ all_digits s && all_digits t
unfolding all_digits
all_digits_append [] t = refl
all_digits_append (c ∷ s) t = ap (λ (b : Bool). is_digit c && b) (all_digits_append s t) ∙ sym (and_assoc (is_digit c) (all_digits s) (all_digits t))

-- one byte more
pub digits_more : (s : List ℕ) (i : ℕ) → i < length s → all_digits (take (i + 1) s) ≡ all_digits (take i s) && is_digit (get_or s i 0)
unfolding all_digits
digits_more s i h =
    ap (λ (k : ℕ). all_digits (take k s)) (add-one i) ∙ ap all_digits (take-suc s i 0 h) ∙ all_digits_append (take i s) (get_or s i 0 ∷ [])
    ∙ ap (λ (b : Bool). all_digits (take i s) && b) (and_right (is_digit (get_or s i 0)))
  where
    and_right : (b : Bool) → b && true ≡ b
    and_right true = refl
    and_right false = refl
