-- Laws of numbers as bytes, and of words. Assumes nothing.
use mathlib.Core.Path.{◌≡◌, refl, sym, ap, ap₂, ◌∙◌}
use mathlib.Core.List.{List, [], ◌∷◌, ◌++◌}
use Prim.Native.Nat.{ℕ, zero, suc, ◌+◌, ◌-◌, ◌*◌, ◌/◌, ◌%◌, ◌^◌, ◌≤◌, ◌<◌}
use native.Mathlib.Nat.{add-zero, zero-add, add-suc, add_assoc, add-mul, mul_assoc, mul-one, mod-one, mod-eq_of_lt, div-add-mod', not-suc-le-zero, le_of_suc-le-suc}
use native.Mathlib.Numerals.{one-add}
use native.Mathlib.Omega.{arith}
use lib.Arith.{digits_lt, digits_div, digits_mod}
use lib.Dec.{lit<}
use lib.ListN.{length, get_or, get_or-append}
use lib.Seq.{get_or-append-add}
use lib.Pow.{pow-add, mod-pow-add}
use Rattle.octets.specs.Octets.{Bytes, part, number, bytes}
use Rattle.octets.specs.Word.{word_at, kind_of, value_of, word}
use Rattle.octets.proofs.Laws.{length_part, get_or_part}
use Rattle.octets.proofs.Bytes.{bytes_part, bytes_bytes}

pow8_suc : (n : ℕ) → 2 ^ (8 * suc n) ≡ 2 ^ (8 * n) * 256
pow8_suc n = ap (λ (x : ℕ). 2 ^ x) (let e : 8 * suc n ≡ 8 * n + 8 = omega arith in e) ∙ pow-add 2 (8 * n) 8

pub number_lt : (s : List ℕ) (at n : ℕ) → Bytes s → number s at n < 2 ^ (8 * n)
unfolding number
number_lt s at zero h = lit< tt
number_lt s at (suc n) h = rw (pow8_suc n) (digits_lt (number_lt s at n h) (h (at + n)))

-- strings with the same bytes have the same number
pub number_ext : (s t : List ℕ) (a b n : ℕ) → ((i : ℕ) → i < n → get_or s (a + i) 0 ≡ get_or t (b + i) 0) → number s a n ≡ number t b n
unfolding number
number_ext s t a b zero h = refl
number_ext s t a b (suc n) h = ap₂ (λ (x y : ℕ). x * 256 + y) (number_ext s t a b n (λ i l. h i (omega arith))) (h n (omega arith))

-- the first m bytes and the n behind them
pub number_split : (s : List ℕ) (at m n : ℕ) → number s at (m + n) ≡ number s at m * 2 ^ (8 * n) + number s (at + m) n
unfolding number
number_split s at m zero = ap (number s at) (add-zero m) ∙ sym (add-zero (number s at m * 1) ∙ mul-one (number s at m))
number_split s at m (suc n) =
    ap (number s at) (add-suc m n)
    ∙ ap₂ (λ (x y : ℕ). x * 256 + get_or s y 0) (number_split s at m n) (sym (add_assoc at m n))
    ∙ ap (λ (x : ℕ). x + get_or s (at + m + n) 0)
    (add-mul (number s at m * 2 ^ (8 * n)) (number s (at + m) n) 256
    ∙ ap (λ (x : ℕ). x + number s (at + m) n * 256) (mul_assoc (number s at m) (2 ^ (8 * n)) 256 ∙ ap (λ (x : ℕ). number s at m * x) (sym (pow8_suc n))))
    ∙ add_assoc (number s at m * 2 ^ (8 * suc n)) (number s (at + m) n * 256) (get_or s (at + m + n) 0)

-- the number of a part that stands first, or behind m bytes
pub number_left : (s t : List ℕ) (n : ℕ) → n ≤ length s → number (s ++ t) 0 n ≡ number s 0 n
number_left s t n h = number_ext (s ++ t) s 0 0 n (λ i l. get_or-append s t 0 (0 + i) (omega arith))

pub number_right : (s t : List ℕ) (m n : ℕ) → length s ≡ m → number (s ++ t) m n ≡ number t 0 n
number_right s t m n e =
    number_ext (s ++ t) t m 0 n
    (λ i l. ap (λ (k : ℕ). get_or (s ++ t) (k + i) 0) (sym e) ∙ get_or-append-add s t i 0 ∙ ap (λ (k : ℕ). get_or t k 0) (sym (zero-add i)))

pub number_part : (s : List ℕ) (i n at m : ℕ) → at + m ≤ n → number (part s i n) at m ≡ number s (i + at) m
number_part s i n at m h =
    number_ext (part s i n) s at (i + at) m (λ k l. get_or_part s i n (at + k) (omega arith) ∙ ap (λ (j : ℕ). get_or s j 0) (sym (add_assoc i at k)))

number_one : (s : List ℕ) (at : ℕ) → number s at 1 ≡ get_or s at 0
unfolding number
number_one s at = zero-add (get_or s (at + 0) 0) ∙ ap (λ (i : ℕ). get_or s i 0) (add-zero at)

pub length_bytes : (n x : ℕ) → length (bytes n x) ≡ n
unfolding bytes
length_bytes zero x = refl
length_bytes (suc n) x = ap suc (length_bytes n x)

pub get_or_bytes : (n x k : ℕ) → k < n → get_or (bytes n x) k 0 ≡ x / 2 ^ (8 * (n - suc k)) % 256
unfolding bytes
get_or_bytes zero x k h = absurd (not-suc-le-zero h)
get_or_bytes (suc n) x zero h = ap (λ (y : ℕ). x / 2 ^ (8 * y) % 256) (omega arith)
get_or_bytes (suc n) x (suc k) h = get_or_bytes n x k (le_of_suc-le-suc h) ∙ ap (λ (y : ℕ). x / 2 ^ (8 * y) % 256) (omega arith)

number_bytes_mod : (n x : ℕ) → number (bytes n x) 0 n ≡ x % 2 ^ (8 * n)
unfolding bytes number
number_bytes_mod zero x = sym (mod-one x)
number_bytes_mod (suc n) x =
    ap (number (bytes (suc n) x) 0) (let e : suc n ≡ 1 + n = omega arith in e)
    ∙ number_split (bytes (suc n) x) 0 1 n
    ∙ ap₂ (λ (y z : ℕ). y * 2 ^ (8 * n) + z) (number_one (bytes (suc n) x) 0) (number_ext (bytes (suc n) x) (bytes n x) 1 0 n (λ i l. rw one-add (rw zero-add)) ∙ number_bytes_mod n x)
    ∙ sym (mod-pow-add x 8 (8 * n))
    ∙ ap (λ (y : ℕ). x % 2 ^ y) (let e : 8 + 8 * n ≡ 8 * suc n = omega arith in e)

pub number_bytes : (n x : ℕ) → x < 2 ^ (8 * n) → number (bytes n x) 0 n ≡ x
number_bytes n x h = number_bytes_mod n x ∙ mod-eq_of_lt h

-- the first byte and those behind it
number_cons : (x : ℕ) (xs : List ℕ) (n : ℕ) → number (x ∷ xs) 0 (suc n) ≡ x * 2 ^ (8 * n) + number xs 0 n
number_cons x xs n =
    ap (number (x ∷ xs) 0) (let e : suc n ≡ 1 + n = omega arith in e)
    ∙ number_split (x ∷ xs) 0 1 n
    ∙ ap₂ (λ (y z : ℕ). y * 2 ^ (8 * n) + z) (number_one (x ∷ xs) 0) (number_right (x ∷ []) xs 1 n refl)

-- two strings of n bytes with one number are equal
pub number_injective : (n : ℕ) (xs ys : List ℕ) → length xs ≡ n → length ys ≡ n → Bytes xs → Bytes ys
    → number xs 0 n ≡ number ys 0 n → xs ≡ ys
number_injective zero [] [] lx ly bx by e = refl
number_injective zero (x ∷ xs) ys lx ly bx by e = absurd (omega arith)
number_injective zero [] (y ∷ ys) lx ly bx by e = absurd (omega arith)
number_injective (suc n) [] ys lx ly bx by e = absurd (omega arith)
number_injective (suc n) (x ∷ xs) [] lx ly bx by e = absurd (omega arith)
number_injective (suc n) (x ∷ xs) (y ∷ ys) lx ly bx by e =
    let j : x * 2 ^ (8 * n) + number xs 0 n ≡ y * 2 ^ (8 * n) + number ys 0 n = sym (number_cons x xs n) ∙ e ∙ number_cons y ys n in
    let lowx : number xs 0 n < 2 ^ (8 * n) = number_lt xs 0 n (λ i. bx (suc i)) in
    let lowy : number ys 0 n < 2 ^ (8 * n) = number_lt ys 0 n (λ i. by (suc i)) in
    let first : x ≡ y = sym (digits_div x lowx) ∙ ap (λ (z : ℕ). z / 2 ^ (8 * n)) j ∙ digits_div y lowy in
    let later : number xs 0 n ≡ number ys 0 n = sym (digits_mod x lowx) ∙ ap (λ (z : ℕ). z % 2 ^ (8 * n)) j ∙ digits_mod y lowy in
    let rest : xs ≡ ys = number_injective n xs ys (omega arith) (omega arith) (λ i. bx (suc i)) (λ i. by (suc i)) later in
    cc

-- the bytes of the number that stands in a string
pub bytes_number : (s : List ℕ) (at n : ℕ) → at + n ≤ length s → Bytes s → bytes n (number s at n) ≡ part s at n
bytes_number s at n h b =
    number_injective n (bytes n (number s at n)) (part s at n) (length_bytes n (number s at n)) (length_part s at n h) (bytes_bytes n (number s at n)) (bytes_part s at n b)
    (number_bytes n (number s at n) (number_lt s at n b) ∙ sym (number_part s at n 0 n (omega arith) ∙ ap (λ (i : ℕ). number s i n) (add-zero at)))

-- ---- words

-- a word in the order in which code puts it together
pub word_at_is : (s : List ℕ) (i : ℕ) → word_at s i ≡ ((get_or s i 0 * 256 + get_or s (i + 1) 0) * 256 + get_or s (i + 2) 0) * 256 + get_or s (i + 3) 0
unfolding word_at number
word_at_is s i = rw (add-zero i) (omega arith)

pub length_word : (kind value : ℕ) → length (word kind value) ≡ 4
unfolding word
length_word kind value = length_bytes 4 (kind * 2 ^ 30 + value)

-- a word at the front, and one behind n bytes
pub word_front : (kind value : ℕ) (t : List ℕ) → kind < 4 → value < 2 ^ 30 → word_at (word kind value ++ t) 0 ≡ kind * 2 ^ 30 + value
unfolding word_at word
word_front kind value t hk hv =
    number_left (bytes 4 (kind * 2 ^ 30 + value)) t 4 (omega (arith, length_bytes 4 (kind * 2 ^ 30 + value)))
    ∙ number_bytes 4 (kind * 2 ^ 30 + value) (omega arith)

pub word_behind : (s t : List ℕ) (m n : ℕ) → length s ≡ m → word_at (s ++ t) (m + n) ≡ word_at t n
unfolding word_at
word_behind s t m n e =
    number_ext (s ++ t) t (m + n) n 4
    (λ i l. ap (λ (k : ℕ). get_or (s ++ t) (k + n + i) 0) (sym e) ∙ ap (λ (k : ℕ). get_or (s ++ t) k 0) (add_assoc (length s) n i) ∙ get_or-append-add s t (n + i) 0)

pub word_part : (s : List ℕ) (i n at : ℕ) → at + 4 ≤ n → word_at (part s i n) at ≡ word_at s (i + at)
unfolding word_at
word_part s i n at h = number_part s i n at 4 h

pub kind_is : (kind value : ℕ) → value < 2 ^ 30 → kind_of (kind * 2 ^ 30 + value) ≡ kind
unfolding kind_of
kind_is kind value h = digits_div kind h

pub value_is : (kind value : ℕ) → value < 2 ^ 30 → value_of (kind * 2 ^ 30 + value) ≡ value
unfolding value_of
value_is kind value h = digits_mod kind h

-- a word made of the kind and the value of one that stands in a string
pub word_again : (s : List ℕ) (i kind : ℕ) → i + 4 ≤ length s → Bytes s → kind_of (word_at s i) ≡ kind → word kind (value_of (word_at s i)) ≡ part s i 4
unfolding word word_at kind_of value_of
word_again s i kind h b e =
    ap (λ (k : ℕ). bytes 4 (k * 2 ^ 30 + number s i 4 % 2 ^ 30)) (sym e) ∙ ap (bytes 4) (div-add-mod' (number s i 4) (2 ^ 30)) ∙ bytes_number s i 4 h b
