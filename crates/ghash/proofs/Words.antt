-- Laws of a block in two words: xor, a bit times a number, the shift by one, and its bytes. Assumes nothing.
use Rattle.std.proofs.Common.{◌≡◌, refl, sym, ap, ap₂, ◌∙◌, List, ◌++◌, ℕ, zero, suc, ◌+◌, ◌-◌, ◌*◌, ◌/◌, ◌%◌, ◌^◌, ◌≤◌, ◌<◌, arith}
use native.Mathlib.Nat.{add-zero, zero-mul, one-mul, div-one, mul_assoc, mod-lt, zero-lt-suc}
use lib.Bits.{bit_xor, bit_or, xor_block, xor_zero_r, or_shifted}
use lib.Pow.{high, low, field, shr-shr, mod-mod-pow}
use Rattle.std.specs.Int.{w128, to_be_bytes, from_be_bytes}
use Rattle.octets.specs.Octets.{number, bytes}
use Rattle.octets.proofs.Numbers.{number_split, number_left, number_right, length_bytes, number_bytes}
use Rattle.ghash.specs.Steps.{words}
use Rattle.ghash.specs.Ghash.{add_if, halved, R}

pub xor_words : (ah al bh bl : ℕ) → al < 2 ^ 64 → bl < 2 ^ 64 → words (bit_xor ah bh) (bit_xor al bl) ≡ bit_xor (words ah al) (words bh bl)
unfolding words
xor_words ah al bh bl p q = sym (xor_block 64 ah bh al bl p q)

-- a bit times a number is the number or nothing
pub add_if_mul : (b x y : ℕ) → b < 2 → add_if b x y ≡ bit_xor x (b * y)
unfolding add_if
add_if_mul zero x y h = sym (ap (bit_xor x) (zero-mul y) ∙ xor_zero_r x)
add_if_mul (suc zero) x y h = sym (ap (bit_xor x) (one-mul y))
add_if_mul (suc (suc n)) x y h = absurd (omega arith)

-- the top word of R
abbrev E1 : ℕ
E1 = 0xe1 * 2 ^ 56

-- the folded constant, by its two cases, is the bit times the top word of R
folded : (b f : ℕ) → b < 2 → (b ≡ 0 → f ≡ 0) × (b ≡ 1 → f ≡ E1) → f ≡ b * E1
folded zero f h cases = cases.0 refl ∙ sym (zero-mul E1)
folded (suc zero) f h cases = cases.1 refl ∙ sym (one-mul E1)
folded (suc (suc n)) f h cases = absurd (omega arith)

-- a word shifted left so far that its last bit is on top
pub last_bit : (w : ℕ) → w * 2 ^ 63 % 2 ^ 64 ≡ w % 2 * 2 ^ 63
last_bit w = omega arith

-- the low word of a block that is shifted right by one
low_half : (hi lo : ℕ) → lo < 2 ^ 64 → bit_or (hi * 2 ^ 63 % 2 ^ 64) (lo / 2) ≡ hi % 2 * 2 ^ 63 + lo / 2
low_half hi lo h = ap (λ (x : ℕ). bit_or x (lo / 2)) (last_bit hi) ∙ or_shifted (hi % 2) 63 (lo / 2) (omega arith)

pub halve_words : (hi lo f : ℕ) → lo < 2 ^ 64 → (lo % 2 ≡ 0 → f ≡ 0) × (lo % 2 ≡ 1 → f ≡ E1)
    → words (bit_xor (hi / 2) f) (bit_or (hi * 2 ^ 63 % 2 ^ 64) (lo / 2)) ≡ halved (words hi lo)
unfolding words halved
halve_words hi lo f h cases =
    ap₂ (λ (x y : ℕ). words (bit_xor (hi / 2) x) y) (folded (lo % 2) f (omega arith) cases) (low_half hi lo h ∙ sym (xor_zero_r (hi % 2 * 2 ^ 63 + lo / 2)))
    ∙ xor_words (hi / 2) (hi % 2 * 2 ^ 63 + lo / 2) (lo % 2 * E1) 0 (omega arith) (omega arith)
    ∙ ap₂ bit_xor (let e : hi / 2 * 2 ^ 64 + (hi % 2 * 2 ^ 63 + lo / 2) ≡ (hi * 2 ^ 64 + lo) / 2 = omega arith in e)
    (add-zero (lo % 2 * E1 * 2 ^ 64) ∙ mul_assoc (lo % 2) E1 (2 ^ 64)
    ∙ ap (λ (x : ℕ). x * R) (let e : lo % 2 ≡ (hi * 2 ^ 64 + lo) % 2 = omega arith in e))
    ∙ sym (add_if_mul (words hi lo % 2) (words hi lo / 2) R (mod-lt (words hi lo) (zero-lt-suc 1)))

-- the bits from m on lie in the high word
pub from_hi : (hi lo m : ℕ) → lo < 2 ^ 64 → 64 ≤ m → hi / 2 ^ (m - 64) ≡ words hi lo / 2 ^ m
unfolding words
from_hi hi lo m h k =
    ap (λ (x : ℕ). x / 2 ^ (m - 64)) (sym (high hi 64 h)) ∙ shr-shr (words hi lo) 64 (m - 64)
    ∙ ap (λ (x : ℕ). words hi lo / 2 ^ x) (let e : 64 + (m - 64) ≡ m = omega arith in e)

-- j bits from m on lie in the low word
pub from_lo : (hi lo m j : ℕ) → lo < 2 ^ 64 → m + j ≤ 64 → lo / 2 ^ m % 2 ^ j ≡ words hi lo / 2 ^ m % 2 ^ j
unfolding words
from_lo hi lo m j h k =
    sym (field lo j m)
    ∙ ap (λ (x : ℕ). x / 2 ^ m)
    (ap (λ (x : ℕ). x % 2 ^ (j + m)) (sym (low hi 64 h) ∙ ap (λ (x : ℕ). words hi lo % 2 ^ x) (let e : 64 ≡ (64 - (j + m)) + (j + m) = omega arith in e))
    ∙ mod-mod-pow (words hi lo) (64 - (j + m)) (j + m))
    ∙ field (words hi lo) j m

-- two words, as 16 bytes
pub number_words : (a b : ℕ) → a < 2 ^ 64 → b < 2 ^ 64 → number (bytes 8 a ++ bytes 8 b) 0 16 ≡ words a b
unfolding words
number_words a b ha hb =
    let eight = length_bytes 8 a in
    number_split (bytes 8 a ++ bytes 8 b) 0 8 8
    ∙ ap₂ words (number_left (bytes 8 a) (bytes 8 b) 8 (omega arith) ∙ number_bytes 8 a ha) (number_right (bytes 8 a) (bytes 8 b) 8 8 eight ∙ number_bytes 8 b hb)

-- std's bytes of a number, the most significant first, and the number of bytes
pub high_first : (n : ℕ) → to_be_bytes w128 n ≡ bytes 16 n
unfolding bytes
high_first n = rw div-one refl

pub number_is : (xs : List ℕ) → from_be_bytes w128 xs ≡ number xs 0 16
unfolding number
number_is xs = omega arith
