-- The product of blocks in two words of 64 bits, step by step. Assumes nothing.
use mathlib.Core.Path.{◌≡◌, refl, sym, ap, ap₂, ◌∙◌}
use mathlib.Core.List.{List}
use Prim.Native.Nat.{ℕ, zero, suc, ◌+◌, ◌-◌, ◌*◌, ◌/◌, ◌%◌, ◌^◌, ◌≤◌, ◌<◌}
use native.Mathlib.Nat.{mul_assoc, pow-suc, mod-eq_of_lt}
use native.Mathlib.Numerals.{add-one}
use native.Mathlib.Omega.{arith}
use borrow.Author.Count.{below_more}
use lib.Bits.{bit_xor, bit_and, and_zero_l, and_comm, and_mask, xor_zero_r}
use lib.Dec.{lit<}
use lib.ListN.{length, get_or, set}
use lib.Pow.{field, shr-shr, shl-shr}
use lib.Seq.{get_or-set_same, get_or-set_other, lt-length-set}
use Rattle.ghash.specs.Steps.{words, Steps}
use Rattle.ghash.specs.Ghash.{add_if, bit, Vᵢ, Zᵢ, ◌•◌}
use Rattle.ghash.proofs.Words.{xor_words, from_hi, from_lo}

-- a word under the mask of ones
under_ones : (w : ℕ) → w < 2 ^ 64 → bit_and 0xffffffffffffffff w ≡ w
under_ones w h = and_comm 0xffffffffffffffff w ∙ and_mask w 64 ∙ mod-eq_of_lt h

pub mask_fits : (b : ℕ) → b < 2 → b * 0xffffffffffffffff < 2 ^ 64
mask_fits zero h = lit< tt
mask_fits (suc zero) h = lit< tt
mask_fits (suc (suc n)) h = absurd (omega arith)

-- a block added under the mask of a bit
pub masked : (b zh zl vh vl : ℕ) → b < 2 → zl < 2 ^ 64 → vh < 2 ^ 64 → vl < 2 ^ 64
    → words (bit_xor zh (bit_and (b * 0xffffffffffffffff) vh)) (bit_xor zl (bit_and (b * 0xffffffffffffffff) vl)) ≡ add_if b (words zh zl) (words vh vl)
unfolding add_if
masked zero zh zl vh vl h hz hh hl =
    ap₂ (λ (x y : ℕ). words (bit_xor zh x) (bit_xor zl y)) (and_zero_l vh) (and_zero_l vl) ∙ ap₂ words (xor_zero_r zh) (xor_zero_r zl)
masked (suc zero) zh zl vh vl h hz hh hl =
    ap₂ (λ (x y : ℕ). words (bit_xor zh x) (bit_xor zl y)) (under_ones vh hh) (under_ones vl hl) ∙ xor_words zh zl vh vl hz hl
masked (suc (suc n)) zh zl vh vl h hz hh hl = absurd (omega arith)

-- a word that is shifted left by one in each turn: the bit on top
pub shift_next : (x i w : ℕ) → w ≡ x * 2 ^ i % 2 ^ 64 → w * 2 % 2 ^ 64 ≡ x * 2 ^ (i + 1) % 2 ^ 64
shift_next x i w h =
    let twice : x * 2 ^ (i + 1) ≡ x * 2 ^ i * 2 = ap (λ (n : ℕ). x * 2 ^ n) (add-one i) ∙ ap (λ (n : ℕ). x * n) (pow-suc 2 i) ∙ sym (mul_assoc x (2 ^ i) 2) in
    omega arith

top_bit : (x i : ℕ) → i < 64 → x * 2 ^ i % 2 ^ 64 / 2 ^ 63 ≡ x / 2 ^ (63 - i) % 2
top_bit x i l =
    let e : 63 ≡ i + (63 - i) = omega arith in
    field (x * 2 ^ i) 1 63
    ∙ ap (λ (n : ℕ). n % 2) (ap (λ (s : ℕ). x * 2 ^ i / 2 ^ s) e ∙ sym (shr-shr (x * 2 ^ i) i (63 - i)) ∙ ap (λ (n : ℕ). n / 2 ^ (63 - i)) (shl-shr x i))

-- one turn of the sum: Z_(n+1) from Z_n
pub next_Z : (t : List ℕ) (x y H at i w z v z' : ℕ) → i < 64 → at ≤ 64 → Steps H t
    → ((i : ℕ) → i < 64 → x / 2 ^ (63 - i) % 2 ≡ bit y (at + i)) → w ≡ x * 2 ^ i % 2 ^ 64 → z ≡ Zᵢ (at + i) y H
    → v ≡ words (get_or t (2 * (at + i)) 0) (get_or t (2 * (at + i) + 1) 0) → z' ≡ add_if (w / 2 ^ 63) z v → z' ≡ Zᵢ (at + (i + 1)) y H
unfolding Zᵢ
next_Z t x y H at i w z v z' l la steps bits hw hz hv h =
    let b : w / 2 ^ 63 ≡ bit y (at + i) = ap (λ (n : ℕ). n / 2 ^ 63) hw ∙ top_bit x i l ∙ bits i l in
    let step : v ≡ Vᵢ (at + i) H = hv ∙ steps.holds (at + i) (omega arith) in
    let e : suc (at + i) ≡ at + (i + 1) = omega arith in
    h ∙ ap (λ (c : ℕ). add_if c z v) b ∙ ap₂ (add_if (bit y (at + i))) hz step ∙ ap (λ (n : ℕ). Zᵢ n y H) e

-- the bits of a block in its words
high_bits : (hi lo i : ℕ) → lo < 2 ^ 64 → i < 64 → hi / 2 ^ (63 - i) % 2 ≡ bit (words hi lo) (0 + i)
unfolding bit
high_bits hi lo i h l =
    let e : 63 - i ≡ 127 - (0 + i) - 64 = omega arith in
    ap (λ (n : ℕ). hi / 2 ^ n % 2) e ∙ ap (λ (n : ℕ). n % 2) (from_hi hi lo (127 - (0 + i)) h (omega arith))

low_bits : (hi lo i : ℕ) → lo < 2 ^ 64 → i < 64 → lo / 2 ^ (63 - i) % 2 ≡ bit (words hi lo) (64 + i)
unfolding bit
low_bits hi lo i h l =
    let e : 63 - i ≡ 127 - (64 + i) = omega arith in
    from_lo hi lo (63 - i) 1 h (omega arith) ∙ ap (λ (n : ℕ). words hi lo / 2 ^ n % 2) e

-- the sum over both words is the product
pub product_is : (hi lo H a r : ℕ) → lo < 2 ^ 64
    → (((i : ℕ) → i < 64 → hi / 2 ^ (63 - i) % 2 ≡ bit (words hi lo) (0 + i)) → words 0 0 ≡ Zᵢ 0 (words hi lo) H → a ≡ Zᵢ (0 + 64) (words hi lo) H)
    → (((i : ℕ) → i < 64 → lo / 2 ^ (63 - i) % 2 ≡ bit (words hi lo) (64 + i)) → a ≡ Zᵢ 64 (words hi lo) H → r ≡ Zᵢ (64 + 64) (words hi lo) H)
    → r ≡ words hi lo • H
unfolding Zᵢ ◌•◌ words
product_is hi lo H a r h first second = second (λ i l. low_bits hi lo i h l) (first (λ i l. high_bits hi lo i h l) refl)

-- the first i steps of y stand in t
abbrev pub Made : List ℕ → ℕ → ℕ → Type 0
Made t y i = (j : ℕ) → j < i → words (get_or t (2 * j) 0) (get_or t (2 * j + 1) 0) ≡ Vᵢ j y

-- one turn of the loop that fills it
pub steps_next : (t : List ℕ) (y i a b : ℕ) → length t ≡ 256 → i < 128 → Made t y i → words a b ≡ Vᵢ i y
    → Made (set (set t (2 * i) a) (2 * i + 1) b) y (i + 1)
steps_next t y i a b len l h e =
    let t' = set t (2 * i) a in
    let t'' = set t' (2 * i + 1) b in
    below_more (λ (j : ℕ). words (get_or t'' (2 * j) 0) (get_or t'' (2 * j + 1) 0) ≡ Vᵢ j y) i
    (λ j lt.
    ap₂ words
    (get_or-set_other t' (2 * i + 1) (2 * j) b 0 (λ q. omega arith) ∙ get_or-set_other t (2 * i) (2 * j) a 0 (λ q. omega arith))
    (get_or-set_other t' (2 * i + 1) (2 * j + 1) b 0 (λ q. omega arith) ∙ get_or-set_other t (2 * i) (2 * j + 1) a 0 (λ q. omega arith))
    ∙ h j lt)
    (ap₂ words
    (get_or-set_other t' (2 * i + 1) (2 * i) b 0 (λ q. omega arith) ∙ get_or-set_same t (2 * i) a 0 (omega arith))
    (get_or-set_same t' (2 * i + 1) b 0 (lt-length-set t (2 * i) a (omega arith)))
    ∙ e)
