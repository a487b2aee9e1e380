-- Laws of GHASH: zeros behind the end change no block, and a string in two parts is hashed part by part. Assumes nothing.
use Rattle.std.proofs.Common.{◌≡◌, refl, sym, ap, ap₂, ◌∙◌, List, [], ◌∷◌, ◌++◌, ℕ, zero, suc, ◌+◌, ◌-◌, ◌*◌, ◌/◌, ◌^◌, ◌<◌, length, min, get_or, replicate, length-append, append-nil, arith}
use native.Mathlib.Nat.{add-zero, add-suc}
use lib.ListN.{length-replicate, get_or-append}
use lib.Seq.{get_or-append-add}
use lib.Bits.{bit_xor}
use Rattle.octets.specs.Octets.{number}
use Rattle.octets.proofs.Numbers.{number_ext, length_bytes}
use Rattle.ghash.specs.Steps.{words}
use Rattle.ghash.specs.Ghash.{Yᵢ, hashed, GHASH, ◌•◌}
use Rattle.ghash.specs.Input.{blocks, padded, lengths, hash_input}
use Rattle.ghash.proofs.Words.{number_words}

pub get_or_zeros : (s : List ℕ) (k i : ℕ) → get_or (s ++ replicate k 0) i 0 ≡ get_or s i 0
get_or_zeros [] zero i = refl
get_or_zeros [] (suc k) zero = refl
get_or_zeros [] (suc k) (suc i) = get_or_zeros [] k i
get_or_zeros (x ∷ s) k zero = refl
get_or_zeros (x ∷ s) k (suc i) = get_or_zeros s k i

pub length_padded : (s : List ℕ) → length (padded s) ≡ 16 * blocks (length s)
unfolding padded
length_padded s = simp (length-append, length-replicate) (omega arith)

Y_ext : (H y : ℕ) (s t : List ℕ) (n : ℕ) → ((i : ℕ) → i < 16 * n → get_or s i 0 ≡ get_or t i 0) → Yᵢ H y s n ≡ Yᵢ H y t n
unfolding Yᵢ
Y_ext H y s t zero h = refl
Y_ext H y s t (suc n) h =
    ap₂ (λ (p q : ℕ). bit_xor p q • H) (Y_ext H y s t n (λ i l. h i (omega arith))) (number_ext s t (16 * n) (16 * n) 16 (λ i l. h (16 * n + i) (omega arith)))

-- the blocks of s, the last with zeros for what it lacks, are those of `padded s`
pub Y_padded : (H y : ℕ) (s : List ℕ) → Yᵢ H y s (blocks (length s)) ≡ hashed H y (padded s)
unfolding hashed padded
Y_padded H y s =
    Y_ext H y s (padded s) (blocks (length s)) (λ i l. sym (get_or_zeros s (16 * blocks (length s) - length s) i))
    ∙ ap (Yᵢ H y (padded s)) (let e : blocks (length s) ≡ length (padded s) / 16 = omega (arith, length_padded s) in e)

Y_append : (H y : ℕ) (A B : List ℕ) (m n : ℕ) → length A ≡ 16 * m → Yᵢ H y (A ++ B) (m + n) ≡ Yᵢ H (Yᵢ H y A m) B n
unfolding Yᵢ
Y_append H y A B m zero e = ap (Yᵢ H y (A ++ B)) (add-zero m) ∙ Y_ext H y (A ++ B) A m (λ i l. get_or-append A B 0 i (omega arith))
Y_append H y A B m (suc n) e =
    ap (Yᵢ H y (A ++ B)) (add-suc m n)
    ∙ ap₂ (λ (p q : ℕ). bit_xor p q • H) (Y_append H y A B m n e)
    (number_ext (A ++ B) B (16 * (m + n)) (16 * n) 16
    (λ i l. ap (λ (k : ℕ). get_or (A ++ B) k 0) (let o : 16 * (m + n) + i ≡ length A + (16 * n + i) = omega arith in o) ∙ get_or-append-add A B (16 * n + i) 0))

-- the first block, of 16 bytes or of all that there are, and those behind it
pub Y_chunk : (H y : ℕ) (b r : List ℕ) → 0 < length (b ++ r) → length b ≡ min 16 (length (b ++ r))
    → Yᵢ H y (b ++ r) (blocks (length (b ++ r))) ≡ Yᵢ H (bit_xor y (number b 0 16) • H) r (blocks (length r))
unfolding Yᵢ
Y_chunk H y b [] h m =
    let long = length-append b [] in
    let one : blocks (length (b ++ [])) ≡ 1 = omega arith in
    ap₂ (Yᵢ H y) (append-nil b) one
Y_chunk H y b (x ∷ r) h m =
    let long = length-append b (x ∷ r) in
    let sixteen : length b ≡ 16 = omega arith in
    let more : blocks (length (b ++ x ∷ r)) ≡ 1 + blocks (length (x ∷ r)) = omega arith in
    ap (Yᵢ H y (b ++ x ∷ r)) more ∙ Y_append H y b (x ∷ r) 1 (blocks (length (x ∷ r))) sixteen

pub hashed_append : (H y : ℕ) (A B : List ℕ) (m : ℕ) → length A ≡ 16 * m → hashed H y (A ++ B) ≡ hashed H (hashed H y A) B
unfolding hashed
hashed_append H y A B m e =
    let all : length (A ++ B) / 16 ≡ m + length B / 16 = omega (arith, length-append A B) in
    let first : m ≡ length A / 16 = omega arith in
    ap (Yᵢ H y (A ++ B)) all ∙ Y_append H y A B m (length B / 16) e ∙ ap (λ (k : ℕ). Yᵢ H (Yᵢ H y A k) B (length B / 16)) first

hashed_one : (H y : ℕ) (L : List ℕ) → length L ≡ 16 → hashed H y L ≡ bit_xor y (number L 0 16) • H
unfolding hashed Yᵢ
hashed_one H y L e = ap (λ (k : ℕ). Yᵢ H y L (k / 16)) e

-- the hash for a tag: A, then C, then a block of their lengths
pub GHASH_input : (H : ℕ) (A C : List ℕ) → 8 * length A < 2 ^ 64 → 8 * length C < 2 ^ 64
    → GHASH H (hash_input A C) ≡ bit_xor (hashed H (hashed H 0 (padded A)) (padded C)) (words (8 * length A) (8 * length C)) • H
unfolding GHASH hash_input lengths
GHASH_input H A C ha hc =
    let sixteen : length (lengths A C) ≡ 16 = simp (length-append, length_bytes) in
    hashed_append H 0 (padded A) (padded C ++ lengths A C) (blocks (length A)) (length_padded A)
    ∙ hashed_append H (hashed H 0 (padded A)) (padded C) (lengths A C) (blocks (length C)) (length_padded C)
    ∙ hashed_one H (hashed H (hashed H 0 (padded A)) (padded C)) (lengths A C) sixteen
    ∙ ap (λ (k : ℕ). bit_xor (hashed H (hashed H 0 (padded A)) (padded C)) k • H) (number_words (8 * length A) (8 * length C) ha hc)
