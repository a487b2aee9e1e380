-- Laws of counter mode: each byte of `GCTR`, its length, and that it undoes itself. Assumes nothing.
use Rattle.std.proofs.Common.{◌≡◌, ℕ, zero, suc, ◌+◌, ◌-◌, ◌*◌, ◌/◌, ◌%◌, ◌<◌, ◌≤◌, Bool, true, false, ltb, List, length, get_or, refl, ap, ◌∙◌, ap₂, div-add-mod', arith, lit<, length-append, length-drop, length-take, get_or-append-add, ext_get_or, ltb-false, ltb-true}
use lib.Arith.{bin_ind, digits_mod}
use lib.Bits.{bit_xor, differ, xor_step, xor_self, xor_shr}
use lib.ListN.{get_or-append}
use Rattle.octets.specs.Octets.{part, ◌⊕◌}
use Rattle.octets.specs.Table.{table}
use Rattle.octets.proofs.Laws.{get_or_part}
use Rattle.octets.proofs.Tables.{length_table, get_or_table, is_table}
use Rattle.ghash.specs.Input.{blocks}
use Rattle.gcm.specs.Gcm.{CB, add_bytes, GCTRᵢ, GCTR}

-- ---- adding a number twice

bits : (x y : ℕ) → x < 2 → y < 2 → (differ x y < 2) × (differ (differ x y) y ≡ x)
bits zero zero h k = (lit< tt, refl)
bits zero (suc zero) h k = (lit< tt, refl)
bits zero (suc (suc y)) h k = absurd (omega arith)
bits (suc zero) zero h k = (lit< tt, refl)
bits (suc zero) (suc zero) h k = (lit< tt, refl)
bits (suc zero) (suc (suc y)) h k = absurd (omega arith)
bits (suc (suc x)) y h k = absurd (omega arith)

low_bit : (n b : ℕ) → differ (bit_xor n b % 2) (b % 2) ≡ n % 2
low_bit n b =
    let both = bits (n % 2) (b % 2) (omega arith) (omega arith) in
    ap (λ (x : ℕ). differ (x % 2) (b % 2)) (xor_step n b)
    ∙ ap (λ (x : ℕ). differ x (b % 2)) (digits_mod (bit_xor (n / 2) (b / 2)) both.0) ∙ both.1

add_twice : (a b : ℕ) → (a ⊕ b) ⊕ b ≡ a
add_twice =
    bin_ind (λ (n : ℕ). (b : ℕ) → bit_xor (bit_xor n b) b ≡ n) xor_self
    (λ n ih b.
    xor_step (bit_xor n b) b
    ∙ ap₂ (λ (x y : ℕ). x * 2 + y) (ap (λ (x : ℕ). bit_xor x (b / 2)) (xor_shr n b 1) ∙ ih (b / 2)) (low_bit n b)
    ∙ div-add-mod' n 2)

-- ---- the bytes of GCTR

pub length_add_bytes : (X S : List ℕ) → length (add_bytes X S) ≡ length X
unfolding add_bytes
length_add_bytes X S = length_table (length X) _

pub get_or_add_bytes : (X S : List ℕ) (i : ℕ) → i < length X → get_or (add_bytes X S) i 0 ≡ get_or X i 0 ⊕ get_or S i 0
unfolding add_bytes
get_or_add_bytes X S i h = get_or_table (length X) (λ i. get_or X i 0 ⊕ get_or S i 0) i h

pub length_added : (X S : List ℕ) (at : ℕ) → length (add_bytes (part X at 16) S) ≤ length X - at
unfolding part
length_added X S at = rw length_add_bytes (simp (length-take, length-drop) (omega arith))

-- byte j of the key stream
abbrev pub stream : (List ℕ → List ℕ) → List ℕ → ℕ → ℕ
stream CIPH ICB j = get_or (CIPH (CB ICB (j / 16))) (j % 16) 0

module _ (CIPH : List ℕ → List ℕ) (ICB X : List ℕ) where
  length_blocks : (n : ℕ) → 16 * n ≤ length X + 15 → (16 * n ≤ length X → length (GCTRᵢ CIPH ICB X n) ≡ 16 * n) × (length X ≤ 16 * n → length (GCTRᵢ CIPH ICB X n) ≡ length X)
  unfolding GCTRᵢ part
  length_blocks zero h = (λ k. refl, λ k. omega arith)
  length_blocks (suc n) h =
      let before : length (GCTRᵢ CIPH ICB X n) ≡ 16 * n = (length_blocks n (omega arith)).0 (omega arith) in
      (λ k. simp (length-append, length_add_bytes, length-take, length-drop) (omega arith), λ k. simp (length-append, length_add_bytes, length-take, length-drop) (omega arith))

  -- blocks before which some text is left are whole
  pub length_before : (n : ℕ) → 16 * n ≤ length X → length (GCTRᵢ CIPH ICB X n) ≡ 16 * n
  length_before n h = (length_blocks n (omega arith)).0 h

  -- no more bytes than the text has
  pub length_within : (n : ℕ) → 16 * n ≤ length X + 15 → length (GCTRᵢ CIPH ICB X n) ≤ length X
  length_within n h = go (length_blocks n h) (ltb (16 * n) (length X)) refl
    where
      go : (16 * n ≤ length X → length (GCTRᵢ CIPH ICB X n) ≡ 16 * n) × (length X ≤ 16 * n → length (GCTRᵢ CIPH ICB X n) ≡ length X)
          → (t : Bool) → ltb (16 * n) (length X) ≡ t → length (GCTRᵢ CIPH ICB X n) ≤ length X
      go b true e =
          let l : 16 * n < length X = ltb-true (16 * n) (length X) e in
          omega (arith, b.0 (omega arith))
      go b false e = omega (arith, b.1 (ltb-false (16 * n) (length X) e))

  pub length_GCTR : length (GCTR CIPH ICB X) ≡ length X
  unfolding GCTR
  length_GCTR = (length_blocks (blocks (length X)) (omega arith)).1 (omega arith)

  last_block : (n k : ℕ) → k < 16 → 16 * n + k < length X → get_or (add_bytes (part X (16 * n) 16) (CIPH (CB ICB n))) k 0 ≡ get_or X (16 * n + k) 0 ⊕ stream CIPH ICB (16 * n + k)
  unfolding add_bytes part
  last_block n k h l =
      let P : List ℕ = part X (16 * n) 16 in
      let long : k < length P = simp (length-take, length-drop) (omega arith) in
      let d : n ≡ (16 * n + k) / 16 = omega arith in
      let m : k ≡ (16 * n + k) % 16 = omega arith in
      get_or_table (length P) (λ i. get_or P i 0 ⊕ get_or (CIPH (CB ICB n)) i 0) k long
      ∙ ap₂ ◌⊕◌ (get_or_part X (16 * n) 16 k h) (ap₂ (λ (a b : ℕ). get_or (CIPH (CB ICB a)) b 0) d m)

  byte_earlier : (n j : ℕ) → length (GCTRᵢ CIPH ICB X n) ≡ 16 * n → j < 16 * n → get_or (GCTRᵢ CIPH ICB X (suc n)) j 0 ≡ get_or (GCTRᵢ CIPH ICB X n) j 0
  unfolding GCTRᵢ
  byte_earlier n j e h = get_or-append (GCTRᵢ CIPH ICB X n) _ 0 j (omega arith)

  byte_later : (n j k : ℕ) → length (GCTRᵢ CIPH ICB X n) ≡ 16 * n → j ≡ 16 * n + k
      → get_or (GCTRᵢ CIPH ICB X (suc n)) j 0 ≡ get_or (add_bytes (part X (16 * n) 16) (CIPH (CB ICB n))) k 0
  unfolding GCTRᵢ
  byte_later n j k e h =
      let at : j ≡ length (GCTRᵢ CIPH ICB X n) + k = omega arith in
      rw at (get_or-append-add (GCTRᵢ CIPH ICB X n) _ k 0)

  byte_blocks : (n j : ℕ) → 16 * n ≤ length X + 15 → j < 16 * n → j < length X → get_or (GCTRᵢ CIPH ICB X n) j 0 ≡ get_or X j 0 ⊕ stream CIPH ICB j
  byte_blocks zero j h k l = absurd (omega arith)
  byte_blocks (suc n) j h k l = go (λ m. byte_blocks n j (omega arith) m l) ((length_blocks n (omega arith)).0 (omega arith)) (ltb j (16 * n)) refl
    where
      go : (j < 16 * n → get_or (GCTRᵢ CIPH ICB X n) j 0 ≡ get_or X j 0 ⊕ stream CIPH ICB j) → length (GCTRᵢ CIPH ICB X n) ≡ 16 * n
          → (t : Bool) → ltb j (16 * n) ≡ t → get_or (GCTRᵢ CIPH ICB X (suc n)) j 0 ≡ get_or X j 0 ⊕ stream CIPH ICB j
      go earlier before true e = byte_earlier n j before (ltb-true j (16 * n) e) ∙ earlier (ltb-true j (16 * n) e)
      go earlier before false e =
          let nj : 16 * n ≤ j = ltb-false j (16 * n) e in
          let at : 16 * n + (j - 16 * n) ≡ j = omega arith in
          byte_later n j (j - 16 * n) before (omega arith) ∙ last_block n (j - 16 * n) (omega arith) (omega arith)
          ∙ ap (λ (i : ℕ). get_or X i 0 ⊕ stream CIPH ICB i) at

  -- byte j of the result is byte j of X with byte j of the key stream added
  pub get_or_GCTR : (j : ℕ) → j < length X → get_or (GCTR CIPH ICB X) j 0 ≡ get_or X j 0 ⊕ stream CIPH ICB j
  unfolding GCTR
  get_or_GCTR j h = byte_blocks (blocks (length X)) j (omega arith) (omega arith) h

pub GCTR_is : (CIPH : List ℕ → List ℕ) (ICB X : List ℕ) → GCTR CIPH ICB X ≡ table (length X) (λ j. get_or X j 0 ⊕ stream CIPH ICB j)
GCTR_is CIPH ICB X = is_table (length X) _ (GCTR CIPH ICB X) (length_GCTR CIPH ICB X) (get_or_GCTR CIPH ICB X)

pub GCTR_twice : (CIPH : List ℕ → List ℕ) (ICB X : List ℕ) → GCTR CIPH ICB (GCTR CIPH ICB X) ≡ X
GCTR_twice CIPH ICB X =
    let Y : List ℕ = GCTR CIPH ICB X in
    let long : length Y ≡ length X = length_GCTR CIPH ICB X in
    ext_get_or 0 (GCTR CIPH ICB Y) X (length_GCTR CIPH ICB Y ∙ long)
    (λ j h.
    let k : j < length X = omega (arith, length_GCTR CIPH ICB Y) in
    get_or_GCTR CIPH ICB Y j (omega arith) ∙ ap (λ (b : ℕ). b ⊕ stream CIPH ICB j) (get_or_GCTR CIPH ICB X j k) ∙ add_twice (get_or X j 0) (stream CIPH ICB j))
