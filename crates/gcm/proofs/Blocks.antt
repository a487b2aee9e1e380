-- Laws of counter blocks, and of the loop that writes block by block. Assumes nothing.
use Rattle.std.proofs.Common.{◌≡◌, ℕ, ◌+◌, ◌-◌, ◌*◌, ◌%◌, ◌^◌, ◌<◌, ◌≤◌, min, Bool, true, false, ltb, List, ◌++◌, length, take, drop, sym, refl, ap, ◌∙◌, ap₂, append_assoc, append-nil, add-zero, add-one, arith, length-append, length-drop, drop_of_length-le, take_all, drop-drop, take_at, drop_at, ltb-false, ltb-true}
use borrow.Rule.Slice.PartMut.{put_mid}
use lib.Seq.{drop-append-add, take-append_seam}
use Rattle.octets.specs.Octets.{part, put, bytes}
use Rattle.octets.proofs.Laws.{put_front, length_put}
use Rattle.octets.proofs.Lent.{put_part}
use Rattle.octets.proofs.Numbers.{number_right, number_bytes}
use Rattle.gcm.specs.Gcm.{inc32, CB, add_bytes, GCTRᵢ, J0}
use Rattle.gcm.proofs.Counter.{length_before, length_within, length_added}

-- ---- counter blocks

-- the last four bytes of a block written anew
pub last_four : (X w b : List ℕ) → length X ≡ 16 → length w ≡ 4 → b ≡ put (part X 12 4) 0 w → put_mid 12 4 X b ≡ take 12 X ++ w
unfolding put
last_four X w b long four e =
    ap (put_mid 12 4 X) e ∙ put_part 12 4 0 X w (omega arith) (omega arith)
    ∙ ap (λ (l : List ℕ). take 12 X ++ (w ++ l)) (drop_of_length-le X {i = 12 + 0 + length w} (omega arith)) ∙ ap (λ (l : List ℕ). take 12 X ++ l) (append-nil w)

-- a nonce written over zeros, and four bytes behind it
pub counter_made : (zeros nonce w a b : List ℕ) → length zeros ≡ 16 → length nonce ≡ 12 → length w ≡ 4
    → a ≡ put zeros 0 nonce → b ≡ put (part a 12 4) 0 w → put_mid 12 4 a b ≡ nonce ++ w
counter_made zeros nonce w a b long twelve four ha hb =
    let la : length a ≡ 16 = ap length ha ∙ length_put zeros 0 nonce (omega arith) ∙ long in
    last_four a w b la four hb ∙ ap (λ (l : List ℕ). l ++ w) (ap (take 12) (ha ∙ put_front zeros nonce) ∙ take_at nonce (drop (length nonce) zeros) 12 twelve)

module _ (IV : List ℕ) (twelve : length IV ≡ 12) where
  pub J0_count : J0 IV ≡ IV ++ bytes 4 1
  unfolding J0 bytes
  J0_count = refl

  pub inc32_J0 : inc32 (J0 IV) ≡ IV ++ bytes 4 2
  unfolding inc32
  inc32_J0 =
      ap inc32 J0_count
      ∙ ap₂ (λ (l : List ℕ) (k : ℕ). l ++ bytes 4 ((k + 1) % 2 ^ 32)) (take_at IV (bytes 4 1) 12 twelve) (number_right IV (bytes 4 1) 12 4 twelve ∙ number_bytes 4 1 (omega arith))

-- ---- the loop

-- the part of a text that a turn takes is the text's next block
pub cut_block : (X : List ℕ) (at end : ℕ) → at ≤ length X → end ≡ min (at + 16) (length X) → take (end - at) (drop at X) ≡ part X at 16
unfolding part
cut_block X at end h e = go (ltb (at + 16) (length X)) refl
  where
    go : (t : Bool) → ltb (at + 16) (length X) ≡ t → take (end - at) (drop at X) ≡ take 16 (drop at X)
    go true l =
        let full : end - at ≡ 16 = omega (arith, ltb-true (at + 16) (length X) l) in
        ap (λ (n : ℕ). take n (drop at X)) full
    go false l =
        let short : length X ≤ at + 16 = ltb-false (at + 16) (length X) l in
        take_all (end - at) (drop at X) (rw length-drop (omega arith)) ∙ sym (take_all 16 (drop at X) (rw length-drop (omega arith)))

-- what chunks of 16 gives next, of the text from block i on, and what it leaves
pub next_block : (X rest b r : List ℕ) (i : ℕ) → rest ≡ drop (min (16 * i) (length X)) X → rest ≡ b ++ r → length b ≡ min 16 (length rest) → 0 < length rest
    → (16 * i < length X) × (b ≡ part X (16 * i) 16) × (r ≡ drop (min (16 * (i + 1)) (length X)) X)
next_block X rest b r i h e long some =
    let at = min (16 * i) (length X) in
    let left : length rest ≡ length X - at = ap length h ∙ length-drop at X in
    let below : 16 * i < length X = omega arith in
    let here : at ≡ 16 * i = omega arith in
    let end : at + length b ≡ min (at + 16) (length X) = omega arith in
    let cut : length b ≡ at + length b - at = omega arith in
    let later : at + length b ≡ min (16 * (i + 1)) (length X) = omega arith in (
      below,
      sym (take_at b r (length b) refl) ∙ ap (take (length b)) (sym e ∙ h) ∙ ap (λ (n : ℕ). take n (drop at X)) cut ∙ cut_block X at (at + length b) (omega arith) end ∙ ap (λ (n : ℕ). part X n 16) here,
      sym (drop_at b r (length b) refl) ∙ ap (drop (length b)) (sym e ∙ h) ∙ drop-drop (length b) at X ∙ ap (λ (n : ℕ). drop n X) later,
    )

-- bytes put behind those that were put at the front
put_on : (d A B : List ℕ) (n : ℕ) → n ≡ length A → length A + length B ≤ length d → put (put d 0 A) n B ≡ put d 0 (A ++ B)
unfolding put
put_on d A B n e h =
    ap₂ (λ (m : ℕ) (t : List ℕ). take m t ++ (B ++ drop (m + length B) t)) e (put_front d A)
    ∙ rw (take-append_seam, drop-append-add, drop-drop)
    (sym (put_front d (A ++ B) ∙ ap (λ (m : ℕ). A ++ B ++ drop m d) (length-append A B) ∙ append_assoc A B (drop (length A + length B) d)))

-- a turn: block i is written behind the first i
pub write_more : (CIPH : List ℕ → List ℕ) (ICB X d t b s : List ℕ) (i at n : ℕ) → at ≡ 16 * i → at < length X → length X ≤ length d → n ≡ length t - at
    → t ≡ put d 0 (GCTRᵢ CIPH ICB X i) → s ≡ CIPH (CB ICB i) → b ≡ put (part t at n) 0 (add_bytes (part X at 16) s) → put_mid at n t b ≡ put d 0 (GCTRᵢ CIPH ICB X (i + 1))
unfolding GCTRᵢ
write_more CIPH ICB X d t b s i at n ha h fits hn ht hs hb =
    let A : List ℕ = GCTRᵢ CIPH ICB X i in
    let B : List ℕ = add_bytes (part X (16 * i) 16) (CIPH (CB ICB i)) in
    let la : length A ≡ 16 * i = length_before CIPH ICB X i (omega arith) in
    let lb : length B ≤ length X - 16 * i = length_added X (CIPH (CB ICB i)) (16 * i) in
    let lt : length t ≡ length d = ap length ht ∙ length_put d 0 A (omega arith) in
    let same : add_bytes (part X at 16) s ≡ B = ap₂ (λ (p : ℕ) (k : List ℕ). add_bytes (part X p 16) k) ha hs in
    ap (put_mid at n t) (hb ∙ ap (put (part t at n) 0) same) ∙ put_part at n 0 t B (omega arith) (omega arith)
    ∙ ap₂ (λ (m : ℕ) (l : List ℕ). put l m B) (add-zero at ∙ ha) ht ∙ put_on d A B (16 * i) (sym la) (omega arith)
    ∙ ap (λ (k : ℕ). put d 0 (GCTRᵢ CIPH ICB X k)) (sym (add-one i))

pub write_none : (CIPH : List ℕ → List ℕ) (ICB X d : List ℕ) → d ≡ put d 0 (GCTRᵢ CIPH ICB X 0)
unfolding GCTRᵢ put
write_none CIPH ICB X d = refl

pub next_CB : (ICB a b : List ℕ) (i : ℕ) → a ≡ CB ICB i → b ≡ inc32 a → b ≡ CB ICB (i + 1)
unfolding CB
next_CB ICB a b i ha hb = rw add-one (cc)

pub length_written : (CIPH : List ℕ → List ℕ) (ICB X d : List ℕ) (n : ℕ) → 16 * n ≤ length X + 15 → length X ≤ length d → length (put d 0 (GCTRᵢ CIPH ICB X n)) ≡ length d
length_written CIPH ICB X d n h fits = length_put d 0 (GCTRᵢ CIPH ICB X n) (omega (arith, length_within CIPH ICB X n h))
