-- A page that holds records and is blank behind them. Assumes nothing.
use Prim.Native.Nat.{ℕ, zero, suc, ◌+◌, ◌-◌, ◌*◌, ◌^◌, ◌≤◌, ◌<◌}
use mathlib.Core.Path.{◌≡◌, refl, sym, ap, ◌∙◌}
use mathlib.Core.Bool.{Bool, true, false, ◌||◌}
use mathlib.Core.List.{List, [], ◌∷◌, ◌++◌, append_assoc, append-nil}
use mathlib.Core.List.Memᴰ
use mathlib.Core.List.{Memᴰ}
use mathlib.Core.Logic.{◌⊎◌, inl, inr}
use native.Mathlib.Nat.{suc-add, zero-add, add-zero}
use native.Mathlib.Omega.{arith}
use lib.ListN.{length, take, drop, length-append}
use lib.Dec.{eqb, ltb}
use lib.Seq.{take_at, drop_at, take-append-le}
use borrow.Author.Tests.{lt-ltb, ltb-true, eq-eqb}
use Rattle.octets.specs.Limits.{slot_length, nonce_length}
use Rattle.octets.specs.Octets.{part, put, same, blank, erased, number}
use Rattle.octets.specs.Word.{word_at, kind_of, value_of, word}
use Rattle.octets.proofs.Laws.{part_append_right, blank_append, erased_split, blank_erased, blank_part, is_erased, and-true}
use Rattle.octets.proofs.Numbers.{length_word, word_front, word_behind, kind_is, value_is}
use Rattle.ring.specs.Ring.{is_record, half_named, record_of, records, filled, nonce_in}

abbrev pub concat : List (List ℕ) → List ℕ
concat [] = []
concat (r ∷ rs) = r ++ concat rs

abbrev pub any : (List ℕ → Bool) → List (List ℕ) → Bool
any f [] = false
any f (r ∷ rs) = f r || any f rs

abbrev pub last : List (List ℕ) → List ℕ
last [] = []
last (r ∷ []) = r
last (r ∷ q ∷ rs) = last (q ∷ rs)

abbrev pub Records : List (List ℕ) → Type 0
Records recs = (r : List ℕ) → Memᴰ r recs → (length r ≡ slot_length) × (is_record r ≡ true)

abbrev pub page_with : ℕ → List (List ℕ) → List ℕ
page_with slots recs = concat recs ++ erased (slot_length * (slots - length recs))

front : (r : List ℕ) (rs : List (List ℕ)) → Records (r ∷ rs) → (length r ≡ slot_length) × (is_record r ≡ true)
front r rs a = a r (Memᴰ.head refl)

behind : (r : List ℕ) (rs : List (List ℕ)) → Records (r ∷ rs) → Records rs
behind r rs a q m = a q (Memᴰ.tail m)

pub no_record : Records []
no_record r m = absurd (Memᴰ.not-nil m)

pub one_more : (base : List (List ℕ)) (r : List ℕ) → Records base → length r ≡ slot_length → is_record r ≡ true → Records (base ++ r ∷ [])
one_more base r a l i q m = go (Memᴰ.append_cases base m)
  where
    go : Memᴰ q base ⊎ Memᴰ q (r ∷ []) → (length q ≡ slot_length) × (is_record q ≡ true)
    go (inl b) = a q b
    go (inr b) = rw (Memᴰ.eq_of_singleton b) (l, i)

-- ---- the record of a nonce and a half

module _ (nonce : List ℕ) (half : ℕ) (l : length nonce ≡ nonce_length) where
  pub length_record : length (record_of nonce half) ≡ slot_length
  unfolding record_of
  length_record = simp (length-append, length_word) (omega arith)

  pub nonce_of_record : take nonce_length (record_of nonce half) ≡ nonce
  unfolding record_of
  nonce_of_record = take_at nonce (word 1 half) nonce_length l

  place_is : half < 2 → word_at (record_of nonce half) nonce_length ≡ 1 * 2 ^ 30 + half
  unfolding record_of
  place_is b =
      word_behind nonce (word 1 half) nonce_length 0 l ∙ ap (λ (w : List ℕ). word_at w 0) (sym (append-nil (word 1 half)))
      ∙ word_front 1 half [] (omega arith) (omega arith)

  pub half_named_of : half < 2 → half_named (record_of nonce half) ≡ half
  unfolding half_named
  half_named_of b = rw (place_is b) (value_is 1 half (omega arith))

  pub is_record_of : half < 2 → is_record (record_of nonce half) ≡ true
  unfolding is_record
  is_record_of b = rw (place_is b, kind_is 1 half (omega arith), value_is 1 half (omega arith), lt-ltb half 2)

-- a record names a half
pub half_fits : (r : List ℕ) → is_record r ≡ true → half_named r < 2
unfolding is_record half_named
half_fits r i =
    let place : ℕ = word_at r nonce_length in
    ltb-true (value_of place) 2 (and-true (eqb (kind_of place) 1) (ltb (value_of place) 2) i).1

-- ---- records in a row

module _ (r : List ℕ) (rs : List (List ℕ)) (rest : List ℕ) (l : length r ≡ slot_length) where
  take_first : take slot_length (concat (r ∷ rs) ++ rest) ≡ r
  take_first = rw append_assoc (take_at r (concat rs ++ rest) slot_length l)

  drop_first : drop slot_length (concat (r ∷ rs) ++ rest) ≡ concat rs ++ rest
  drop_first = rw append_assoc (drop_at r (concat rs ++ rest) slot_length l)

  nonce_first : take nonce_length (concat (r ∷ rs) ++ rest) ≡ take nonce_length r
  nonce_first = rw append_assoc (take-append-le nonce_length r (concat rs ++ rest) (omega arith))

pub length_concat : (recs : List (List ℕ)) → Records recs → length (concat recs) ≡ slot_length * length recs
length_concat [] a = refl
length_concat (r ∷ rs) a = omega (arith, length-append r (concat rs), (front r rs a).0, length_concat rs (behind r rs a))

pub concat_append : (xs ys : List (List ℕ)) → concat (xs ++ ys) ≡ concat xs ++ concat ys
concat_append [] ys = refl
concat_append (x ∷ xs) ys = ap (λ t. x ++ t) (concat_append xs ys) ∙ sym (append_assoc x (concat xs) (concat ys))

-- a record is not blank
pub record_used : (r : List ℕ) → length r ≡ slot_length → is_record r ≡ true → blank r ≡ false
unfolding is_record word_at number kind_of value_of
record_used r l i = go (blank r) refl
  where
    go : (t : Bool) → blank r ≡ t → t ≡ false
    go true b =
        let e : r ≡ erased slot_length = is_erased r b ∙ ap erased l in
        sym i ∙ ap is_record e
    go false b = refl

records_of : (recs : List (List ℕ)) (rest : List ℕ) (k : ℕ) → Records recs
    → records (concat recs ++ rest) (length recs + k) ≡ length recs + records rest k
unfolding records
records_of [] rest k a = rw (zero-add k, zero-add)
records_of (r ∷ rs) rest k a =
    let f : (length r ≡ slot_length) × (is_record r ≡ true) = front r rs a in
    rw (suc-add (length rs) k, take_first r rs rest f.0, drop_first r rs rest f.0, f.1, records_of rs rest k (behind r rs a)) (omega arith)

no_records : (k : ℕ) → records (erased (slot_length * k)) k ≡ 0
unfolding records is_record word_at number kind_of value_of
no_records zero = refl
no_records (suc k) = rw (erased_split (slot_length * suc k) slot_length (slot_length * k) (omega arith))

used_front : (recs : List (List ℕ)) (rest : List ℕ) → Records recs → 0 < length recs → blank (concat recs ++ rest) ≡ false
used_front [] rest a z = absurd (omega arith)
used_front (r ∷ rs) rest a z =
    let f : (length r ≡ slot_length) × (is_record r ≡ true) = front r rs a in
    rw (append_assoc, blank_append, record_used r f.0 f.1)

nonce_of : (nonce : List ℕ) (recs : List (List ℕ)) (rest : List ℕ) → Records recs
    → nonce_in nonce (concat recs ++ rest) (length recs) ≡ any (λ r. same (take nonce_length r) nonce) recs
unfolding nonce_in
nonce_of nonce [] rest a = refl
nonce_of nonce (r ∷ rs) rest a =
    let l : length r ≡ slot_length = (front r rs a).0 in
    rw (nonce_first r rs rest l, drop_first r rs rest l, nonce_of nonce rs rest (behind r rs a))

last_of : (recs : List (List ℕ)) (rest : List ℕ) (s : ℕ) → Records recs → length recs ≡ suc s → part (concat recs ++ rest) (slot_length * s) slot_length ≡ last recs
unfolding part
last_of [] rest s a e = absurd (omega arith)
last_of (r ∷ []) rest s a e =
    let z : slot_length * s ≡ 0 = omega arith in
    rw z (take_first r [] rest (front r [] a).0)
last_of (r ∷ q ∷ rs) rest s a e =
    rw append_assoc (part_append_right r (concat (q ∷ rs) ++ rest) (slot_length * s) slot_length (slot_length * (s - 1)) (omega (arith, (front r (q ∷ rs) a).0))
    ∙ last_of (q ∷ rs) rest (s - 1) (behind r (q ∷ rs) a) (omega arith))

module _ (slots : ℕ) (recs : List (List ℕ)) (a : Records recs) where
  pub records_with : length recs ≤ slots → records (page_with slots recs) slots ≡ length recs
  records_with f =
      let k : ℕ = slots - length recs in
      let e : slots ≡ length recs + k = omega arith in
      ap (records (page_with slots recs)) e ∙ records_of recs (erased (slot_length * k)) k a ∙ rw (no_records, add-zero)

  pub filled_with : 0 < length recs → length recs ≤ slots → filled (page_with slots recs) slots (length recs) ≡ true
  unfolding filled
  filled_with z f =
      let E : List ℕ = erased (slot_length * (slots - length recs)) in
      rw (
        lt-ltb 0 (length recs) z,
        eq-eqb (records (page_with slots recs) slots) (length recs) (records_with f),
        drop_at (concat recs) E (slot_length * length recs) (length_concat recs a),
      ) (blank_erased (slot_length * (slots - length recs)))

  pub used_with : 0 < length recs → blank (page_with slots recs) ≡ false
  used_with z = used_front recs (erased (slot_length * (slots - length recs))) a z

  pub nonce_with : (nonce : List ℕ) → nonce_in nonce (page_with slots recs) (length recs) ≡ any (λ r. same (take nonce_length r) nonce) recs
  nonce_with nonce = nonce_of nonce recs (erased (slot_length * (slots - length recs))) a

  pub last_with : (s : ℕ) → length recs ≡ suc s → part (page_with slots recs) (slot_length * s) slot_length ≡ last recs
  last_with s e = last_of recs (erased (slot_length * (slots - length recs))) s a e

  pub next_with : blank (part (page_with slots recs) (slot_length * length recs) slot_length) ≡ true
  next_with =
      let E : List ℕ = erased (slot_length * (slots - length recs)) in
      ap blank (part_append_right (concat recs) E (slot_length * length recs) slot_length 0 (omega (arith, length_concat recs a)))
      ∙ blank_part E 0 slot_length (blank_erased (slot_length * (slots - length recs)))

  pub put_with : (r : List ℕ) → length r ≡ slot_length → length recs < slots → put (page_with slots recs) (slot_length * length recs) r ≡ page_with slots (recs ++ r ∷ [])
  unfolding put
  put_with r l f =
      let A : List ℕ = concat recs in
      let n : ℕ = length recs in
      let m : ℕ = slot_length * (slots - length (recs ++ r ∷ [])) in
      let s : erased (slot_length * (slots - n)) ≡ erased slot_length ++ erased m = erased_split (slot_length * (slots - n)) slot_length m (omega (arith, length-append recs (r ∷ []))) in
      let t : take (slot_length * n) (page_with slots recs) ≡ A = take_at A (erased (slot_length * (slots - n))) (slot_length * n) (length_concat recs a) in
      let d : drop (slot_length * n + length r) (page_with slots recs) ≡ erased m =
      rw (s, ← append_assoc) (drop_at (A ++ erased slot_length) (erased m) (slot_length * n + length r) (omega (arith, length-append A (erased slot_length), length_concat recs a))) in
      let c : concat (recs ++ r ∷ []) ≡ A ++ r = concat_append recs (r ∷ []) ∙ ap (λ x. A ++ x) (append-nil r) in
      rw (t, d, c, append_assoc)
