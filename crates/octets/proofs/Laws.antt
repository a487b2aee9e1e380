-- Laws of parts, of bytes put over others, of equal strings and of blank ones. Assumes nothing.
use Prim.Native.Nat.{ℕ, zero, suc, ◌+◌, ◌-◌, ◌≤◌, ◌<◌}
use mathlib.Core.Path.{◌≡◌, refl, sym, ap, subst, ◌∙◌}
use mathlib.Core.Bool.{Bool, true, false, ◌&&◌}
use mathlib.Core.Logic.{◌⊎◌, inl, inr}
use mathlib.Core.List.{List, [], ◌∷◌, ◌++◌, append_assoc}
use native.Mathlib.Nat.{suc-add, zero-add, add_assoc}
use native.Mathlib.Omega.{arith}
use native.Mathlib.Numerals.{add-one}
use lib.ListN.{length, take, drop, get_or, length-append, length-take, length-drop, take-append-drop, drop_of_length-le, get_or-append, replicate-append-replicate}
use lib.Dec.{eqb, ltb}
use lib.Seq.{take-append-le, drop-append-le, drop-append-add, take-append-add, take-take, drop-drop, drop-cons, take_all, take-nil, length-take-le, get_or-take, get_or-drop, get_or-append-add, ext_get_or}
use borrow.Author.Tests.{eqb-true, eq-eqb, ne_eqb, ltb-true, ltb-false}
use Rattle.octets.specs.Octets.{part, put, same, blank, erased}

-- ---- parts

pub drop_take : (j k : ℕ) (xs : List ℕ) → drop j (take (j + k) xs) ≡ take k (drop j xs)
drop_take zero k xs = rw zero-add
drop_take (suc j) k [] = rw (take-nil (suc j + k), take-nil)
drop_take (suc j) k (x ∷ xs) = rw suc-add (drop_take j k xs)

pub part_append_left : (a b : List ℕ) (j n : ℕ) → j + n ≤ length a → part (a ++ b) j n ≡ part a j n
unfolding part
part_append_left a b j n h =
    ap (take n) (drop-append-le j a b (omega arith)) ∙ take-append-le n (drop j a) b (rw length-drop (omega arith))

pub part_append_right : (a b : List ℕ) (j n k : ℕ) → j ≡ length a + k → part (a ++ b) j n ≡ part b k n
unfolding part
part_append_right a b j n k e = rw e (ap (take n) (drop-append-add a b k))

pub part_take : (xs : List ℕ) (m j n : ℕ) → j + n ≤ m → part (take m xs) j n ≡ part xs j n
unfolding part
part_take xs m j n h =
    let e : m ≡ j + (m - j) = omega arith in
    rw e (ap (take n) (drop_take j (m - j) xs) ∙ take-take n (m - j) (drop j xs) (omega arith))

pub part_drop : (xs : List ℕ) (i j n : ℕ) → part (drop i xs) j n ≡ part xs (i + j) n
unfolding part
part_drop xs i j n = ap (take n) (drop-drop j i xs)

pub part_part : (xs : List ℕ) (i n k m : ℕ) → k + m ≤ n → part (part xs i n) k m ≡ part xs (i + k) m
unfolding part
part_part xs i n k m h = part_take (drop i xs) n k m h ∙ part_drop xs i k m

pub part_whole : (ys : List ℕ) (n : ℕ) → length ys ≡ n → part ys 0 n ≡ ys
unfolding part
part_whole ys n e = take_all n ys (omega arith)

pub length_part : (xs : List ℕ) (i n : ℕ) → i + n ≤ length xs → length (part xs i n) ≡ n
unfolding part
length_part xs i n h = simp (length-take, length-drop) (omega arith)

pub get_or_part : (xs : List ℕ) (i n k : ℕ) → k < n → get_or (part xs i n) k 0 ≡ get_or xs (i + k) 0
unfolding part
get_or_part xs i n k h = rw (get_or-take, get_or-drop)

-- ---- bytes put over others

pub length_put : (xs : List ℕ) (i : ℕ) (ys : List ℕ) → i + length ys ≤ length xs → length (put xs i ys) ≡ length xs
unfolding put
length_put xs i ys h = simp (length-append, length-take, length-drop) (omega arith)

-- what is put at the front, and what is left behind it
pub put_front : (xs ys : List ℕ) → put xs 0 ys ≡ ys ++ drop (length ys) xs
unfolding put
put_front xs ys = rw zero-add

module _ (xs : List ℕ) (i : ℕ) (ys : List ℕ) (fits : i + length ys ≤ length xs) where
  put_split : put xs i ys ≡ (take i xs ++ ys) ++ drop (i + length ys) xs
  unfolding put
  put_split = sym (append_assoc (take i xs) ys (drop (i + length ys) xs))

  length_front : length (take i xs ++ ys) ≡ i + length ys
  length_front = simp (length-append, length-take) (omega arith)

  -- a part before the bytes, behind them, and the bytes themselves
  pub part_put_before : (j n : ℕ) → j + n ≤ i → part (put xs i ys) j n ≡ part xs j n
  unfolding put
  part_put_before j n h =
      part_append_left (take i xs) (ys ++ drop (i + length ys) xs) j n (rw length-take (omega arith)) ∙ part_take xs i j n h

  pub part_put_after : (j n : ℕ) → i + length ys ≤ j → part (put xs i ys) j n ≡ part xs j n
  part_put_after j n h =
      let k : ℕ = j - (i + length ys) in
      let e : i + length ys + k ≡ j = omega arith in
      ap (λ (l : List ℕ). part l j n) put_split
      ∙ part_append_right (take i xs ++ ys) (drop (i + length ys) xs) j n k (omega (arith, length_front))
      ∙ part_drop xs (i + length ys) k n ∙ ap (λ (m : ℕ). part xs m n) e

  pub part_put_same : (n : ℕ) → length ys ≡ n → part (put xs i ys) i n ≡ ys
  unfolding put
  part_put_same n e =
      part_append_right (take i xs) (ys ++ drop (i + length ys) xs) i n 0 (rw length-take (omega arith))
      ∙ part_append_left ys (drop (i + length ys) xs) 0 n (omega arith) ∙ part_whole ys n e

drop_put : (xs : List ℕ) (i k : ℕ) (ys : List ℕ) → i + k ≤ length xs → drop i (put xs (i + k) ys) ≡ put (drop i xs) k ys
unfolding put
drop_put xs i k ys h =
    let a : i ≤ length (take (i + k) xs) = rw length-take (omega arith) in
    rw (drop-append-le i (take (i + k) xs), drop_take, drop-drop, add_assoc)

take_put : (xs : List ℕ) (k : ℕ) (ys : List ℕ) (d : ℕ) → k + length ys ≤ length xs
    → take (k + length ys + d) (put xs k ys) ≡ put (take (k + length ys + d) xs) k ys
unfolding put
take_put xs k ys d h =
    let n : ℕ = k + length ys + d in
    let F : List ℕ = take k xs ++ ys in
    let D : List ℕ = drop (k + length ys) xs in
    ap (take n) (put_split xs k ys h)
    ∙ ap (λ (m : ℕ). take (m + d) (F ++ D)) (sym (length_front xs k ys h)) ∙ take-append-add F D d
    ∙ append_assoc (take k xs) ys (take d D) ∙ rw (drop_take, take-take k n xs (omega arith))

-- a part that holds the bytes
pub part_put_inside : (xs : List ℕ) (i n k : ℕ) (ys : List ℕ) → i + n ≤ length xs → k + length ys ≤ n
    → part (put xs (i + k) ys) i n ≡ put (part xs i n) k ys
unfolding part
part_put_inside xs i n k ys f h =
    let d : ℕ = n - (k + length ys) in
    let e : k + length ys + d ≡ n = omega arith in
    ap (take n) (drop_put xs i k ys (omega arith))
    ∙ ap (λ (m : ℕ). take m (put (drop i xs) k ys)) (sym e) ∙ take_put (drop i xs) k ys d (rw length-drop (omega arith))
    ∙ ap (λ (m : ℕ). put (take m (drop i xs)) k ys) e

-- a part put back where it stood
pub put_back : (xs : List ℕ) (i n : ℕ) → i + n ≤ length xs → put xs i (part xs i n) ≡ xs
unfolding put part
put_back xs i n l = rw (length_part xs i n l, ← (drop-drop n i xs), take-append-drop n (drop i xs)) (take-append-drop i xs)

-- ---- the same, byte by byte

module _ (xs ys : List ℕ) (i k : ℕ) (l : i ≤ length xs) where
  pub put_before : k < i → get_or (put xs i ys) k 0 ≡ get_or xs k 0
  unfolding put
  put_before h =
      let len : length (take i xs) ≡ i = length-take-le i xs l in
      get_or-append (take i xs) (ys ++ drop (i + length ys) xs) 0 k (omega arith) ∙ get_or-take i xs k 0 h

  behind_front : get_or (put xs i ys) (i + k) 0 ≡ get_or (ys ++ drop (i + length ys) xs) k 0
  unfolding put
  behind_front =
      ap (λ (m : ℕ). get_or (put xs i ys) (m + k) 0) (sym (length-take-le i xs l)) ∙ get_or-append-add (take i xs) (ys ++ drop (i + length ys) xs) k 0

  pub put_within : k < length ys → get_or (put xs i ys) (i + k) 0 ≡ get_or ys k 0
  put_within h = behind_front ∙ get_or-append ys (drop (i + length ys) xs) 0 k h

pub put_after : (xs ys : List ℕ) (i k : ℕ) → i ≤ length xs → i + length ys ≤ k → get_or (put xs i ys) k 0 ≡ get_or xs k 0
put_after xs ys i k l h =
    let d : ℕ = k - (i + length ys) in
    let e : i + (length ys + d) ≡ k = omega arith in
    let e' : i + length ys + d ≡ k = omega arith in
    ap (λ (m : ℕ). get_or (put xs i ys) m 0) (sym e) ∙ behind_front xs ys i (length ys + d) l
    ∙ get_or-append-add ys (drop (i + length ys) xs) d 0 ∙ get_or-drop (i + length ys) xs d 0 ∙ ap (λ (m : ℕ). get_or xs m 0) e'

-- n bytes of xs from offset i on are the first of ys
abbrev pub Written : List ℕ → ℕ → ℕ → List ℕ → Type 0
Written xs i n ys = (k : ℕ) → k < n → get_or xs (i + k) 0 ≡ get_or ys k 0

pub written_elsewhere : (xs ys zs : List ℕ) (base n i : ℕ) → i + length zs ≤ length xs → (base + n ≤ i) ⊎ (i + length zs ≤ base)
    → Written xs base n ys → Written (put xs i zs) base n ys
written_elsewhere xs ys zs base n i l (inl h) w k kn = put_before xs zs i (base + k) (omega arith) (omega arith) ∙ w k kn
written_elsewhere xs ys zs base n i l (inr h) w k kn = put_after xs zs i (base + k) (omega arith) (omega arith) ∙ w k kn

-- m bytes more
pub written_on : (xs ys zs : List ℕ) (base n m : ℕ) → length zs ≡ m → base + n + m ≤ length xs → Written xs base n ys
    → ((k : ℕ) → k < m → get_or zs k 0 ≡ get_or ys (n + k) 0) → Written (put xs (base + n) zs) base (n + m) ys
written_on xs ys zs base n m l b w z k kn = cases (ltb k n) refl
  where
    cases : (t : Bool) → ltb k n ≡ t → get_or (put xs (base + n) zs) (base + k) 0 ≡ get_or ys k 0
    cases true e = put_before xs zs (base + n) (base + k) (omega arith) (omega (arith, ltb-true k n e)) ∙ w k (ltb-true k n e)
    cases false e =
        let nk : n ≤ k = ltb-false k n e in
        let at : base + n + (k - n) ≡ base + k = omega arith in
        let at' : n + (k - n) ≡ k = omega arith in
        subst (λ (i : ℕ). get_or (put xs (base + n) zs) i 0 ≡ get_or ys k 0) at
        (put_within xs zs (base + n) (k - n) (omega arith) (omega arith) ∙ z (k - n) (omega arith) ∙ ap (λ (i : ℕ). get_or ys i 0) at')

-- bytes that are there are read back
pub written_part : (xs ys : List ℕ) (base : ℕ) → base + length ys ≤ length xs → Written xs base (length ys) ys → part xs base (length ys) ≡ ys
written_part xs ys base l w =
    let e : length (part xs base (length ys)) ≡ length ys = length_part xs base (length ys) l in
    ext_get_or 0 (part xs base (length ys)) ys e (λ i h. get_or_part xs base (length ys) i (omega arith) ∙ w i (omega arith))

-- and a part that begins with them
pub written_front : (xs ys : List ℕ) (base n : ℕ) → length ys ≤ n → base + n ≤ length xs → Written xs base (length ys) ys
    → part xs base n ≡ ys ++ drop (length ys) (part xs base n)
unfolding part
written_front xs ys base n h l w =
    sym (take-append-drop (length ys) (part xs base n)) ∙ ap (λ (f : List ℕ). f ++ drop (length ys) (part xs base n))
    (take-take (length ys) n (drop base xs) h ∙ written_part xs ys base (omega arith) w)

-- ---- equal strings

pub same_refl : (xs : List ℕ) → same xs xs ≡ true
unfolding same
same_refl [] = refl
same_refl (x ∷ xs) = rw (eq-eqb x x refl) (same_refl xs)

pub and-true : (a b : Bool) → a && b ≡ true → (a ≡ true) × (b ≡ true)
and-true true b e = (refl, e)
and-true false b e = (e, cc)

pub same_equal : (xs ys : List ℕ) → same xs ys ≡ true → xs ≡ ys
unfolding same
same_equal [] [] e = refl
same_equal [] (y ∷ ys) e = cc
same_equal (x ∷ xs) [] e = cc
same_equal (x ∷ xs) (y ∷ ys) e =
    let both : (eqb x y ≡ true) × (same xs ys ≡ true) = and-true (eqb x y) (same xs ys) e in
    cc (eqb-true x y both.0, same_equal xs ys both.1)

pub equal_same : (xs ys : List ℕ) → xs ≡ ys → same xs ys ≡ true
equal_same xs ys e = ap (same xs) (sym e) ∙ same_refl xs

pub unequal_same : (xs ys : List ℕ) → (xs ≡ ys → ⊥) → same xs ys ≡ false
unequal_same xs ys n = go (same xs ys) refl
  where
    go : (t : Bool) → same xs ys ≡ t → t ≡ false
    go true e = absurd (n (same_equal xs ys e))
    go false e = refl

-- ---- blank strings

pub and_assoc : (a b c : Bool) → (a && b) && c ≡ a && (b && c)
and_assoc true b c = refl
and_assoc false b c = refl

pub erased_split : (n m k : ℕ) → n ≡ m + k → erased n ≡ erased m ++ erased k
erased_split n m k e = ap erased e ∙ sym (replicate-append-replicate m k 0xFF)

pub blank_append : (xs ys : List ℕ) → blank (xs ++ ys) ≡ blank xs && blank ys
unfolding blank
blank_append [] ys = refl
blank_append (x ∷ xs) ys = ap (λ (t : Bool). eqb x 0xFF && t) (blank_append xs ys) ∙ sym (and_assoc (eqb x 0xFF) (blank xs) (blank ys))

pub blank_both : (xs ys : List ℕ) → blank (xs ++ ys) ≡ true → (blank xs ≡ true) × (blank ys ≡ true)
blank_both xs ys b = and-true (blank xs) (blank ys) (rw blank_append at b)

pub blank_erased : (n : ℕ) → blank (erased n) ≡ true
unfolding blank
blank_erased zero = refl
blank_erased (suc n) = blank_erased n

pub is_erased : (xs : List ℕ) → blank xs ≡ true → xs ≡ erased (length xs)
unfolding blank
is_erased [] b = refl
is_erased (x ∷ xs) b =
    let c : (eqb x 0xFF ≡ true) × (blank xs ≡ true) = and-true (eqb x 0xFF) (blank xs) b in
    cc (eqb-true x 0xFF c.0, is_erased xs c.1)

pub blank_part : (xs : List ℕ) (i n : ℕ) → blank xs ≡ true → blank (part xs i n) ≡ true
unfolding part
blank_part xs i n b =
    let d : blank (drop i xs) ≡ true = (blank_both (take i xs) (drop i xs) (rw take-append-drop b)).1 in
    (blank_both (take n (drop i xs)) (drop n (drop i xs)) (rw take-append-drop d)).0

-- how `blank` goes from one offset to the next
pub blank_stops : (xs : List ℕ) (i : ℕ) → i < length xs → (get_or xs i 0 ≡ 0xFF → ⊥) → blank (drop i xs) ≡ false
unfolding blank
blank_stops xs i h n = rw (drop-cons xs i 0, ne_eqb (get_or xs i 0) 0xFF)

pub blank_goes : (xs : List ℕ) (i : ℕ) → i < length xs → get_or xs i 0 ≡ 0xFF → blank (drop i xs) ≡ blank (drop (i + 1) xs)
unfolding blank
blank_goes xs i h e = rw (add-one, drop-cons xs i 0, eq-eqb (get_or xs i 0) 0xFF)

pub blank_ends : (xs : List ℕ) (i : ℕ) → length xs ≤ i → blank (drop i xs) ≡ true
unfolding blank
blank_ends xs i h = rw drop_of_length-le
