-- Laws of reading a line from the front of a text: where it ends, what it says, when it is malformed, and its checksum. Assumes nothing.
use mathlib.Core.Path.{◌≡◌, refl, sym, ap, ap₂, subst, ◌∙◌}
use mathlib.Core.Bool.{Bool, true, false, cond, not, ◌&&◌, ◌||◌}
use mathlib.Core.List.{List, [], ◌∷◌, ◌++◌}
use Prim.Native.Nat.{ℕ, ◌+◌, ◌-◌, ◌*◌, ◌/◌, ◌%◌, ◌≤◌, ◌<◌}
use native.Mathlib.Nat.{add-zero, zero-add, mod-lt, mod-eq_of_lt, pos_of_ne-zero}
use native.Mathlib.Omega.{arith}
use lib.Dec.{eqb, ltb}
use lib.ListN.{length, take, drop, get_or, length-drop, get_or-append, get_or-eq_default}
use lib.Seq.{take_at, drop-append-le}
use borrow.Author.Tests.{ltb-true, ltb-false, eqb-true, eqb-false, eq-eqb, ne_eqb, not-false}
use Rattle.octets.specs.Octets.{part}
use Rattle.octets.specs.Table.{table}
use Rattle.octets.proofs.Laws.{and-true, get_or_part}
use Rattle.octets.proofs.Tables.{table_ext, table_snoc}
use Rattle.stops.proofs.Laws.{neither}
use Rattle.hex_digits.specs.Digits.{digit_value, all_digits, pair, decoded}
use Rattle.hex_lines.specs.Format.{mark, line_feed, carriage_return, sum, checksum}
use Rattle.hex_lines.specs.Line.{byte_of, bytes_of, data_length, address, kind, data_bytes, shape_wrong, malformed, checksum_wrong}
use Rattle.hex_lines.specs.Inner.{line_end, end_length, Begins}
use Rattle.hex_lines.proofs.Sums.{sum_append}

-- ---- the end of a line at an offset

pub data Ends (s : List ℕ) (i : ℕ) : Type 0 where
  feed : end_length s i ≡ 1 → get_or s i 0 ≡ line_feed → Ends s i
  return_feed : end_length s i ≡ 2 → get_or s i 0 ≡ carriage_return → get_or s (i + 1) 0 ≡ line_feed → Ends s i

pub ends : (s : List ℕ) (i : ℕ) → 0 < end_length s i → Ends s i
unfolding end_length
ends s i h = one (eqb (get_or s i 0) line_feed) refl h
  where
    two : (t : Bool) → (eqb (get_or s i 0) carriage_return && eqb (get_or s (i + 1) 0) line_feed) ≡ t → end_length s i ≡ cond t 2 0 → 0 < cond t 2 0 → Ends s i
    two true e f h =
        let b : (eqb (get_or s i 0) carriage_return ≡ true) × (eqb (get_or s (i + 1) 0) line_feed ≡ true) =
        and-true (eqb (get_or s i 0) carriage_return) (eqb (get_or s (i + 1) 0) line_feed) e in
        return_feed f (eqb-true (get_or s i 0) carriage_return b.0) (eqb-true (get_or s (i + 1) 0) line_feed b.1)
    two false e f h = absurd (omega arith)

    one : (t : Bool) → eqb (get_or s i 0) line_feed ≡ t
        → 0 < cond t 1 (cond (eqb (get_or s i 0) carriage_return && eqb (get_or s (i + 1) 0) line_feed) 2 0) → Ends s i
    one true e h = feed (rw e refl) (eqb-true (get_or s i 0) line_feed e)
    one false e h = two (eqb (get_or s i 0) carriage_return && eqb (get_or s (i + 1) 0) line_feed) refl (rw e refl) h

-- a byte that is not 0 stands in the string
pub within : (s : List ℕ) (i b : ℕ) → get_or s i 0 ≡ b → 0 < b → i < length s
within s i b e h = go (ltb i (length s)) refl
  where
    go : (t : Bool) → ltb i (length s) ≡ t → i < length s
    go true f = ltb-true i (length s) f
    go false f = let z : get_or s i 0 ≡ 0 = get_or-eq_default s 0 {n = i} (ltb-false i (length s) f) in absurd (omega arith)

pub end_inside : (s : List ℕ) (i : ℕ) → Ends s i → i + end_length s i ≤ length s
end_inside s i (feed e f) = let h : i < length s = within s i line_feed f (omega arith) in omega arith
end_inside s i (return_feed e f g) = let h : i + 1 < length s = within s (i + 1) line_feed g (omega arith) in omega arith

pub closed_inside : (s : List ℕ) (i : ℕ) → (end_length s i ≡ 0 → ⊥) → i < length s
closed_inside s i n = let p : 0 < end_length s i = pos_of_ne-zero n in let h : i + end_length s i ≤ length s = end_inside s i (ends s i p) in omega arith

pub end_is_feed : (s : List ℕ) (i : ℕ) → get_or s i 0 ≡ line_feed → end_length s i ≡ 1
unfolding end_length
end_is_feed s i e = rw (eq-eqb (get_or s i 0) line_feed e) refl

pub end_is_return : (s : List ℕ) (i : ℕ) → get_or s i 0 ≡ carriage_return → get_or s (i + 1) 0 ≡ line_feed → end_length s i ≡ 2
unfolding end_length
end_is_return s i e f = rw (e, f) refl

pub end_is_none : (s : List ℕ) (i : ℕ) → (get_or s i 0 ≡ line_feed → ⊥) → (get_or s i 0 ≡ carriage_return → get_or s (i + 1) 0 ≡ line_feed → ⊥) → end_length s i ≡ 0
unfolding end_length
end_is_none s i n m = rw (ne_eqb (get_or s i 0) line_feed n) (go (eqb (get_or s i 0) carriage_return) refl)
  where
    go : (t : Bool) → eqb (get_or s i 0) carriage_return ≡ t → cond {A = ℕ} (t && eqb (get_or s (i + 1) 0) line_feed) 2 0 ≡ 0
    go true e = rw (ne_eqb (get_or s (i + 1) 0) line_feed (m (eqb-true (get_or s i 0) carriage_return e))) refl
    go false e = refl

-- behind the string no line ends
pub end_past : (s : List ℕ) (i : ℕ) → length s ≤ i → end_length s i ≡ 0
end_past s i h =
    let z : get_or s i 0 ≡ 0 = get_or-eq_default s 0 {n = i} h in
    end_is_none s i (λ e. omega arith) (λ e. absurd (omega arith))

-- ---- what a line says, from the text that it begins

-- the line b and the text s say the same
pub record Same (b s : List ℕ) : Type 0 where
  pub length : data_length s ≡ data_length b
  pub address : address s ≡ address b
  pub kind : kind s ≡ kind b
  pub bytes : data_bytes s ≡ data_bytes b
  pub checksum : checksum_wrong s ≡ checksum_wrong b

module _ (b t s : List ℕ) (front : s ≡ b ++ t) where
  pub at_front : (i : ℕ) → i < length b → get_or s i 0 ≡ get_or b i 0
  at_front i h = ap (λ (x : List ℕ). get_or x i 0) front ∙ get_or-append b t 0 i h

  pub byte_front : (i : ℕ) → 3 + 2 * i ≤ length b → byte_of s i ≡ byte_of b i
  byte_front i h =
      ap₂ (λ (x y : ℕ). digit_value x * 16 + digit_value y) (at_front (1 + 2 * i) (omega arith)) (at_front (1 + 2 * i + 1) (omega arith))

  bytes_front : (i n : ℕ) → 1 + 2 * (i + n) ≤ length b → bytes_of s i n ≡ bytes_of b i n
  bytes_front i n h = table_ext n (λ k. byte_of s (i + k)) (λ k. byte_of b (i + k)) (λ k l. byte_front (i + k) (omega arith))

  pub same_front : length b ≡ 11 + 2 * data_length b → Same b s
  unfolding checksum_wrong
  same_front long =
      let n : data_length s ≡ data_length b = byte_front 0 (omega arith) in
      record {
        length = n;
        address = ap₂ (λ (x y : ℕ). x * 256 + y) (byte_front 1 (omega arith)) (byte_front 2 (omega arith));
        kind = byte_front 3 (omega arith);
        bytes = ap (bytes_of s 4) n ∙ bytes_front 4 (data_length b) (omega arith);
        checksum = ap (λ (m : ℕ). not (eqb (byte_of s (4 + m)) (checksum (bytes_of s 0 (4 + m))))) n
            ∙ ap₂ (λ (x : ℕ) (y : List ℕ). not (eqb x (checksum y))) (byte_front (4 + data_length b) (omega arith)) (bytes_front 0 (4 + data_length b) (omega arith));
      }

-- a line that is not malformed
pub record Good (b : List ℕ) : Type 0 where
  pub marked : get_or b 0 0 ≡ mark
  pub digits : all_digits (drop 1 b) ≡ true
  pub long : length b ≡ 11 + 2 * data_length b
  pub shape : shape_wrong (kind b) (data_length b) (address b) ≡ false

pub good : (b : List ℕ) → malformed b ≡ false → Good b
unfolding malformed
good b e =
    let M : Bool = not (eqb (get_or b 0 0) mark) in
    let D : Bool = not (all_digits (drop 1 b)) in
    let L : Bool = not (eqb (length b) (11 + 2 * data_length b)) in
    let S : Bool = shape_wrong (kind b) (data_length b) (address b) in
    let p : (M || D || L ≡ false) × (S ≡ false) = neither (M || D || L) S e in
    let q : (M || D ≡ false) × (L ≡ false) = neither (M || D) L p.0 in
    let r : (M ≡ false) × (D ≡ false) = neither M D q.0 in
    record {
      marked = eqb-true (get_or b 0 0) mark (not-false (eqb (get_or b 0 0) mark) r.0);
      digits = not-false (all_digits (drop 1 b)) r.1;
      long = eqb-true (length b) (11 + 2 * data_length b) (not-false (eqb (length b) (11 + 2 * data_length b)) q.1);
      shape = p.1;
    }

pub not_malformed : (b : List ℕ) → Good b → malformed b ≡ false
unfolding malformed
not_malformed b g =
    rw (eq-eqb (get_or b 0 0) mark g.marked, g.digits, eq-eqb (length b) (11 + 2 * data_length b) g.long, g.shape) refl

-- ---- a text that begins with a line

-- how many bytes a line takes with its end
abbrev pub line_size : List ℕ → ℕ
line_size s = line_end s + end_length s (line_end s)

pub begins_inside : (s : List ℕ) → Begins s → line_size s ≤ length s
begins_inside s g = end_inside s (line_end s) (ends s (line_end s) g.closed)

-- s begins with the line b, which its own end closes
pub record Frame (b s : List ℕ) : Type 0 where
  pub behind : List ℕ
  pub front : s ≡ b ++ behind
  pub closed : 0 < end_length s (length b)

-- so it begins with a line that is not malformed
pub frame_begins : (b s : List ℕ) → Good b → Frame b s → Begins s
unfolding part
frame_begins b s g f =
    let same : Same b s = same_front b f.behind s f.front g.long in
    let n : data_length s ≡ data_length b = same.length in
    let long : length b ≡ line_end s = g.long ∙ ap (λ (m : ℕ). 11 + 2 * m) (sym n) in
    record {
      marked = at_front b f.behind s f.front 0 (omega (arith, g.long)) ∙ g.marked;
      digits =
          ap (λ (m : ℕ). all_digits (take (10 + 2 * m) (drop 1 s))) n
          ∙ ap (λ (x : List ℕ). all_digits (take (10 + 2 * data_length b) (drop 1 x))) f.front
          ∙ ap (λ (x : List ℕ). all_digits (take (10 + 2 * data_length b) x)) (drop-append-le 1 b f.behind (omega (arith, g.long)))
          ∙ ap all_digits (take_at (drop 1 b) f.behind (10 + 2 * data_length b) (rw length-drop (omega (arith, g.long))))
          ∙ g.digits;
      shape = (λ i. shape_wrong (same.kind i) (same.length i) (same.address i)) ∙ g.shape;
      closed = subst (λ (i : ℕ). 0 < end_length s i) long f.closed;
    }

-- ---- checksums

-- the sum of a table, one element longer
pub sum_table : (n : ℕ) (f : ℕ → ℕ) → sum (table (n + 1) f) ≡ sum (table n f) + f n
unfolding sum
sum_table n f = ap sum (table_snoc n f) ∙ sum_append (table n f) (f n ∷ []) ∙ ap (λ (m : ℕ). sum (table n f) + m) (add-zero (f n))

-- the last byte is the checksum of the others exactly if all together make a multiple of 256
checksum_test : (S c : ℕ) → c < 256 → not (eqb ((S + c) % 256) 0) ≡ not (eqb c ((256 - S % 256) % 256))
checksum_test S c h = ap not (go (eqb ((S + c) % 256) 0) refl)
  where
    x : ℕ
    x = S % 256

    small : x < 256
    small = mod-lt S (omega arith)

    there : (x + c) % 256 ≡ 0 → c ≡ (256 - x) % 256
    there e = zeros (eqb x 0) refl
      where
        zeros : (t : Bool) → eqb x 0 ≡ t → c ≡ (256 - x) % 256
        zeros true f = let z : x ≡ 0 = eqb-true x 0 f in rw z (omega arith)
        zeros false f =
            let q : 0 < x = pos_of_ne-zero (eqb-false x 0 f) in
            let d : c ≡ 256 - x = omega (arith, small) in
            d ∙ sym (mod-eq_of_lt (omega (arith, small)))

    back : c ≡ (256 - x) % 256 → (x + c) % 256 ≡ 0
    back e = omega (arith, small)

    whole : (S + c) % 256 ≡ (x + c) % 256
    whole = omega arith

    go : (t : Bool) → eqb ((S + c) % 256) 0 ≡ t → t ≡ eqb c ((256 - x) % 256)
    go true e = sym (eq-eqb c ((256 - x) % 256) (there (sym whole ∙ eqb-true ((S + c) % 256) 0 e)))
    go false e = sym (ne_eqb c ((256 - x) % 256) (λ f. eqb-false ((S + c) % 256) 0 e (whole ∙ back f)))

pair_small : (s : List ℕ) (i : ℕ) → pair s i < 256
pair_small s i =
    let a : digit_value (get_or s i 0) < 16 = mod-lt (get_or s i 0 % 16 + get_or s i 0 / 64 * 9) (omega arith) in
    let b : digit_value (get_or s (i + 1) 0) < 16 = mod-lt (get_or s (i + 1) 0 % 16 + get_or s (i + 1) 0 / 64 * 9) (omega arith) in
    omega arith

-- the sum of a line's bytes tells whether its checksum is wrong
pub checksum_is : (s : List ℕ) (total : ℕ) → total ≡ sum (decoded (part s 1 (10 + 2 * data_length s)) ((10 + 2 * data_length s) / 2))
    → not (eqb (total % 256) 0) ≡ checksum_wrong s
unfolding checksum_wrong
checksum_is s total e =
    let n : ℕ = data_length s in
    let D : List ℕ = part s 1 (10 + 2 * n) in
    let half : (10 + 2 * n) / 2 ≡ 4 + n + 1 = omega arith in
    let bytes : decoded D (4 + n + 1) ≡ bytes_of s 0 (4 + n + 1) = table_ext (4 + n + 1) (λ k. pair D (2 * k)) (λ k. byte_of s (0 + k)) (λ k h. byte k h) in
    let t : total ≡ sum (bytes_of s 0 (4 + n)) + byte_of s (4 + n) =
    e ∙ ap (λ (m : ℕ). sum (decoded D m)) half ∙ ap sum bytes ∙ sum_table (4 + n) (λ k. byte_of s (0 + k)) ∙ ap (λ (m : ℕ). sum (bytes_of s 0 (4 + n)) + byte_of s m) (zero-add (4 + n)) in
    ap (λ (m : ℕ). not (eqb (m % 256) 0)) t ∙ checksum_test (sum (bytes_of s 0 (4 + n))) (byte_of s (4 + n)) (pair_small s (1 + 2 * (4 + n)))
  where
    byte : (k : ℕ) → k < 4 + data_length s + 1 → pair (part s 1 (10 + 2 * data_length s)) (2 * k) ≡ byte_of s (0 + k)
    byte k h =
        let e : 1 + 2 * k ≡ 1 + 2 * (0 + k) = omega arith in
        let f : 1 + (2 * k + 1) ≡ 1 + 2 * (0 + k) + 1 = omega arith in
        ap₂ (λ (x y : ℕ). digit_value x * 16 + digit_value y)
        (get_or_part s 1 (10 + 2 * data_length s) (2 * k) (omega arith) ∙ ap (λ (i : ℕ). get_or s i 0) e)
        (get_or_part s 1 (10 + 2 * data_length s) (2 * k + 1) (omega arith) ∙ ap (λ (i : ℕ). get_or s i 0) f)
