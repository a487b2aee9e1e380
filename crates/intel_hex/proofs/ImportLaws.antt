-- Laws of judging a text line by line and storing its data. Assumes nothing.
use mathlib.Core.Path.{◌≡◌, refl, sym, ap, ap₂, ◌∙◌}
use mathlib.Core.Bool.{Bool, true, false, cond, not, ◌&&◌, ◌||◌}
use mathlib.Core.Option.{Option, none, some}
use mathlib.Core.List.{List, [], ◌∷◌}
use Prim.Native.Nat.{ℕ, ◌+◌, ◌-◌, ◌*◌, ◌≤◌}
use native.Mathlib.Omega.{arith}
use lib.Dec.{eqb, ltb}
use lib.ListN.{length, take, drop, get_or, length-drop}
use lib.Seq.{get_or-drop, take_all}
use borrow.Author.Tests.{eqb-true, eq-eqb, ne_eqb, ltb-false, not-false}
use Rattle.octets.specs.Octets.{put}
use Rattle.octets.proofs.Laws.{and-true}
use Rattle.octets.proofs.Tables.{get_or_table, table_ext}
use Rattle.stops.specs.Stops.{first_of}
use Rattle.stops.proofs.Laws.{passes, neither}
use Rattle.hex_digits.specs.Digits.{digit_value, pair, decoded}
use Rattle.hex_lines.specs.Format.{data_line, upper_line, boundary}
use Rattle.hex_lines.specs.Line.{byte_of, data_length, address, kind, data_bytes, upper_bits, shape_wrong, checksum_wrong}
use Rattle.hex_lines.specs.Inner.{Begins}
use Rattle.hex_lines.proofs.ReadLaws.{line_size}
use Rattle.intel_hex.specs.Export.{image_wrong}
use Rattle.intel_hex.specs.Import.{lines_of, data_place, misplaced, start, after, image_after, or_else, text_stop, stored, import_stop, import_by, import}
use Rattle.intel_hex.specs.Inner.{checks}
use Rattle.intel_hex.specs.declared.import.Reading.{Reading}
use Rattle.intel_hex.proofs.TextLaws.{begun, stop_on, or_false}

-- ---- the reading behind a line

module _ (s : List ℕ) (r : Reading) where
  pub after_data : (p n : ℕ) → kind s ≡ data_line → p ≡ data_place r s → n ≡ data_length s → record { upper = r.upper; next = p + n; ended = r.ended } ≡ after r s
  unfolding after
  after_data p n k e f =
      (λ i. record { upper = r.upper; next = e i + f i; ended = r.ended })
      ∙ sym (ap (λ (t : Bool). cond t (record { upper = r.upper; next = data_place r s + data_length s; ended = r.ended })
      (cond (eqb (kind s) upper_line) (record { upper = upper_bits s; next = r.next; ended = r.ended })
      (record { upper = r.upper; next = r.next; ended = true }))) (eq-eqb (kind s) data_line k))

  pub after_upper : (u : ℕ) → kind s ≡ upper_line → u ≡ upper_bits s → record { upper = u; next = r.next; ended = r.ended } ≡ after r s
  unfolding after
  after_upper u k e =
      (λ i. record { upper = e i; next = r.next; ended = r.ended })
      ∙ sym (ap (λ (m : ℕ). cond (eqb m data_line) (record { upper = r.upper; next = data_place r s + data_length s; ended = r.ended })
      (cond (eqb m upper_line) (record { upper = upper_bits s; next = r.next; ended = r.ended })
      (record { upper = r.upper; next = r.next; ended = true }))) k)

  pub after_end : (kind s ≡ data_line → ⊥) → (kind s ≡ upper_line → ⊥) → record { upper = r.upper; next = r.next; ended = true } ≡ after r s
  unfolding after
  after_end d u =
      sym (ap₂ (λ (t v : Bool). cond t (record { upper = r.upper; next = data_place r s + data_length s; ended = r.ended })
      (cond v (record { upper = upper_bits s; next = r.next; ended = r.ended })
      (record { upper = r.upper; next = r.next; ended = true }))) (ne_eqb (kind s) data_line d) (ne_eqb (kind s) upper_line u))

-- a type 04 line has two data bytes, and its digits stand in the text
pub record Upper (s : List ℕ) : Type 0 where
  pub two : data_length s ≡ 2
  pub inside : 13 ≤ length s

shape_upper : (n a : ℕ) → shape_wrong upper_line n a ≡ false → n ≡ 2
shape_upper n a e =
    let b : (eqb n 2 ≡ true) × (eqb a 0 ≡ true) = and-true (eqb n 2) (eqb a 0) (not-false (eqb n 2 && eqb a 0) e) in
    eqb-true n 2 b.0

pub upper_line_is : (s : List ℕ) → Begins s → kind s ≡ upper_line → Upper s
upper_line_is s g k =
    let n : data_length s ≡ 2 = shape_upper (data_length s) (address s) (ap (λ (m : ℕ). shape_wrong m (data_length s) (address s)) (sym k) ∙ g.shape) in
    record { two = n; inside = omega (arith, (begun s g).inside, n) }

pub upper_is : (s : List ℕ) → data_length s ≡ 2 → pair s 9 * 256 + pair s 11 ≡ upper_bits s
upper_is s e =
    ap₂ (λ (x y : ℕ). x * 256 + y)
    (sym (get_or_table (data_length s) (λ k. byte_of s (4 + k)) 0 (omega arith)))
    (sym (get_or_table (data_length s) (λ k. byte_of s (4 + k)) 1 (omega arith)))

-- ---- the image behind a line

pub image_data : (s image : List ℕ) (r : Reading) → kind s ≡ data_line → put image (data_place r s) (data_bytes s) ≡ image_after r image s
unfolding image_after
image_data s image r k = sym (ap (λ (t : Bool). cond t (put image (data_place r s) (data_bytes s)) image) (eq-eqb (kind s) data_line k))

pub image_other : (s image : List ℕ) (r : Reading) → (kind s ≡ data_line → ⊥) → image ≡ image_after r image s
unfolding image_after
image_other s image r k = sym (ap (λ (t : Bool). cond t (put image (data_place r s) (data_bytes s)) image) (ne_eqb (kind s) data_line k))

-- the data's digits stand behind nine bytes
pub data_decoded : (s : List ℕ) → decoded (drop 9 s) (data_length s) ≡ data_bytes s
data_decoded s = table_ext (data_length s) (λ k. pair (drop 9 s) (2 * k)) (λ k. byte_of s (4 + k)) (λ k h. byte k)
  where
    byte : (k : ℕ) → pair (drop 9 s) (2 * k) ≡ byte_of s (4 + k)
    byte k =
        let e : 9 + 2 * k ≡ 1 + 2 * (4 + k) = omega arith in
        let f : 9 + (2 * k + 1) ≡ 1 + 2 * (4 + k) + 1 = omega arith in
        ap₂ (λ (x y : ℕ). digit_value x * 16 + digit_value y)
        (get_or-drop 9 s (2 * k) 0 ∙ ap (λ (i : ℕ). get_or s i 0) e) (get_or-drop 9 s (2 * k + 1) 0 ∙ ap (λ (i : ℕ). get_or s i 0) f)

-- ---- a line that was judged

-- no stop of the first, and none of the second
pub both_none : (a b : Option ℕ) → or_else a b ≡ none → (a ≡ none) × (b ≡ none)
both_none none b e = (refl, e)
both_none (some n) b e = let z : ◌≡◌ {A = ℕ} 0 1 = cc in absurd (omega arith)

-- data that are not misplaced
pub record Placed (size place n next : ℕ) : Type 0 where
  pub fits : place + n ≤ size
  pub rises : next ≤ place

pub well_placed : (size place address n next : ℕ) → misplaced size place address n next ≡ false → Placed size place n next
well_placed size p a n next e =
    let o = neither (ltb size (p + n) || ltb boundary (a + n)) (ltb p next) e in
    record { fits = ltb-false size (p + n) (neither (ltb size (p + n)) (ltb boundary (a + n)) o.0).0; rises = ltb-false p next o.1 }

-- what is known of a line of a text that passes
pub record Passed (size : ℕ) (r : Reading) (s : List ℕ) : Type 0 where
  pub on : text_stop size (after r s) (lines_of (drop (line_size s) s)) ≡ none
  pub placed : kind s ≡ data_line → Placed size (data_place r s) (data_length s) r.next

pub passed : (size : ℕ) (r : Reading) (s : List ℕ) → Begins s → text_stop size r (lines_of s) ≡ none → Passed size r s
unfolding checks
passed size r s g e =
    let m : Bool = misplaced size (data_place r s) (address s) (data_length s) r.next in
    let b = both_none (checks size r (kind s) (address s) (data_length s) (checksum_wrong s)) (text_stop size (after r s) (lines_of (drop (line_size s) s)))
    (sym (stop_on s (begun s g) size r) ∙ e) in
    let p = passes ((15, r.ended) ∷ (16, checksum_wrong s) ∷ (17, eqb (kind s) data_line && m) ∷ []) b.0 in
    record {
      on = b.1;
      placed = λ k. well_placed size (data_place r s) (address s) (data_length s) r.next (sym (ap (λ (t : Bool). t && m) (eq-eqb (kind s) data_line k)) ∙ p.1.1.0);
    }

-- ---- what is left of a text

-- all that stands behind n bytes
pub whole_rest : (n : ℕ) (s : List ℕ) → take (length s - n) (drop n s) ≡ drop n s
whole_rest n s = take_all (length s - n) (drop n s) (rw length-drop (omega arith))

-- nothing

pub text_end : (size : ℕ) (r : Reading) (s : List ℕ) → length s ≡ 0 → text_stop size r (lines_of s) ≡ cond (not r.ended) (some 15) none
unfolding text_stop lines_of first_of
text_end size r [] h = ap (λ (t : Bool). cond {A = Option ℕ} t (some 15) none) (or_false (not r.ended) false refl)
text_end size r (b ∷ s) h = absurd (omega arith)

pub stored_end : (r : Reading) (image s : List ℕ) → length s ≡ 0 → stored r image (lines_of s) ≡ image
unfolding stored lines_of
stored_end r image [] h = refl
stored_end r image (b ∷ s) h = absurd (omega arith)

-- ---- the call

pub import_refused : (text image : List ℕ) (n : ℕ) → some n ≡ import_stop text image → record { stop = some n; image = image } ≡ import text image
unfolding import import_by
import_refused text image n e = ap (λ (o : Option ℕ). import_by o text image) e

pub import_done : (text image image' : List ℕ) → import_stop text image ≡ none → image' ≡ stored start image (lines_of text)
    → record { stop = none; image = image' } ≡ import text image
unfolding import import_by
import_done text image image' e f =
    ap (λ (l : List ℕ). record { stop = none; image = l }) f ∙ sym (ap (λ (o : Option ℕ). import_by o text image) e)

pub stop_image : (text image : List ℕ) → image_wrong (length image) ≡ true → some 2 ≡ import_stop text image
unfolding import_stop first_of
stop_image text image e = rw e refl

pub stop_text : (text image : List ℕ) → image_wrong (length image) ≡ false → import_stop text image ≡ text_stop (length image) start (lines_of text)
unfolding import_stop first_of
stop_text text image e = rw e refl
