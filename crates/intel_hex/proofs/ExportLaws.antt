-- Laws of an image as Intel HEX: sums of bytes, what a line is made of, when the upper address bits change, and how long the text is.
-- Assumes nothing.
use mathlib.Core.Path.{◌≡◌, refl, sym, ap, ◌∙◌}
use mathlib.Core.Bool.{Bool, true, false, cond}
use mathlib.Core.Option.{Option, none, some}
use mathlib.Core.List.{List, [], ◌++◌}
use Prim.Native.Nat.{ℕ, zero, suc, ◌+◌, ◌-◌, ◌*◌, ◌/◌, ◌%◌, ◌≤◌, ◌<◌, min}
use native.Mathlib.Nat.{mul-div-mul_left}
use native.Mathlib.Numerals.{add-one}
use native.Mathlib.Omega.{arith}
use lib.Dec.{lit<, eqb, ltb}
use lib.ListN.{length, take, drop, length-append, length-take, length-drop}
use lib.Seq.{take_all}
use borrow.Author.Tests.{eqb-true, eqb-false, eq-eqb, ne_eqb, ltb-true, ltb-false}
use Rattle.octets.specs.Limits.{image_limit, data_per_line}
use Rattle.octets.specs.Octets.{part, bytes}
use Rattle.octets.proofs.Laws.{put_front}
use Rattle.octets.proofs.Numbers.{length_bytes}
use Rattle.stops.specs.Stops.{first_of}
use Rattle.stops.proofs.Laws.{neither}
use Rattle.hex_lines.specs.Format.{data_line, end_line, upper_line, boundary}
use Rattle.hex_lines.specs.Line.{hex_line}
use Rattle.hex_lines.proofs.WriteLaws.{length_hex_line}
use Rattle.intel_hex.specs.Export.{place, upper, upper_changes, upper_part, data_part, block, blocks, line_count, hex_text, image_wrong, export_stop, export_by, export}
use Rattle.intel_hex.specs.Inner.{text_length}

-- ---- the upper address bits

-- they change where the lower ones are 0
upper_changes_is : (k : ℕ) → upper_changes k ≡ eqb (place k % boundary) 0
upper_changes_is k = go (eqb (place k % boundary) 0) refl (eqb k 0) refl
  where
    go : (t : Bool) → eqb (place k % boundary) 0 ≡ t → (f : Bool) → eqb k 0 ≡ f → upper_changes k ≡ t
    go true e true f = rw f refl
    go true e false f =
        let low = eqb-true (place k % boundary) 0 e in
        let some = eqb-false k 0 f in
        rw (f, ne_eqb (upper k) (upper (k - 1)) (λ same. omega arith)) refl
    go false e true f = absurd (eqb-false (place k % boundary) 0 e (let z : k ≡ 0 = eqb-true k 0 f in omega arith))
    go false e false f =
        let low = eqb-false (place k % boundary) 0 e in
        let some = eqb-false k 0 f in
        rw (f, eq-eqb (upper k) (upper (k - 1)) (omega arith)) refl

upper_by : (k : ℕ) (t : Bool) → eqb (place k % boundary) 0 ≡ t → upper_part k ≡ cond t (hex_line upper_line 0 (bytes 2 (upper k))) []
unfolding upper_part
upper_by k t e = ap (λ (b : Bool). cond b (hex_line upper_line 0 (bytes 2 (upper k))) []) (upper_changes_is k ∙ e)

pub upper_some : (k : ℕ) → place k % boundary ≡ 0 → upper_part k ≡ hex_line upper_line 0 (bytes 2 (upper k))
upper_some k e = upper_by k true (eq-eqb (place k % boundary) 0 e)

pub upper_none : (k : ℕ) → (place k % boundary ≡ 0 → ⊥) → upper_part k ≡ []
upper_none k e = upper_by k false (ne_eqb (place k % boundary) 0 e)

-- ---- the data

-- a part that may end before its n bytes
part_to : (xs : List ℕ) (i n e : ℕ) → e ≡ min (i + n) (length xs) → i ≤ length xs → take (e - i) (drop i xs) ≡ part xs i n
unfolding part
part_to xs i n e m h = go (ltb (length xs) (i + n)) refl
  where
    go : (t : Bool) → ltb (length xs) (i + n) ≡ t → take (e - i) (drop i xs) ≡ take n (drop i xs)
    go true l =
        let l' = ltb-true (length xs) (i + n) l in
        take_all (e - i) (drop i xs) (rw length-drop (omega arith)) ∙ sym (take_all n (drop i xs) (rw length-drop (omega arith)))
    go false l = let l' = ltb-false (length xs) (i + n) l in ap (λ (m : ℕ). take m (drop i xs)) (let z : e - i ≡ n = omega arith in z)

pub data_part_is : (image : List ℕ) (k e : ℕ) → e ≡ min (place k + data_per_line) (length image) → place k ≤ length image
    → hex_line data_line (place k % boundary) (take (e - place k) (drop (place k) image)) ≡ data_part image k
unfolding data_part
data_part_is image k e m h = ap (hex_line data_line (place k % boundary)) (part_to image (place k) data_per_line e m h)

-- ---- lengths

-- how many data lines have the same upper address bits, and how many type 04 lines stand before data line k
abbrev same_upper : ℕ
same_upper = boundary / data_per_line

abbrev pub uppers : ℕ → ℕ
uppers k = (k + (same_upper - 1)) / same_upper

pub length_upper : (k : ℕ) → 16 * uppers k + length (upper_part k) ≡ 16 * uppers (suc k)
length_upper k = go (eqb (place k % boundary) 0) refl
  where
    q : ℕ
    q = k / same_upper

    same : upper k ≡ q
    same = mul-div-mul_left k same_upper (lit< tt)

    next : uppers (suc k) ≡ q + 1
    next = omega arith

    go : (t : Bool) → eqb (place k % boundary) 0 ≡ t → 16 * uppers k + length (upper_part k) ≡ 16 * uppers (suc k)
    go true e =
        let low : place k % boundary ≡ 0 = eqb-true (place k % boundary) 0 e in
        let line : length (upper_part k) ≡ 16 = ap length (upper_by k true e) ∙ length_hex_line upper_line 0 (bytes 2 (upper k)) ∙ ap (λ (n : ℕ). 12 + 2 * n) (length_bytes 2 (upper k)) in
        let first : k % same_upper ≡ 0 = omega (arith, same) in
        let this : uppers k ≡ q = omega arith in
        omega (arith, next)
    go false e =
        let low = eqb-false (place k % boundary) 0 e in
        let line : length (upper_part k) ≡ 0 = ap length (upper_by k false e) in
        let inside : 0 < k % same_upper = omega (arith, same) in
        let this : uppers k ≡ q + 1 = omega arith in
        omega (arith, next)

pub length_data : (image : List ℕ) (k : ℕ) → length (data_part image k) ≡ 12 + 2 * min data_per_line (length image - place k)
unfolding data_part part
length_data image k = simp (length_hex_line, length-take, length-drop)

pub length_blocks : (image : List ℕ) (k : ℕ) → length (blocks image k) ≡ 16 * uppers k + (12 * k + 2 * min (place k) (length image))
unfolding blocks block
length_blocks image zero = omega arith
length_blocks image (suc k) =
    simp length-append (omega (arith, length_blocks image k, length_upper k, length_data image k))

pub text_length_is : (image : List ℕ) → length (hex_text image) ≡ text_length (length image)
unfolding hex_text
text_length_is image =
    let n : ℕ = length image in
    let u : uppers (line_count n) ≡ (n + (boundary - 1)) / boundary = omega arith in
    simp length-append (omega (arith, length_blocks image (line_count n), length_hex_line end_line 0 []))

-- data line k fits, with those before it
pub block_fits : (image : List ℕ) (k : ℕ) → k < line_count (length image) → length (blocks image k) + length (block image k) ≤ length (hex_text image)
unfolding block
block_fits image k h =
    simp length-append (omega (arith, length_blocks image k, length_upper k, length_data image k, text_length_is image))

-- the data lines with one more, and with the end line
pub blocks_more : (image : List ℕ) (k : ℕ) → blocks image k ++ block image k ≡ blocks image (k + 1)
unfolding blocks
blocks_more image k = sym (ap (blocks image) (add-one k))

pub text_whole : (image : List ℕ) (k : ℕ) → k ≡ line_count (length image) → blocks image k ++ hex_line end_line 0 [] ≡ hex_text image
unfolding hex_text
text_whole image k e = ap (λ (m : ℕ). blocks image m ++ hex_line end_line 0 []) e

-- ---- the call

pub image_fits : (n : ℕ) → image_wrong n ≡ false → n ≤ image_limit
image_fits n e = ltb-false image_limit n (neither (eqb n 0) (ltb image_limit n) e).1

-- what it says that it wrote lies in the buffer
written_within : (o : Option ℕ) (image text : List ℕ) → (export_by o image text).written ≤ length (export_by o image text).text
unfolding export_by
written_within (some n) image text = omega arith
written_within none image text = simp (put_front, length-append) (omega arith)

pub export_within : (image text : List ℕ) → (export image text).written ≤ length (export image text).text
unfolding export
export_within image text = written_within (export_stop image text) image text

-- what it answers, by its tests
pub answered : (image text : List ℕ) (wrong short : Bool) → image_wrong (length image) ≡ wrong → ltb (length text) (length (hex_text image)) ≡ short
    → export_by (cond wrong (some 2) (cond short (some 4) none)) image text ≡ export image text
unfolding export export_stop first_of
answered image text wrong short p q = λ i. export_by (cond (sym p i) (some 2) (cond (sym q i) (some 4) none)) image text
