-- `intel_hex::import::store_line` meets its contract. Assumes nothing.
use mathlib.Core.Path.{◌≡◌, sym, ap, ap₂, ◌∙◌}
use mathlib.Core.List.{List}
use Prim.Native.Nat.{ℕ, ◌+◌, ◌-◌, ◌*◌, ◌≤◌}
use native.Mathlib.Omega.{arith}
use borrow.Rule.Slice.PartMut.{put_mid}
use lib.ListN.{length, take, drop, length-drop}
use Rattle.octets.specs.Octets.{put}
use Rattle.octets.proofs.Lent.{lent}
use Rattle.octets.proofs.Tables.{length_table}
use Rattle.hex_digits.specs.Digits.{pair, decoded}
use Rattle.hex_lines.specs.Format.{data_line, boundary}
use Rattle.hex_lines.specs.Line.{kind, data_length}
use Rattle.hex_lines.specs.Inner.{Begins, LineOf}
use Rattle.intel_hex.specs.Import.{data_place, image_after}
use Rattle.intel_hex.specs.declared.import.Reading.{Reading}
use Rattle.hex_lines.specs.declared.read.Line.{Line}
use Rattle.intel_hex.proofs.TextLaws.{begun}
use Rattle.intel_hex.proofs.ImportLaws.{image_data, image_other, data_decoded, whole_rest}
use Rattle.intel_hex.proofs.import.store_line.Goals as goal

-- the data fit the image, and their digits stand in the text
record Room (s image : List ℕ) (l : Line) (p : ℕ) : Type 0 where
  fits : p + l.length ≤ length image
  digits : 2 * l.length ≤ length (drop 9 s)

room : (s image : List ℕ) (r : Reading) (l : Line) (p : ℕ) → Begins s → LineOf s l → (kind s ≡ data_line → data_place r s + data_length s ≤ length image)
    → l.kind ≡ data_line → p ≡ r.upper * boundary + l.address → Room s image l p
room s image r l p g o h k e =
    let f : data_place r s + data_length s ≤ length image = h (sym o.kind ∙ k) in
    let n : p + l.length ≡ data_place r s + data_length s = ap₂ (λ (x y : ℕ). x + y) (e ∙ ap (λ (x : ℕ). r.upper * boundary + x) o.address) o.length in
    record { fits = omega (arith, f, n); digits = rw length-drop (omega (arith, (begun s g).inside, o.length)) }

-- the part of the image that was lent came back with the data at its front
put_data : (s image zs d : List ℕ) (r : Reading) (l : Line) (p : ℕ) → LineOf s l → l.kind ≡ data_line → p ≡ r.upper * boundary + l.address → Room s image l p
    → d ≡ drop 9 s → zs ≡ put (take (length image - p) (drop p image)) 0 (decoded d l.length) → put_mid p (length image - p) image zs ≡ image_after r image s
put_data s image zs d r l p o k e f ed ez =
    let D : List ℕ = decoded (drop 9 s) l.length in
    lent image D zs p (length image - p) (omega (arith, f.fits)) (omega (arith, f.fits, length_table l.length (λ j. pair (drop 9 s) (2 * j))))
    (ez ∙ ap (λ (x : List ℕ). put (take (length image - p) (drop p image)) 0 (decoded x l.length)) ed)
    ∙ ap₂ (put image) (e ∙ ap (λ (x : ℕ). r.upper * boundary + x) o.address) (ap (decoded (drop 9 s)) o.length ∙ data_decoded s)
    ∙ image_data s image r (sym o.kind ∙ k)

pub decode-requires : goal.decode-requires
decode-requires c =
    let k = room _ _ c.args.reading c.args.line _ c.requires.0 c.requires.1 c.requires.3 c.if-line-eq-DATA_LINE.true c.data_place-place.ensures.0 in
    (rw (whole_rest 9 c.args.s.now) k.digits, rw (whole_rest _ c.args.image.now, length-drop) (omega (arith, k.fits)))

pub returns-then-line-eq-DATA_LINE : goal.returns-then-line-eq-DATA_LINE
returns-then-line-eq-DATA_LINE c =
    let a = c.args in
    put_data a.s.now a.image.now _ _ a.reading a.line _ c.requires.1 c.if-line-eq-DATA_LINE.true c.data_place-place.ensures.0 (room _ _ a.reading a.line _ c.requires.0 c.requires.1 c.requires.3 c.if-line-eq-DATA_LINE.true c.data_place-place.ensures.0) (whole_rest 9 a.s.now) c.decode.ensures

pub returns-else-line-eq-DATA_LINE : goal.returns-else-line-eq-DATA_LINE
returns-else-line-eq-DATA_LINE c =
    let a = c.args in
    image_other a.s.now a.image.now a.reading (λ e. c.if-line-eq-DATA_LINE.false (c.requires.1.kind ∙ e))

pub data_place-place-requires : goal.data_place-place-requires
data_place-place-requires c = omega (arith, c.requires.1.low)

pub slice_bounds-decode-count : goal.slice_bounds-decode-count
slice_bounds-decode-count c = omega (arith, (begun c.args.s.now c.requires.0).inside)

pub slice_bounds-decode-start : goal.slice_bounds-decode-start
slice_bounds-decode-start c = omega (arith, (begun c.args.s.now c.requires.0).inside)
