-- `intel_hex::import::store_text` meets its contract. Assumes nothing.
use Rattle.std.proofs.Common.{◌≡◌, ℕ, ◌+◌, ◌*◌, ◌≤◌, Bool, false, ◌==◌, List, length, drop, sym, ◌∙◌, arith}
use Rattle.std.proofs.Math.Option.{none}
use borrow.Author.Tests.{eqb-true, eqb-false}
use Rattle.hex_lines.specs.Format.{data_line}
use Rattle.hex_lines.specs.Line.{kind, data_length}
use Rattle.hex_lines.specs.Inner.{Begins, LineOf}
use Rattle.hex_lines.proofs.ReadLaws.{line_size}
use Rattle.intel_hex.specs.Import.{lines_of, data_place, after, image_after, text_stop, stored}
use Rattle.intel_hex.specs.declared.import.Reading.{Reading}
use Rattle.hex_lines.specs.declared.read.Line.{Line}
use Rattle.intel_hex.proofs.TextLaws.{begun, stored_on, judged_begins}
use Rattle.intel_hex.proofs.ImportLaws.{Passed, passed, whole_rest, stored_end}
use Rattle.intel_hex.proofs.import.store_text.Goals as goal

-- the line that what is left begins with
record Here (s : List ℕ) (size : ℕ) (r : Reading) : Type 0 where
  begins : Begins s
  inside : line_size s ≤ length s
  fits : kind s ≡ data_line → data_place r s + data_length s ≤ size
  -- and what is left behind it
  passes : (r' : Reading) (n : ℕ) → r' ≡ after r s → n ≡ line_size s → text_stop size r' (lines_of (drop n s)) ≡ none
  stores : (r' : Reading) (n : ℕ) (image image' : List ℕ) → r' ≡ after r s → n ≡ line_size s → image' ≡ image_after r image s
      → stored r image (lines_of s) ≡ stored r' image' (lines_of (drop n s))

here : (s : List ℕ) (size : ℕ) (r : Reading) (empty : Bool) → empty ≡ (length s == 0) → empty ≡ false → text_stop size r (lines_of s) ≡ none → Here s size r
here s size r empty e f passes = record {
  begins = b;
  inside = (begun s b).inside;
  fits = λ k. (p.placed k).fits;
  passes = λ r' n er en. (λ i. text_stop size (er i) (lines_of (drop (en i) s))) ∙ p.on;
  stores = λ r' n image image' er en ei. stored_on s (begun s b) r image ∙ sym (λ i. stored (er i) (ei i) (lines_of (drop (en i) s)));
}
  where
    b : Begins s
    b = judged_begins s (omega (arith, eqb-false (length s) 0 (sym e ∙ f))) size r passes

    p : Passed size r s
    p = passed size r s b passes

-- how long it is
long : (s : List ℕ) (l : Line) (n : ℕ) → LineOf s l → n ≡ 11 + 2 * l.length + l.tail → n ≡ line_size s
long s l n o e = e ∙ (λ i. 11 + 2 * o.length i + o.tail i)

pub line_of-line-requires : goal.line_of-line-requires
line_of-line-requires c = omega (arith, (here _ _ _ _ c.is_empty.ensures c.loop-rest-test.true c.loop-rest.invariant.2).inside)

pub store_line-requires : goal.store_line-requires
store_line-requires c =
    let h = here _ _ _ _ c.is_empty.ensures c.loop-rest-test.true c.loop-rest.invariant.2 in
    (h.begins, c.line_of-line.ensures, c.loop-rest.invariant.0, λ e. omega (arith, h.fits e, c.loop-rest.invariant.1))

pub after-reading-requires : goal.after-reading-requires
after-reading-requires c = ((here _ _ _ _ c.is_empty.ensures c.loop-rest-test.true c.loop-rest.invariant.2).begins, c.line_of-line.ensures, c.loop-rest.invariant.0)

pub slice_bounds-rest-count : goal.slice_bounds-rest-count
slice_bounds-rest-count c = omega (arith, long _ _ _ c.line_of-line.ensures c.line_length.ensures, (here _ _ _ _ c.is_empty.ensures c.loop-rest-test.true c.loop-rest.invariant.2).inside)

pub slice_bounds-rest-start : goal.slice_bounds-rest-start
slice_bounds-rest-start c = omega (arith, long _ _ _ c.line_of-line.ensures c.line_length.ensures, (here _ _ _ _ c.is_empty.ensures c.loop-rest-test.true c.loop-rest.invariant.2).inside)

pub loop-rest-preserved : goal.loop-rest-preserved
loop-rest-preserved c =
    let h = here _ _ _ _ c.is_empty.ensures c.loop-rest-test.true c.loop-rest.invariant.2 in
    let n = long _ _ _ c.line_of-line.ensures c.line_length.ensures in
    rw (whole_rest _ c.loop-rest.rest.now) (
      c.after-reading.ensures.1,
      omega arith,
      h.passes _ _ c.after-reading.ensures.0 n,
      c.loop-rest.invariant.3 ∙ h.stores _ _ _ _ c.after-reading.ensures.0 n c.store_line.ensures,
    )

pub returns : goal.returns
returns c = sym (c.loop-rest.invariant.3 ∙ stored_end _ _ _ (eqb-true _ _ (sym c.loop-rest-test.ensures)))
