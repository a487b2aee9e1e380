-- `hex_lines::read::line_at` meets its contract. Assumes nothing.
use Rattle.std.proofs.Common.{◌≡◌, ℕ, ◌+◌, ◌*◌, ◌/◌, ◌%◌, ◌<◌, Bool, true, false, not, ◌||◌, eqb, List, length, get_or, sym, ap, ◌∙◌, arith}
use native.Mathlib.Nat.{pos_of_ne-zero}
use borrow.Author.Tests.{eqb-false}
use Rattle.octets.specs.Octets.{part}
use Rattle.stops.proofs.Laws.{neither}
use Rattle.hex_digits.specs.Digits.{all_digits, decoded}
use Rattle.hex_lines.specs.Format.{mark, sum}
use Rattle.hex_lines.specs.Line.{data_length, kind, address, shape_wrong}
use Rattle.hex_lines.specs.Inner.{Begins, LineOf, AtLine, line_end}
use Rattle.hex_lines.proofs.ReadLaws.{begins_inside, closed_inside, checksum_is}
use Rattle.hex_lines.specs.declared.read.Line.{Line}
use Rattle.hex_lines.proofs.read.line_at.Goals as goal

module _ (s : List ℕ) (l : Line) (o : LineOf s l) where
  shape_of : shape_wrong l.kind l.length l.address ≡ shape_wrong (kind s) (data_length s) (address s)
  shape_of = λ i. shape_wrong (o.kind i) (o.length i) (o.address i)

  digits_of : (d : List ℕ) → d ≡ part s 1 (10 + 2 * l.length) → d ≡ part s 1 (10 + 2 * data_length s)
  digits_of d e = e ∙ ap (λ (n : ℕ). part s 1 (10 + 2 * n)) o.length

  -- a byte that is no digit
  no_line : (d : List ℕ) → d ≡ part s 1 (10 + 2 * l.length) → all_digits d ≡ false → Begins s → ⊥
  no_line d e f b = let z : ◌≡◌ {A = Bool} false true = sym f ∙ ap all_digits (digits_of d e) ∙ b.digits in cc

  -- what the code has tested of the numbers
  record Tested (w : Bool) : Type 0 where
    closed : l.tail ≡ 0 → ⊥
    shape : shape_wrong (kind s) (data_length s) (address s) ≡ false
    inside : line_end s < length s

  tested : (w : Bool) → w ≡ shape_wrong l.kind l.length l.address → eqb l.tail 0 || w ≡ false → Tested w
  tested w e f =
      let p = neither (eqb l.tail 0) w f in
      let n = eqb-false l.tail 0 p.0 in
      record { closed = n; shape = sym shape_of ∙ sym e ∙ p.1; inside = closed_inside s (line_end s) (λ e. n (o.tail ∙ e)) }

  found : {w : Bool} (d : List ℕ) (n : ℕ) → get_or s 0 0 ≡ mark → Tested w → d ≡ part s 1 (10 + 2 * l.length) → length d ≡ 10 + 2 * l.length
      → (all_digits d ≡ true) × (n ≡ sum (decoded d (length d / 2))) → AtLine s l (not (eqb (n % 256) 0))
  found d n m t e h p =
      let D : d ≡ part s 1 (10 + 2 * data_length s) = digits_of d e in
      let k : length d ≡ 10 + 2 * data_length s = h ∙ ap (λ (x : ℕ). 10 + 2 * x) o.length in
      record {
        begins = record {
          marked = m;
          digits = ap all_digits (sym D) ∙ p.0;
          shape = t.shape;
          closed = pos_of_ne-zero (λ x. t.closed (o.tail ∙ x));
        };
        line = o;
        checksum = checksum_is s n (p.1 ∙ (λ i. sum (decoded (D i) (k i / 2))));
      }

pub returns-then-s-lt-DATA_AT : goal.returns-then-s-lt-DATA_AT
returns-then-s-lt-DATA_AT c g = omega (arith, begins_inside _ g)

pub part-requires : goal.part-requires
part-requires c =
    let t = tested _ _ c.line_of-line.ensures _ c.shape_wrong.ensures c.if-line-shape_wrong.false in
    omega (arith, t.inside, c.line_of-line.ensures.length)

pub returns-in_err-total : goal.returns-in_err-total
returns-in_err-total c = rw c.from_residual.ensures (no_line _ _ c.line_of-line.ensures _ c.part.ensures.0 c.in_err-total.ensures)

pub returns : goal.returns
returns c =
    let t = tested _ _ c.line_of-line.ensures _ c.shape_wrong.ensures c.if-line-shape_wrong.false in
    found _ _ c.line_of-line.ensures _ _ c.if-s-ne-MARK.false t c.part.ensures.0 c.part.ensures.1 c.in_ok-total.ensures
