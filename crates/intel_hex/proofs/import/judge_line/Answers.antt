-- `intel_hex::import::judge_line` meets its contract. Assumes nothing.
use Rattle.std.proofs.Common.{◌≡◌, ℕ, ◌+◌, ◌*◌, ◌<◌, Bool, List, drop, sym, ◌∙◌, arith}
use Rattle.std.proofs.Math.Option.{Option, none}
use Rattle.std.proofs.lemmas.Result.{err_from_is_err_and}
use Rattle.hex_lines.specs.Format.{boundary}
use Rattle.hex_lines.specs.Inner.{AtLine}
use Rattle.hex_lines.proofs.ReadLaws.{line_size}
use Rattle.intel_hex.specs.Import.{lines_of, after, or_else, text_stop}
use Rattle.intel_hex.specs.Inner.{checks, Passes}
use Rattle.intel_hex.specs.declared.import.Reading.{Reading}
use Rattle.hex_lines.specs.declared.read.Line.{Line}
use Rattle.intel_hex.proofs.TextLaws.{begun, stop_on, not_begun}
use Rattle.intel_hex.proofs.import.judge_line.Goals as goal

-- the stop of a text that begins with a line, from that of the line
line_stops : (s : List ℕ) (r : Reading) (size : ℕ) (l : Line) (wrong : Bool) (o : Option ℕ) → AtLine s l wrong → o ≡ checks size r l.kind l.address l.length wrong
    → text_stop size r (lines_of s) ≡ or_else o (text_stop size (after r s) (lines_of (drop (line_size s) s)))
line_stops s r size l wrong o a e =
    let n = a.line in
    stop_on s (begun s a.begins) size r
    ∙ sym ((λ i. or_else (e i) (text_stop size (after r s) (lines_of (drop (line_size s) s))))
    ∙ (λ i. or_else (checks size r (n.kind i) (n.address i) (n.length i) (a.checksum i)) (text_stop size (after r s) (lines_of (drop (line_size s) s)))))

passes : (s : List ℕ) (r r' : Reading) (size n : ℕ) (l : Line) (wrong : Bool) → AtLine s l wrong
    → none ≡ checks size r l.kind l.address l.length wrong → r' ≡ after r s → r'.upper < boundary → n ≡ 11 + 2 * l.length + l.tail
    → Passes s r size (record { reading = r'; length = n })
passes s r r' size n l wrong a e er h en =
    let o = a.line in
    let m : n ≡ line_size s = en ∙ (λ i. 11 + 2 * o.length i + o.tail i) in
    record {
      on = line_stops s r size l wrong none a e ∙ sym (λ i. text_stop size (er i) (lines_of (drop (m i) s)));
      more = omega (arith, en);
      within = omega (arith, m, (begun s a.begins).inside);
      upper = h;
    }

pub line_check-requires : goal.line_check-requires
line_check-requires c = let l = c.in-Some.ensures.line in (c.requires.1, l.low, l.short)

pub after-requires : goal.after-requires
after-requires c = let a = c.in-Some.ensures in (a.begins, a.line, c.requires.1)

pub line_length-requires : goal.line_length-requires
line_length-requires c = let l = c.in-Some.ensures.line in (l.short, l.ends)

pub returns-in_default : goal.returns-in_default
returns-in_default c = not_begun _ c.requires.0 _ _ c.in_default.ensures

pub returns-in_err-line_check : goal.returns-in_err-line_check
returns-in_err-line_check c =
    let p = err_from_is_err_and c.from_residual.result c.from_residual.ensures.1 in
    rw (p.1, p.2) (line_stops _ _ _ _ _ _ c.in-Some.ensures c.in_err-line_check.ensures)

pub returns : goal.returns
returns c = passes _ _ _ _ _ _ _ c.in-Some.ensures c.in_ok-line_check.ensures c.after.ensures.0 c.after.ensures.1 c.line_length.ensures
