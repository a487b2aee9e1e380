-- `intel_hex::export::put_upper` meets its contract. Assumes nothing.
use mathlib.Core.Path.{sym, ap, ◌∙◌}
use native.Mathlib.Omega.{arith}
use borrow.Author.Rules.{rules}
use Rattle.hex_lines.specs.Format.{upper_line}
use Rattle.hex_lines.specs.Line.{hex_line}
use Rattle.hex_lines.proofs.WriteLaws.{wrote_none, wrote_as}
use Rattle.intel_hex.proofs.ExportLaws.{upper_some, upper_none}
use Rattle.intel_hex.proofs.export.put_upper.Goals as goal

pub returns-then-from-ne0 : goal.returns-then-from-ne0
returns-then-from-ne0 c =
    let a = c.args in
    wrote_as (sym (upper_none a.k c.if-from-ne0.true)) (wrote_none a.text.now a.at)

pub put_line_at-requires : goal.put_line_at-requires
put_line_at-requires c = (search rules, search rules, rw (ap (hex_line upper_line 0) c.two_bytes-bits.ensures ∙ sym (upper_some _ c.if-from-ne0.false)) (omega arith))

pub returns : goal.returns
returns c =
    wrote_as (ap (hex_line upper_line 0) c.two_bytes-bits.ensures ∙ sym (upper_some _ c.if-from-ne0.false)) c.put_line_at.ensures
