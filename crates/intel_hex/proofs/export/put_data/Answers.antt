-- `intel_hex::export::put_data` meets its contract. Assumes nothing.
use native.Mathlib.Omega.{arith}
use lib.ListN.{length-take}
use borrow.Author.Rules.{rules}
use Rattle.intel_hex.proofs.ExportLaws.{data_part_is}
use Rattle.hex_lines.proofs.WriteLaws.{wrote_as}
use Rattle.intel_hex.proofs.export.put_data.Goals as goal

pub put_line_at-requires : goal.put_line_at-requires
put_line_at-requires c =
    let a = c.args in (
      rw length-take (omega arith),
      search rules,
      rw (data_part_is a.image.now a.k _ c.data_end-end.ensures (omega arith)) (omega arith),
    )

pub returns : goal.returns
returns c =
    let a = c.args in
    wrote_as (data_part_is a.image.now a.k _ c.data_end-end.ensures (omega arith)) c.put_line_at.ensures
