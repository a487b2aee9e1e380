-- `hex_lines::write::put_line` meets its contract: the mark, the digits of the head, the data and the checksum, and the line feed are written
-- one behind the other. Assumes nothing.
use native.Mathlib.Omega.{arith}
use lib.ListN.{length-set}
use Rattle.hex_lines.specs.Format.{mark}
use Rattle.hex_lines.proofs.WriteLaws.{line_written}
use Rattle.hex_lines.proofs.write.put_line.Goals as goal

pub encode-requires : goal.encode-requires
encode-requires c = simp length-set (omega arith)

pub encode-requires-2 : goal.encode-requires-2
encode-requires-2 c =
    omega (arith, length-set c.args.out.now 0 mark)

pub returns : goal.returns
returns c =
    let a = c.args in
    line_written a.kind a.address a.s.now a.out.now _ _ _ _ _ _ _ (omega arith) c.line_head-head.ensures c.sum.ensures.0
    c.sum-2.ensures.0 c.checksum.ensures c.encode.ensures c.encode-2.ensures c.encode-3.ensures
