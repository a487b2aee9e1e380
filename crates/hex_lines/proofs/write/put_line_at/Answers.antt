-- `hex_lines::write::put_line_at` meets its contract: what is written to the front of the rest is written to the text. Assumes nothing.
use Prim.Native.Nat.{◌-◌}
use native.Mathlib.Omega.{arith}
use lib.ListN.{length}
use Rattle.octets.proofs.Lent.{lent}
use Rattle.hex_lines.specs.Line.{hex_line}
use Rattle.hex_lines.proofs.WriteLaws.{length_hex_line}
use Rattle.hex_lines.proofs.write.put_line_at.Goals as goal

pub put_line-requires : goal.put_line-requires
put_line-requires c = let a = c.args in omega (arith, length_hex_line a.kind a.address a.s.now)

pub returns : goal.returns
returns c =
    let put = c.put_line in
    let a = c.args in
    let line = hex_line a.kind a.address a.s.now in
    record {
      written = lent a.text.now line _ a.at (length a.text.now - a.at) (omega arith) (omega arith) put.ensures.written;
      ends = omega arith;
    }
