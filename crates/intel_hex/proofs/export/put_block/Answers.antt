-- `intel_hex::export::put_block` meets its contract. Assumes nothing.
use native.Mathlib.Omega.{arith}
use lib.ListN.{length-append}
use Rattle.intel_hex.specs.Export.{upper_part, data_part, block}
use Rattle.hex_lines.proofs.WriteLaws.{wrote_on}
use Rattle.intel_hex.proofs.export.put_block.Goals as goal

pub put_upper-next-requires : goal.put_upper-next-requires
unfolding block
put_upper-next-requires c =
    let a = c.args in
    omega (arith, length-append (upper_part a.k) (data_part a.image.now a.k))

pub returns : goal.returns
unfolding block
returns c =
    wrote_on (omega arith) c.put_upper-next.ensures c.put_data.ensures

pub put_data-requires : goal.put_data-requires
unfolding block
put_data-requires c =
    let a = c.args in
    omega (arith, length-append (upper_part a.k) (data_part a.image.now a.k), c.put_upper-next.auto.text)
