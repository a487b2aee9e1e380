-- `intel_hex::export::put_text` meets its contract: the first k data lines are written, with the type 04 lines before them. Assumes nothing.
use mathlib.Core.Path.{ap, ◌∙◌}
use mathlib.Core.List.{[]}
use native.Mathlib.Omega.{arith}
use lib.ListN.{length, length-append}
use borrow.Author.Rules.{rules}
use Rattle.hex_lines.specs.Format.{end_line}
use Rattle.hex_lines.specs.Line.{hex_line}
use Rattle.hex_lines.proofs.WriteLaws.{wrote_none, wrote_as, wrote_on}
use Rattle.intel_hex.specs.Export.{blocks}
use Rattle.intel_hex.proofs.ExportLaws.{block_fits, blocks_more, text_whole, image_fits}
use Rattle.intel_hex.proofs.export.put_text.Goals as goal

pub line_count-n-requires : goal.line_count-n-requires
line_count-n-requires c = omega (arith, image_fits (length c.args.image.now) c.requires.0)

pub loop-k-init : goal.loop-k-init
unfolding blocks
loop-k-init c = (omega arith, search rules, wrote_none c.args.text.now 0)

pub put_block-at-requires : goal.put_block-at-requires
put_block-at-requires c =
    let image = c.args.image.now in (
      image_fits (length image) c.requires.0,
      omega arith,
      omega (arith, block_fits image c.loop-k.k (omega arith)),
    )

pub loop-k-preserved : goal.loop-k-preserved
loop-k-preserved c =
    let k = c.loop-k in (
      omega arith,
      c.put_block-at.auto.text ∙ k.invariant.1,
      wrote_as (blocks_more _ k.k) (wrote_on (omega arith) k.invariant.2 c.put_block-at.ensures),
    )

pub put_line_at-requires : goal.put_line_at-requires
put_line_at-requires c =
    let image = c.args.image.now in
    let e = text_whole image c.loop-k.k (omega arith) in
    (omega arith, omega arith, omega (arith, ap length e, length-append (blocks image c.loop-k.k) (hex_line end_line 0 [])))

pub returns : goal.returns
returns c =
    wrote_as (text_whole c.args.image.now c.loop-k.k (omega arith)) (wrote_on (omega arith) c.loop-k.invariant.2 c.put_line_at.ensures)
