-- `octets::blank` meets its contract: the slice is blank if what is left of it is. Assumes nothing.
use Rattle.std.proofs.Common.{refl, sym, ◌∙◌, arith}
use Rattle.octets.proofs.Laws.{blank_stops, blank_goes, blank_ends}
use Rattle.octets.proofs.blank.Goals as goal

pub loop-b-init : goal.loop-b-init
loop-b-init c = (omega arith, refl)

pub returns-then-b : goal.returns-then-b
returns-then-b c =
    let k = c.loop-b in
    sym (k.invariant.1 ∙ blank_stops _ k.b-index (omega arith) c.if-b.true)

pub loop-b-preserved : goal.loop-b-preserved
loop-b-preserved c =
    let k = c.loop-b in
    (omega arith, k.invariant.1 ∙ blank_goes _ k.b-index (omega arith) c.if-b.false)

pub returns : goal.returns
returns c = sym (c.loop-b.invariant.1 ∙ blank_ends _ c.loop-b.b-index (omega arith))
