-- `octets::copy` meets its contract: the first i bytes are copied, and the rest is as it was. Assumes nothing.
use Rattle.std.proofs.Common.{arith, rules, ◌∙◌}
use lib.Seq.{paste-zero}
use Rattle.octets.proofs.Tables.{paste_more, paste_all}
use Rattle.octets.proofs.copy.Goals as goal

pub loop-i-init : goal.loop-i-init
loop-i-init c = paste-zero _ 0 c.args.from.now

pub loop-i-preserved : goal.loop-i-preserved
loop-i-preserved c =
    let a = c.args in
    paste_more a.to.now a.from.now _ c.loop-i.i _ (omega arith) (omega arith) c.loop-i.invariant (search rules)

pub returns : goal.returns
returns c = c.loop-i.invariant ∙ paste_all c.args.to.now c.args.from.now c.loop-i.i (omega arith)
