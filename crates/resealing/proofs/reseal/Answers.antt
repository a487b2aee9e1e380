-- `resealing::reseal` meets its contract. Assumes nothing.
use Rattle.std.proofs.Common.{arith}
use Rattle.std.proofs.lemmas.Grind.{common_steps}
use Rattle.resealing.proofs.reseal.Goals as goal

pub returns : goal.returns
returns c =
    let e = c.with_key.ensures in
    let got = e.2.met.1 c.args.key.now e.1 in
    grind (arith, common_steps, got)
