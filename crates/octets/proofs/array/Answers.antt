-- `octets::array` meets its contract. Assumes nothing.
use Rattle.std.proofs.Common.{arith}
use Rattle.octets.proofs.Lent.{over}
use Rattle.octets.proofs.array.Goals as goal

pub returns : goal.returns
returns g c = over _ c.args.s.now _ (omega (arith, c.requires)) c.copy.ensures
