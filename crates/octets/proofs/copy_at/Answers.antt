-- `octets::copy_at` meets its contract. Assumes nothing.
use Prim.Native.Nat.{◌-◌}
use native.Mathlib.Omega.{arith}
use lib.ListN.{length}
use Rattle.octets.proofs.Lent.{lent}
use Rattle.octets.proofs.copy_at.Goals as goal

pub returns : goal.returns
returns c =
    let a = c.args in
    lent a.to.now a.from.now _ a.i (length a.to.now - a.i) (omega arith) (omega arith) c.copy.ensures
