-- `octets::part` meets its contract: a part from i to i + n is the n bytes from i on. Assumes nothing.
use native.Mathlib.Nat.{add-sub_cancel_left}
use native.Mathlib.Omega.{arith}
use lib.ListN.{length-take, length-drop}
use Rattle.octets.specs.Octets.{part}
use Rattle.octets.proofs.part.Goals as goal

pub returns : goal.returns
unfolding part
returns c = (simp add-sub_cancel_left, simp (add-sub_cancel_left, length-take, length-drop) (omega arith))
