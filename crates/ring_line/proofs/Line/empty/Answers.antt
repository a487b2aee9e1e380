-- `ring_line::Line::empty` meets its contract: nothing put at the front of zeros leaves zeros. Assumes nothing.
use mathlib.Core.Path.{refl}
use native.Mathlib.Omega.{arith}
use Rattle.octets.specs.Octets.{put}
use Rattle.ring_line.proofs.Line.empty.Goals as goal

pub returns : goal.returns
unfolding put
returns c = record { room = refl; short = omega arith; holds = refl }
