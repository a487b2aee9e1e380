-- `ring_line::place` meets its contract: the parts of the text stand one behind the other. Assumes nothing.
use native.Mathlib.Omega.{arith}
use Rattle.ring_line.specs.Text.{place_text}
use Rattle.ring_line.proofs.LineLaws.{behind}
use Rattle.ring_line.proofs.place.Goals as goal

pub returns : goal.returns
unfolding place_text
returns c =
    let first = behind 5 c.empty.ensures c.add.ensures (omega arith) in
    let second = behind 8 first c.add_decimal-line.ensures.0 (omega arith) in
    let third = behind 14 second c.add-2.ensures (omega arith) in
    let fourth = behind 17 third c.add_decimal-line-2.ensures.0 (omega arith) in
    let fifth = behind 24 fourth c.add_half.ensures.0 (omega arith) in
    behind 33 fifth c.add-3.ensures (omega arith)
