-- `ring_line::refused` meets its contract: the number stands behind the word. Assumes nothing.
use native.Mathlib.Omega.{arith}
use Rattle.ring_line.specs.Text.{refused_text}
use Rattle.ring_line.proofs.LineLaws.{behind}
use Rattle.ring_line.proofs.refused.Goals as goal

pub returns : goal.returns
unfolding refused_text
returns c =
    behind 11 (behind 8 c.empty.ensures c.add.ensures (omega arith)) c.add_decimal.ensures.0 (omega arith)
