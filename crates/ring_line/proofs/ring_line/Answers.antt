-- `ring_line::ring_line` meets its contract: the test of the sizes picks the case of the definition. Assumes nothing.
use Rattle.std.proofs.Common.{◌++◌, arith, ap, ◌∙◌}
use Rattle.ring.specs.Ring.{read_ring}
use Rattle.ring_line.specs.Text.{ascii, refused_line, newest_text}
use Rattle.ring_line.specs.Line.{line_limit}
use Rattle.ring_line.proofs.LineLaws.{behind, no_longer, text_wrong, text_right}
use Rattle.ring_line.proofs.ring_line.Goals as goal

pub returns-in-Err : goal.returns-in-Err
returns-in-Err c =
    let a = c.args in
    let e = c.in-Err.ensures in
    no_longer line_limit (ap refused_line e.1 ∙ text_wrong a.pages a.slots a.ring.now e.0) (omega arith) c.refused_line.ensures

pub returns-in-Ok : goal.returns-in-Ok
returns-in-Ok c =
    let a = c.args in
    let e = c.in-Ok.ensures in
    no_longer line_limit ((λ i. newest_text (e.1 i) (e.3 i) (read_ring (e.1 i) (e.2 i) (e.3 i)) ++ ascii "\n") ∙ text_right a.pages a.slots a.ring.now e.0) (omega arith)
    (behind 38 c.found.ensures c.add.ensures (omega arith))
