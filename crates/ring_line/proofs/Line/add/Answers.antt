-- `ring_line::Line::add` meets its contract: the text is copied behind the line's. Assumes nothing.
use Rattle.std.proofs.Common.{rules}
use Rattle.ring_line.proofs.LineLaws.{added}
use Rattle.ring_line.proofs.Line.add.Goals as goal

pub returns : goal.returns
returns c =
    added c.args.self c.args.text.now _ (search rules) c.requires c.copy_at.ensures
