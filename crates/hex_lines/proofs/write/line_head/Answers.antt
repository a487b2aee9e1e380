-- `hex_lines::write::line_head` meets its contract. Assumes nothing.
use Rattle.octets.specs.Octets.{bytes}
use Rattle.hex_lines.proofs.write.line_head.Goals as goal

pub returns : goal.returns
unfolding bytes
returns c = rw c.two_bytes-low.ensures
