-- `hex_lines::read::line_of` meets its contract. Assumes nothing.
use mathlib.Core.Path.{ap, ◌∙◌}
use Prim.Native.Nat.{ℕ, ◌+◌, ◌*◌}
use borrow.Author.Rules.{rules}
use Rattle.hex_lines.specs.Inner.{end_length}
use Rattle.hex_lines.proofs.read.line_of.Goals as goal

pub returns : goal.returns
returns c =
    let s = c.args.s.now in
    record {
      length = c.pair-length.ensures;
      address = c.number.ensures.0;
      kind = c.pair.ensures;
      tail = c.end_length.ensures.0 ∙ ap (λ (n : ℕ). end_length s (11 + 2 * n)) c.pair-length.ensures;
      short = search rules;
      low = c.number.ensures.1;
      ends = c.end_length.ensures.1;
    }
