-- `hex_lines::read::end_length` meets its contract. Assumes nothing.
use mathlib.Core.Path.{sym}
use Prim.Native.Nat.{◌+◌}
use native.Mathlib.Omega.{arith}
use lib.ListN.{get_or-eq_default}
use borrow.Author.Rules.{rules}
use Rattle.hex_lines.proofs.ReadLaws.{end_past, end_is_feed, end_is_return, end_is_none}
use Rattle.hex_lines.proofs.read.end_length.Goals as goal

pub returns-then-i-s : goal.returns-then-i-s
returns-then-i-s c = (sym (end_past _ _ c.if-i-s.true), search rules)

pub returns-then-s-i-eq-LINE_FEED : goal.returns-then-s-i-eq-LINE_FEED
returns-then-s-i-eq-LINE_FEED c = (sym (end_is_feed _ _ c.if-s-i-eq-LINE_FEED.true), search rules)

pub returns-then-s-i-ne-CARRIAGE_RETURN : goal.returns-then-s-i-ne-CARRIAGE_RETURN
returns-then-s-i-ne-CARRIAGE_RETURN c = (sym (end_is_none _ _ c.if-s-i-eq-LINE_FEED.false (λ e. absurd (c.if-s-i-ne-CARRIAGE_RETURN.true e))), search rules)

pub returns-then-next-s : goal.returns-then-next-s
returns-then-next-s c =
    let a = c.args in
    (sym (end_is_none _ _ c.if-s-i-eq-LINE_FEED.false (λ e f. omega (arith, f, get_or-eq_default a.s.now 0 {n = a.i + 1} c.if-next-s.true))), search rules)

pub returns-then-s-next-eq-LINE_FEED : goal.returns-then-s-next-eq-LINE_FEED
returns-then-s-next-eq-LINE_FEED c = (sym (end_is_return _ _ c.if-s-i-ne-CARRIAGE_RETURN.false c.if-s-next-eq-LINE_FEED.true), search rules)

pub returns-else-s-next-eq-LINE_FEED : goal.returns-else-s-next-eq-LINE_FEED
returns-else-s-next-eq-LINE_FEED c = (sym (end_is_none _ _ c.if-s-i-eq-LINE_FEED.false (λ e f. c.if-s-next-eq-LINE_FEED.false f)), search rules)
