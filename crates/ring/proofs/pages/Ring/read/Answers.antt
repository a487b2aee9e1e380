-- `ring::pages::Ring::read` meets its contract: up to three searches show how the list of used pages begins, and so which case of the definition holds. Assumes nothing.
use Rattle.std.proofs.Common.{sym, ◌∙◌}
use Rattle.ring.proofs.PassLaws.{read_none, read_one, read_two, read_more, and_within}
use Rattle.ring.proofs.pages.Ring.read.Goals as goal

pub returns-in_default : goal.returns-in_default
returns-in_default c = and_within _ _ _ c.args.self.now.right (sym (read_none _ _ _ c.in_default.ensures.first))

pub returns-in_default-next_used : goal.returns-in_default-next_used
returns-in_default-next_used c =
    and_within _ _ _ c.args.self.now.right
    (c.alone.ensures ∙ sym (read_one _ _ _ c.in-Some.ensures.first c.in-Some.ensures.within c.in_default-next_used.ensures.first))

pub returns-then-is_some : goal.returns-then-is_some
returns-then-is_some c =
    let p = c.in-Some.ensures in
    let q = c.in-Some-next_used.ensures in
    and_within _ _ _ c.args.self.now.right (sym (read_more _ _ _ p.first p.within q.first q.within _ c.next_used-3.ensures.first (sym c.is_some.ensures ∙ c.if-is_some.true)))

pub returns : goal.returns
returns c =
    let p = c.in-Some.ensures in
    let q = c.in-Some-next_used.ensures in
    and_within _ _ _ c.args.self.now.right
    (c.pair.ensures ∙ sym (read_two _ _ _ p.first p.within q.first q.within _ c.next_used-3.ensures.first (sym c.is_some.ensures ∙ c.if-is_some.false)))
