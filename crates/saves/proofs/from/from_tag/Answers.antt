-- `saves::from::from_tag` meets its contract. Assumes nothing.
use Rattle.std.proofs.Common.{Bool, cond, [], length, replicate, sym, ap, ◌∙◌, arith}
use borrow.Author.Tests.{eqb-true, not-false}
use Rattle.octets.specs.Limits.{tag_length}
use Rattle.protocol.specs.Calls.{from_tag}
use Rattle.saves.proofs.from.from_tag.Goals as goal

pub returns-then-tag_wrong : goal.returns-then-tag_wrong
returns-then-tag_wrong c =
    let t = c.args.tag.now in
    let wrong = sym c.tag_wrong.ensures ∙ c.if-tag_wrong.true in
    (sym (ap (λ (b : Bool). from_tag (cond b [] t)) wrong), sym (ap (λ (b : Bool). cond b (replicate tag_length 0) t) wrong), c.no_session-session.ensures)

pub array-requires : goal.array-requires
array-requires c = (omega arith, eqb-true (length c.args.tag.now) tag_length (not-false _ (sym c.tag_wrong.ensures ∙ c.if-tag_wrong.false)))

pub returns : goal.returns
returns c =
    let t = c.args.tag.now in
    let right = sym c.tag_wrong.ensures ∙ c.if-tag_wrong.false in
    let same = c.array.ensures in
    (ap from_tag same ∙ sym (ap (λ (b : Bool). from_tag (cond b [] t)) right), same ∙ sym (ap (λ (b : Bool). cond b (replicate tag_length 0) t) right), c.no_session-session.ensures)
