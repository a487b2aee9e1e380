-- `saves::types::From::save_check` meets its contract. Assumes nothing.
use Rattle.std.proofs.Common.{sym, ◌∙◌}
use Rattle.std.proofs.lemmas.Result.{err_from_is_err_and}
use Rattle.protocol.specs.Calls.{SaveArguments}
use Rattle.jobs.specs.View.{view_session}
use Rattle.saves.specs.View.{view_from, arguments_of}
use Rattle.saves.proofs.ViewLaws.{given_is}
use Rattle.saves.proofs.Laws.{buffers_pass, buffers_stop, lines_tried, on_first, on_next, no_wrong_tag}
use Rattle.saves.proofs.types.From.save_check.Goals as goal

pub returns-in_err-check_buffers : goal.returns-in_err-check_buffers
returns-in_err-check_buffers c =
    let a = c.args in
    let call : SaveArguments = arguments_of a.memories.now a.draft.now a.staging.now in
    let p = err_from_is_err_and c.from_residual.result c.from_residual.ensures.1 in
    rw (p.1, p.2) (sym (buffers_stop a.memories.now.ring.now a.memories.now.fram.now call (view_from a.self) (sym c.in_err-check_buffers.ensures)))

pub returns-in-StartingTag : goal.returns-in-StartingTag
returns-in-StartingTag c =
    let a = c.args in
    let call : SaveArguments = arguments_of a.memories.now a.draft.now a.staging.now in
    c.check_first.ensures ∙ sym (on_first a.memories.now.ring.now a.memories.now.fram.now call a.self.tag _ (given_is a.self c.in-StartingTag.is) (sym c.in_ok-check_buffers.ensures))

pub read-requires : goal.read-requires
read-requires c =
    let a = c.args in
    (buffers_pass a.memories.now.ring.now a.memories.now.fram.now (arguments_of a.memories.now a.draft.now a.staging.now) (view_from a.self) (sym c.in_ok-check_buffers.ensures)).ring_right

pub returns-in-Session : goal.returns-in-Session
returns-in-Session c =
    let a = c.args in
    let call : SaveArguments = arguments_of a.memories.now a.draft.now a.staging.now in
    lines_tried a.memories.now.ring.now a.memories.now.fram.now call (view_session a.self.session) _ _ c.read.ensures c.check_next.ensures
    ∙ sym (on_next a.memories.now.ring.now a.memories.now.fram.now call (view_session a.self.session) _ (given_is a.self c.in-Session.is) (sym c.in_ok-check_buffers.ensures))

pub returns-in-WrongTag : goal.returns-in-WrongTag
returns-in-WrongTag c =
    let a = c.args in
    let call : SaveArguments = arguments_of a.memories.now a.draft.now a.staging.now in
    no_wrong_tag _ (given_is a.self c.in-WrongTag.is) (buffers_pass a.memories.now.ring.now a.memories.now.fram.now call (view_from a.self) (sym c.in_ok-check_buffers.ensures)).from_right
