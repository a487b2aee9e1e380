-- `saves::types::From::save` meets its contract. Assumes nothing.
use Rattle.std.proofs.Common.{◌≡◌, refl, sym, ap, subst, ◌∙◌}
use Rattle.std.proofs.lemmas.Result.{err_from_is_err_and}
use mathlib.Core.Option.{none}
use Rattle.stops.specs.Stops.{first_of}
use Rattle.protocol.specs.Types.{this_firmware}
use Rattle.protocol.specs.Calls.{From, SaveArguments, saves}
use Rattle.protocol.specs.Operations.{save}
use Rattle.saves.specs.View.{view_from, arguments_of}
use Rattle.saves.specs.Stages.{save_buffers}
use Rattle.saves.proofs.ViewLaws.{given_is}
use Rattle.saves.proofs.Laws.{buffers_pass, buffers_stop, save_stops, no_wrong_tag}
use Rattle.saves.proofs.types.From.save.Goals as goal

-- the first stage passes with what was given
pub save_first-requires : goal.save_first-requires
save_first-requires c =
    let a = c.args in
    let call : SaveArguments = arguments_of a.memories.now a.draft.now a.staging.now in
    subst (λ (f : From). first_of (save_buffers a.memories.now.ring.now a.memories.now.fram.now call f) ≡ none) (given_is a.self c.in-StartingTag.is) (sym c.in_ok-check_buffers.ensures)

pub save_next-requires : goal.save_next-requires
save_next-requires c =
    let a = c.args in
    let call : SaveArguments = arguments_of a.memories.now a.draft.now a.staging.now in
    subst (λ (f : From). first_of (save_buffers a.memories.now.ring.now a.memories.now.fram.now call f) ≡ none) (given_is a.self c.in-Session.is) (sym c.in_ok-check_buffers.ensures)

pub returns-in_err-check_buffers : goal.returns-in_err-check_buffers
returns-in_err-check_buffers c =
    let a = c.args in
    let call : SaveArguments = arguments_of a.memories.now a.draft.now a.staging.now in
    let p = err_from_is_err_and c.from_residual.result c.from_residual.ensures.1 in
    rw (p.1, p.2)
    (save_stops a.memories.now.ring.now a.memories.now.fram.now call (view_from a.self) _ refl
    (buffers_stop a.memories.now.ring.now a.memories.now.fram.now call (view_from a.self) (sym c.in_err-check_buffers.ensures)))

pub returns-in-StartingTag : goal.returns-in-StartingTag
returns-in-StartingTag c =
    let a = c.args in
    let call : SaveArguments = arguments_of a.memories.now a.draft.now a.staging.now in
    c.save_first.ensures ∙ ap (λ (f : From). save this_firmware a.memories.now.ring.now a.memories.now.fram.now (saves call f)) (sym (given_is a.self c.in-StartingTag.is))

pub returns-in-Session : goal.returns-in-Session
returns-in-Session c =
    let a = c.args in
    let call : SaveArguments = arguments_of a.memories.now a.draft.now a.staging.now in
    c.save_next.ensures ∙ ap (λ (f : From). save this_firmware a.memories.now.ring.now a.memories.now.fram.now (saves call f)) (sym (given_is a.self c.in-Session.is))

pub returns-in-WrongTag : goal.returns-in-WrongTag
returns-in-WrongTag c =
    let a = c.args in
    let call : SaveArguments = arguments_of a.memories.now a.draft.now a.staging.now in
    no_wrong_tag _ (given_is a.self c.in-WrongTag.is) (buffers_pass a.memories.now.ring.now a.memories.now.fram.now call (view_from a.self) (sym c.in_ok-check_buffers.ensures)).from_right
