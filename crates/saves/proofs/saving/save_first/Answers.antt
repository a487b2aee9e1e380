-- `saves::saving::save_first` meets its contract. Assumes nothing.
use Rattle.std.proofs.Common.{rules, refl, sym, ◌∙◌}
use Rattle.std.proofs.lemmas.Result.{err_from_is_err_and}
use Rattle.protocol.specs.Calls.{from_tag, SaveArguments}
use Rattle.saves.specs.View.{arguments_of}
use Rattle.saves.proofs.Laws.{buffers_pass, right_tag, on_first, save_stops, first_begins}
use Rattle.saves.proofs.saving.save_first.Goals as goal

pub begin_save-requires : goal.begin_save-requires
begin_save-requires c =
    let a = c.args in
    let f = buffers_pass a.memories.now.ring.now a.memories.now.fram.now (arguments_of a.memories.now a.draft.now a.staging.now) (from_tag a.starting_tag) c.requires in
    let l = f.lengths_right in
    (l.key, (l.nonce, l.packet, search rules, right_tag a.starting_tag f.from_right, l.open_part, l.secret, l.staging))

pub returns-in_err-check_first : goal.returns-in_err-check_first
returns-in_err-check_first c =
    let a = c.args in
    let call : SaveArguments = arguments_of a.memories.now a.draft.now a.staging.now in
    let p = err_from_is_err_and c.from_residual.result c.from_residual.ensures.1 in
    rw (p.1, p.2)
    (save_stops a.memories.now.ring.now a.memories.now.fram.now call (from_tag a.starting_tag) _ refl
    (on_first a.memories.now.ring.now a.memories.now.fram.now call a.starting_tag _ refl c.requires ∙ sym c.in_err-check_first.ensures))

pub returns : goal.returns
returns c =
    let a = c.args in
    let call : SaveArguments = arguments_of a.memories.now a.draft.now a.staging.now in
    first_begins a.memories.now.ring.now a.memories.now.fram.now call a.starting_tag _ c.begin_save.ensures
    (on_first a.memories.now.ring.now a.memories.now.fram.now call a.starting_tag _ refl c.requires ∙ sym c.in_ok-check_first.ensures)
