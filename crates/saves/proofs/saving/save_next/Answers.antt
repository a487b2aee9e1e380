-- `saves::saving::save_next` meets its contract. Assumes nothing.
use Rattle.std.proofs.Common.{ℕ, ◌-◌, rules, refl, sym, ap, ◌∙◌, arith}
use Rattle.std.proofs.lemmas.Result.{err_from_is_err_and}
use Rattle.octets.specs.Limits.{packet_limit}
use Rattle.stops.proofs.Laws.{passes}
use Rattle.ring.specs.Ring.{half_named}
use Rattle.ring.proofs.NewestLaws.{newest_half_fits}
use Rattle.checkpoint.specs.Checkpoint.{Longer}
use Rattle.protocol.specs.Calls.{from_session, SaveArguments}
use Rattle.protocol.proofs.Saves.{larger_small, restarts_small}
use Rattle.memories.proofs.ReadLaws.{record_is, page_is, slot_is}
use Rattle.jobs.specs.View.{view_session}
use Rattle.saves.specs.View.{arguments_of}
use Rattle.saves.proofs.Laws.{buffers_pass, lines_tried, on_next, session_in_range, save_stops, next_begins}
use Rattle.saves.proofs.saving.save_next.Goals as goal

pub read-reading-requires : goal.read-reading-requires
read-reading-requires c =
    let a = c.args in
    (buffers_pass a.memories.now.ring.now a.memories.now.fram.now (arguments_of a.memories.now a.draft.now a.staging.now) (from_session (view_session a.session)) c.requires).ring_right

pub overflow_sub-target : goal.overflow_sub-target
overflow_sub-target c =
    let a = c.args in
    let call : SaveArguments = arguments_of a.memories.now a.draft.now a.staging.now in
    let right = (buffers_pass a.memories.now.ring.now a.memories.now.fram.now call (from_session (view_session a.session)) c.requires).ring_right in
    let p = passes _ (sym (lines_tried a.memories.now.ring.now a.memories.now.fram.now call (view_session a.session) _ _ c.read-reading.ensures c.in_ok-check_next.ensures)) in
    let fits = newest_half_fits a.memories.now.pages a.memories.now.slots a.memories.now.ring.now right p.0 p.1.0 in
    let named = c.half_named.ensures ∙ ap half_named (c.«record».ensures.0 ∙ record_is _ _ _ _ c.read-reading.ensures) in
    omega (arith, fits, named)

pub begin_save-requires : goal.begin_save-requires
begin_save-requires c =
    let a = c.args in
    let call : SaveArguments = arguments_of a.memories.now a.draft.now a.staging.now in
    let l = (buffers_pass a.memories.now.ring.now a.memories.now.fram.now call (from_session (view_session a.session)) c.requires).lengths_right in
    let s = session_in_range a.memories.now.ring.now a.memories.now.fram.now call (view_session a.session) (sym (lines_tried a.memories.now.ring.now a.memories.now.fram.now call (view_session a.session) _ _ c.read-reading.ensures c.in_ok-check_next.ensures)) in (
      l.key,
      (
        l.nonce,
        rw c.larger.ensures (larger_small _ _ packet_limit s.1 l.packet),
        rw c.save_restarts.ensures (restarts_small Longer _ _ _ (λ e. s.0)),
        search (rules, c.well_formed),
        l.open_part,
        l.secret,
        l.staging,
      ),
    )

pub returns-in_err-check_next : goal.returns-in_err-check_next
returns-in_err-check_next c =
    let a = c.args in
    let call : SaveArguments = arguments_of a.memories.now a.draft.now a.staging.now in
    let p = err_from_is_err_and c.from_residual.result c.from_residual.ensures.1 in
    rw (p.1, p.2)
    (save_stops a.memories.now.ring.now a.memories.now.fram.now call (from_session (view_session a.session)) _ refl
    (on_next a.memories.now.ring.now a.memories.now.fram.now call (view_session a.session) _ refl c.requires
    ∙ sym (lines_tried a.memories.now.ring.now a.memories.now.fram.now call (view_session a.session) _ _ c.read-reading.ensures c.in_err-check_next.ensures)))

pub returns : goal.returns
returns c =
    let a = c.args in
    let call : SaveArguments = arguments_of a.memories.now a.draft.now a.staging.now in
    let n = c.read-reading.ensures in
    next_begins a.memories.now.ring.now a.memories.now.fram.now call (view_session a.session) _ _ _ _ _ _ c.larger.ensures c.save_restarts.ensures
    (ap (λ (h : ℕ). 1 - h) (c.half_named.ensures ∙ ap half_named (c.«record».ensures.0 ∙ record_is _ _ _ _ n)))
    (c.target_page.ensures ∙ page_is _ _ _ _ n) (c.target_slot.ensures ∙ slot_is _ _ _ _ n)
    c.begin_save.ensures
    (on_next a.memories.now.ring.now a.memories.now.fram.now call (view_session a.session) _ refl c.requires
    ∙ sym (lines_tried a.memories.now.ring.now a.memories.now.fram.now call (view_session a.session) _ _ n c.in_ok-check_next.ensures))
