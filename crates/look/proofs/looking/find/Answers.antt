-- `look::looking::find` meets its contract. Assumes nothing.
use Rattle.std.proofs.Common.{[], ◌∷◌, sym}
use Rattle.std.proofs.lemmas.Result.{err_from_is_err_and}
use Rattle.stops.proofs.Laws.{one_more, passes}
use Rattle.look.specs.Stages.{look_buffers}
use Rattle.look.proofs.LookLaws.{finds_buffers_stop, finds_ring_stop, finds}
use Rattle.look.proofs.looking.find.Goals as goal

pub read-reading-requires : goal.read-reading-requires
read-reading-requires c =
    let a = c.args in
    (passes (look_buffers a.memories.now.pages a.memories.now.slots a.memories.now.ring.now a.memories.now.fram.now a.key.now) (sym (one_more (_ ∷ _ ∷ []) 3 _ _ _ _ c.check.ensures c.key_wrong.ensures c.in_ok-stop_if.ensures))).0

pub returns-in_err-stop_if : goal.returns-in_err-stop_if
returns-in_err-stop_if c =
    let a = c.args in
    let p = err_from_is_err_and c.from_residual.result c.from_residual.ensures.1 in
    rw (p.1, p.2)
    (finds_buffers_stop a.memories.now.pages a.memories.now.slots a.memories.now.ring.now a.memories.now.fram.now a.key.now _
    (one_more (_ ∷ _ ∷ []) 3 _ _ _ _ c.check.ensures c.key_wrong.ensures c.in_err-stop_if.ensures))

pub returns-in_err-check_newest : goal.returns-in_err-check_newest
returns-in_err-check_newest c =
    let a = c.args in
    let p = err_from_is_err_and c.from_residual-in_err-check_newest.result c.from_residual-in_err-check_newest.ensures.1 in
    rw (p.1, p.2)
    (finds_ring_stop a.memories.now.pages a.memories.now.slots a.memories.now.ring.now a.memories.now.fram.now a.key.now c.read-reading.result _
    (one_more (_ ∷ _ ∷ []) 3 _ _ _ _ c.check.ensures c.key_wrong.ensures c.in_ok-stop_if.ensures)
    c.read-reading.ensures c.in_err-check_newest.ensures)

pub returns : goal.returns
returns c =
    let a = c.args in
    finds a.memories.now.pages a.memories.now.slots a.memories.now.ring.now a.memories.now.fram.now a.key.now c.read-reading.result
    (one_more (_ ∷ _ ∷ []) 3 _ _ _ _ c.check.ensures c.key_wrong.ensures c.in_ok-stop_if.ensures)
    c.read-reading.ensures c.in_ok-check_newest.ensures
