-- `factory::factory_check` meets its contract. Assumes nothing.
use Rattle.std.proofs.Common.{sym, ◌∙◌}
use Rattle.std.proofs.lemmas.Result.{err_from_is_err_and}
use Rattle.look.proofs.LookLaws.{ring_stop, passed}
use Rattle.factory.proofs.Stages.{look_stays, named_stops}
use Rattle.factory.proofs.factory_check.Goals as goal

pub check_named-requires : goal.check_named-requires
check_named-requires c =
    let a = c.args in
    let p = passed a.memories.now.pages a.memories.now.slots a.memories.now.ring.now a.memories.now.fram.now a.key.now _ c.in_ok-reading.ensures in
    (p.fram_right, p.key_long, c.«record».ensures.1, p.names_half _ c.«record».ensures.0)

pub returns-in_err-reading : goal.returns-in_err-reading
returns-in_err-reading c =
    let a = c.args in
    let p = err_from_is_err_and c.from_residual.result c.from_residual.ensures.1 in
    rw (p.1, p.2)
    (sym (look_stays a.memories.now.pages a.memories.now.slots a.memories.now.ring.now a.memories.now.fram.now a.key.now
    (ring_stop a.memories.now.pages a.memories.now.slots a.memories.now.ring.now a.memories.now.fram.now a.key.now (sym c.in_err-reading.ensures.stop))))

pub returns : goal.returns
returns c =
    let a = c.args in
    let p = passed a.memories.now.pages a.memories.now.slots a.memories.now.ring.now a.memories.now.fram.now a.key.now _ c.in_ok-reading.ensures in
    c.check_named.ensures
    ∙ named_stops a.memories.now.pages a.memories.now.slots a.memories.now.ring.now a.memories.now.fram.now a.key.now _ _ p.found (p.record_newest _ c.«record».ensures.0) p.none_applies
