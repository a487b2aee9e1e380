-- `look::looking::see` meets its contract. Assumes nothing.
use Rattle.std.proofs.lemmas.Result.{err_from_is_err_and}
use Rattle.look.proofs.LookLaws.{passed, unseen, sees_half}
use Rattle.look.proofs.looking.see.Goals as goal

pub see_half-requires : goal.see_half-requires
see_half-requires c =
    let a = c.args in
    let p = passed a.memories.now.pages a.memories.now.slots a.memories.now.ring.now a.memories.now.fram.now a.key.now _ c.in_ok-reading.ensures in
    (p.fram_right, p.key_long, c.«record».ensures.1, p.names_half _ c.«record».ensures.0)

pub returns-in_err-reading : goal.returns-in_err-reading
returns-in_err-reading c =
    let a = c.args in
    let p = err_from_is_err_and c.from_residual.result c.from_residual.ensures.1 in
    rw (p.1, p.2) (unseen a.memories.now.pages a.memories.now.slots a.memories.now.ring.now a.memories.now.fram.now a.key.now _ c.in_err-reading.ensures.stop)

pub returns : goal.returns
returns c =
    let a = c.args in
    let p = passed a.memories.now.pages a.memories.now.slots a.memories.now.ring.now a.memories.now.fram.now a.key.now _ c.in_ok-reading.ensures in
    sees_half a.memories.now.pages a.memories.now.slots a.memories.now.ring.now a.memories.now.fram.now a.key.now _ _ (p.record_newest _ c.«record».ensures.0) p.none_applies c.see_half.ensures
