-- `keeper_c::calls::keeper_look` meets its contract. Assumes nothing.
use Rattle.std.proofs.Common.{rules}
use Rattle.look.specs.View.{looks}
use Rattle.keeper_c.proofs.LookLaws.{restarts_small, unseen, seen}
use Rattle.keeper_c.proofs.calls.keeper_look.Goals as goal

pub overflow_cast-restarts : goal.overflow_cast-restarts
overflow_cast-restarts c =
    let a = c.args in
    let small = restarts_small a.ring.now a.fram.now (looks a.pages a.slots a.key.now) 0 0 0 _ c.in-Ok.ensures.0 in
    search (rules, small)

pub returns-in-Err : goal.returns-in-Err
returns-in-Err c =
    let a = c.args in
    unseen a.ring.now a.fram.now (looks a.pages a.slots a.key.now) a.restarts.now a.open_start.now a.open_len.now _ _ c.stop_number.ensures c.in-Err.ensures.0

pub returns-in-Ok : goal.returns-in-Ok
returns-in-Ok c =
    let a = c.args in
    seen a.ring.now a.fram.now (looks a.pages a.slots a.key.now) a.restarts.now a.open_start.now a.open_len.now _ _ c.in-Ok.ensures.0 c.in-Ok.ensures.1
