-- `keeper::resuming::power_up` meets its contract. Assumes nothing.
use Rattle.std.proofs.Common.{refl, sym}
use Rattle.std.proofs.lemmas.Result.{err_from_is_err_and}
use Rattle.protocol.specs.Calls.{PowersUp}
use Rattle.keeper.specs.View.{powers_up}
use Rattle.keeper.proofs.PowerUpLaws.{buffers_pass, buffers_stop, ring_stop, ring_tried, power_up_stops}
use Rattle.keeper.proofs.resuming.power_up.Goals as goal

pub read-reading-requires : goal.read-reading-requires
read-reading-requires c =
    let a = c.args in
    let call : PowersUp = powers_up a.memories.now.pages a.memories.now.slots a.key.now a.nonce.now a.staging.now a.state.now in
    (buffers_pass a.memories.now.ring.now a.memories.now.fram.now call (sym c.in_ok-check_power_up_buffers.ensures)).ring_right

pub resume-requires : goal.resume-requires
resume-requires c =
    (sym c.in_ok-check_power_up_buffers.ensures, c.read-reading.ensures, sym c.in_ok-check_newest.ensures)

pub returns-in_err-check_power_up_buffers : goal.returns-in_err-check_power_up_buffers
returns-in_err-check_power_up_buffers c =
    let a = c.args in
    let call : PowersUp = powers_up a.memories.now.pages a.memories.now.slots a.key.now a.nonce.now a.staging.now a.state.now in
    let p = err_from_is_err_and c.from_residual.result c.from_residual.ensures.1 in
    rw (p.1, p.2) (power_up_stops a.memories.now.ring.now a.memories.now.fram.now call _ refl (buffers_stop a.memories.now.ring.now a.memories.now.fram.now call (sym c.in_err-check_power_up_buffers.ensures)))

pub returns-in_err-check_newest : goal.returns-in_err-check_newest
returns-in_err-check_newest c =
    let a = c.args in
    let call : PowersUp = powers_up a.memories.now.pages a.memories.now.slots a.key.now a.nonce.now a.staging.now a.state.now in
    let p = err_from_is_err_and c.from_residual-in_err-check_newest.result c.from_residual-in_err-check_newest.ensures.1 in
    rw (p.1, p.2)
    (power_up_stops a.memories.now.ring.now a.memories.now.fram.now call _ refl
    (ring_stop a.memories.now.ring.now a.memories.now.fram.now call (sym c.in_ok-check_power_up_buffers.ensures)
    (sym (ring_tried a.memories.now.ring.now a.memories.now.fram.now call _ _ c.read-reading.ensures c.in_err-check_newest.ensures))))
