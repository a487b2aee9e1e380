-- `keeper::resuming::power_up_check` meets its contract. Assumes nothing.
use Rattle.std.proofs.Common.{sym, ap, ◌∙◌, arith}
use Rattle.std.proofs.lemmas.Result.{err_from_is_err_and}
use Rattle.ring.specs.Ring.{half_named}
use Rattle.memories.proofs.ReadLaws.{record_is, used_is}
use Rattle.protocol.specs.Calls.{PowersUp}
use Rattle.keeper.specs.View.{powers_up}
use Rattle.keeper.proofs.PowerUpLaws.{buffers_pass, buffers_stop, ring_stop, ring_tried, on_record, names_half}
use Rattle.keeper.proofs.resuming.power_up_check.Goals as goal

pub read-reading-requires : goal.read-reading-requires
read-reading-requires c =
    let a = c.args in
    let call : PowersUp = powers_up a.memories.now.pages a.memories.now.slots a.key.now a.nonce.now a.staging.now a.state.now in
    (buffers_pass a.memories.now.ring.now a.memories.now.fram.now call (sym c.in_ok-check_power_up_buffers.ensures)).ring_right

pub check_power_up_half-requires : goal.check_power_up_half-requires
check_power_up_half-requires c =
    let a = c.args in
    let call : PowersUp = powers_up a.memories.now.pages a.memories.now.slots a.key.now a.nonce.now a.staging.now a.state.now in
    let f = buffers_pass a.memories.now.ring.now a.memories.now.fram.now call (sym c.in_ok-check_power_up_buffers.ensures) in
    let passed = sym (ring_tried a.memories.now.ring.now a.memories.now.fram.now call _ _ c.read-reading.ensures c.in_ok-check_newest.ensures) in
    let named = names_half a.memories.now.ring.now a.memories.now.fram.now call f.ring_right passed in
    let is = ap half_named (c.«record».ensures.0 ∙ record_is _ _ _ _ c.read-reading.ensures) in
    (f.fram_right, f.key, c.«record».ensures.1, omega (arith, named, is))

pub returns-in_err-check_power_up_buffers : goal.returns-in_err-check_power_up_buffers
returns-in_err-check_power_up_buffers c =
    let a = c.args in
    let call : PowersUp = powers_up a.memories.now.pages a.memories.now.slots a.key.now a.nonce.now a.staging.now a.state.now in
    let p = err_from_is_err_and c.from_residual.result c.from_residual.ensures.1 in
    rw (p.1, p.2) (sym (buffers_stop a.memories.now.ring.now a.memories.now.fram.now call (sym c.in_err-check_power_up_buffers.ensures)))

pub returns-in_err-check_newest : goal.returns-in_err-check_newest
returns-in_err-check_newest c =
    let a = c.args in
    let call : PowersUp = powers_up a.memories.now.pages a.memories.now.slots a.key.now a.nonce.now a.staging.now a.state.now in
    let p = err_from_is_err_and c.from_residual-in_err-check_newest.result c.from_residual-in_err-check_newest.ensures.1 in
    rw (p.1, p.2)
    (sym (ring_stop a.memories.now.ring.now a.memories.now.fram.now call (sym c.in_ok-check_power_up_buffers.ensures)
    (sym (ring_tried a.memories.now.ring.now a.memories.now.fram.now call _ _ c.read-reading.ensures c.in_err-check_newest.ensures))))

pub returns : goal.returns
returns c =
    let a = c.args in
    let call : PowersUp = powers_up a.memories.now.pages a.memories.now.slots a.key.now a.nonce.now a.staging.now a.state.now in
    let used = c.nonce_used-used.ensures ∙ used_is _ _ _ _ c.read-reading.ensures a.nonce.now in
    c.check_power_up_half.ensures
    ∙ sym (on_record a.memories.now.ring.now a.memories.now.fram.now call _ _ (c.«record».ensures.0 ∙ record_is _ _ _ _ c.read-reading.ensures) used
    (sym c.in_ok-check_power_up_buffers.ensures) (sym (ring_tried a.memories.now.ring.now a.memories.now.fram.now call _ _ c.read-reading.ensures c.in_ok-check_newest.ensures)))
