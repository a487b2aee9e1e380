-- `keeper::resuming::check_power_up_buffers` meets its contract. Assumes nothing.
use mathlib.Core.Bool.{◌||◌}
use mathlib.Core.Path.{refl}
use Rattle.checkpoint.specs.Fram.{half_length}
use Rattle.protocol.specs.Operations.{staging_wrong, state_wrong}
use Rattle.keeper.specs.View.{powers_up}
use Rattle.keeper.proofs.PowerUpLaws.{buffers_tried}
use Rattle.keeper.proofs.resuming.check_power_up_buffers.Goals as goal

pub returns : goal.returns
unfolding staging_wrong state_wrong half_length
returns c =
    let a = c.args in
    buffers_tried a.memories.now.ring.now a.memories.now.fram.now (powers_up a.memories.now.pages a.memories.now.slots a.key.now a.nonce.now a.staging.now a.state.now) _ _ _ _ _
    c.check.ensures (λ i. c.key_wrong.ensures i || c.nonce_wrong.ensures i) refl c.stop_if.ensures c.stop_if-2.ensures
