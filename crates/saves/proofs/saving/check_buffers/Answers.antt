-- `saves::saving::check_buffers` meets its contract. Assumes nothing.
use mathlib.Core.Bool.{◌||◌}
use lib.Dec.{ltb}
use lib.ListN.{length}
use Rattle.checkpoint.specs.Fram.{half_length}
use Rattle.protocol.specs.Operations.{staging_wrong}
use Rattle.saves.specs.View.{view_from, arguments_of}
use Rattle.saves.proofs.Laws.{buffers_tried}
use Rattle.saves.proofs.saving.check_buffers.Goals as goal

pub returns : goal.returns
unfolding staging_wrong half_length
returns c =
    let a = c.args in
    buffers_tried a.memories.now.ring.now a.memories.now.fram.now (arguments_of a.memories.now a.draft.now a.staging.now) (view_from a.from) _ _ _ _ _ _
    c.check.ensures
    (λ i. c.key_wrong.ensures i || c.nonce_wrong.ensures i || c.wrong.ensures i)
    (λ i. c.parts_wrong.ensures i || ltb (length a.staging.now) (half_length a.memories.now.fram.now))
    c.stop_if.ensures c.stop_if-2.ensures c.stop_if-3.ensures
