-- `keeper::resuming::resume` meets its contract. Assumes nothing.
use Rattle.std.proofs.Common.{ℕ, List, ◌-◌, take, length, refl, sym, ap, ◌∙◌, arith}
use Rattle.octets.specs.Limits.{nonce_length, part_limit}
use Rattle.octets.specs.Octets.{part}
use Rattle.ring.specs.Ring.{half_named}
use Rattle.memories.proofs.ReadLaws.{found_is, record_is, used_is, page_is, slot_is}
use Rattle.checkpoint.specs.Fram.{half_at}
use Rattle.checkpoint.specs.Half.{form_of, good_head}
use Rattle.protocol.specs.Calls.{PowersUp}
use Rattle.protocol.specs.Operations.{newest_half, first_phase}
use Rattle.keeper.specs.View.{powers_up}
use Rattle.keeper.proofs.PowerUpLaws.{buffers_pass, names_half, ring_tried, head_stop, on_half, power_up_stops, power_up_restores, half_long_enough}
use Rattle.keeper.proofs.resuming.resume.Goals as goal

pub half_at-requires : goal.half_at-requires
half_at-requires c =
    let a = c.args in
    let call : PowersUp = powers_up a.memories.now.pages a.memories.now.slots a.key.now a.nonce.now a.staging.now a.state.now in
    let f = buffers_pass a.memories.now.ring.now a.memories.now.fram.now call c.requires.0 in
    let passed = sym (ring_tried a.memories.now.ring.now a.memories.now.fram.now call _ _ c.requires.1 (sym c.requires.2)) in
    let named = names_half a.memories.now.ring.now a.memories.now.fram.now call f.ring_right passed in
    let is = c.half_named-number.ensures ∙ ap half_named (c.record-record.ensures.0 ∙ record_is _ _ _ _ c.requires.1) in
    (f.fram_right, omega (arith, named, is))

pub read_head-requires : goal.read_head-requires
read_head-requires c =
    let a = c.args in
    let call : PowersUp = powers_up a.memories.now.pages a.memories.now.slots a.key.now a.nonce.now a.staging.now a.state.now in
    half_long_enough a.memories.now.fram.now c.half_at.result.now (buffers_pass a.memories.now.ring.now a.memories.now.fram.now call c.requires.0).fram_right c.half_at.ensures.1

pub overflow_sub-target : goal.overflow_sub-target
overflow_sub-target c =
    let a = c.args in
    let call : PowersUp = powers_up a.memories.now.pages a.memories.now.slots a.key.now a.nonce.now a.staging.now a.state.now in
    let f = buffers_pass a.memories.now.ring.now a.memories.now.fram.now call c.requires.0 in
    let passed = sym (ring_tried a.memories.now.ring.now a.memories.now.fram.now call _ _ c.requires.1 (sym c.requires.2)) in
    let named = names_half a.memories.now.ring.now a.memories.now.fram.now call f.ring_right passed in
    let is = c.half_named-number.ensures ∙ ap half_named (c.record-record.ensures.0 ∙ record_is _ _ _ _ c.requires.1) in
    omega (arith, named, is)

pub restore-requires : goal.restore-requires
restore-requires c =
    let a = c.args in
    let call : PowersUp = powers_up a.memories.now.pages a.memories.now.slots a.key.now a.nonce.now a.staging.now a.state.now in
    let f = buffers_pass a.memories.now.ring.now a.memories.now.fram.now call c.requires.0 in
    (f.key, (c.part.ensures.1, f.nonce, omega (arith, ap length c.in-Ok.ensures, c.half_at.ensures.1, f.staging), f.state))

pub returns-in_default : goal.returns-in_default
unfolding newest_half
returns-in_default c =
    let a = c.args in
    let call : PowersUp = powers_up a.memories.now.pages a.memories.now.slots a.key.now a.nonce.now a.staging.now a.state.now in
    let passed = sym (ring_tried a.memories.now.ring.now a.memories.now.fram.now call _ _ c.requires.1 (sym c.requires.2)) in
    let number = c.half_named-number.ensures ∙ ap half_named (c.record-record.ensures.0 ∙ record_is _ _ _ _ c.requires.1) in
    let half = c.in_default.ensures ∙ c.half_at.ensures.0 ∙ ap (half_at a.memories.now.fram.now) number in
    let bad = sym (ap (λ (h : List ℕ). good_head part_limit (form_of h) h) half) ∙ c.in_default.field-0.says.good in
    power_up_stops a.memories.now.ring.now a.memories.now.fram.now call _ refl (head_stop a.memories.now.ring.now a.memories.now.fram.now call c.requires.0 passed bad)

pub returns : goal.returns
unfolding part newest_half
returns c =
    let a = c.args in
    let call : PowersUp = powers_up a.memories.now.pages a.memories.now.slots a.key.now a.nonce.now a.staging.now a.state.now in
    let passed = sym (ring_tried a.memories.now.ring.now a.memories.now.fram.now call _ _ c.requires.1 (sym c.requires.2)) in
    let newest = c.record-record.ensures.0 ∙ record_is _ _ _ _ c.requires.1 in
    let number = c.half_named-number.ensures ∙ ap half_named newest in
    let half = c.in-Ok.ensures ∙ c.half_at.ensures.0 ∙ ap (half_at a.memories.now.fram.now) number in
    let good = sym (ap (λ (h : List ℕ). good_head part_limit (form_of h) h) half) ∙ c.in-Ok.head.says.good in
    power_up_restores a.memories.now.ring.now a.memories.now.fram.now call _ _ _ _ _ _ _ _
    (c.part.ensures.0 ∙ ap (take nonce_length) newest) half
    (c.nonce_used.ensures ∙ used_is _ _ _ _ c.requires.1 a.nonce.now)
    (c.first_phase-phase.ensures ∙ ap first_phase (found_is _ _ _ _ c.requires.1)) (ap (λ (h : ℕ). 1 - h) number)
    (c.target_page.ensures ∙ page_is _ _ _ _ c.requires.1) (c.target_slot.ensures ∙ slot_is _ _ _ _ c.requires.1)
    c.restore.ensures (on_half a.memories.now.ring.now a.memories.now.fram.now call c.requires.0 passed good)
