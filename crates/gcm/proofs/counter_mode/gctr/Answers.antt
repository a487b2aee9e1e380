-- `gcm::counter_mode::gctr` meets its contract: after i turns of its loop the first i blocks are written. Assumes nothing.
use Rattle.std.proofs.Common.{◌≡◌, ℕ, ◌+◌, ◌-◌, ◌*◌, ◌/◌, List, min, length, drop, refl, sym, ap, ◌∙◌, arith, length-drop, rules}
use Rattle.octets.specs.Octets.{part, put}
use Rattle.aes.specs.Cipher.{cipher}
use Rattle.gcm.specs.Gcm.{CB, add_bytes, GCTRᵢ, GCTR}
use Rattle.gcm.proofs.Blocks.{next_block, write_none, write_more, length_written, next_CB}
use Rattle.gcm.proofs.counter_mode.gctr.Goals as goal

pub loop-i-init : goal.loop-i-init
unfolding CB
loop-i-init c =
    let none : c.into_iter-i-iterator.result.count ≡ 0 = search rules in
    let all : c.into_iter-i-iterator.result.iter.rest.now ≡ c.args.text.now = search rules in
    let X = c.args.text.now in
    let start : 0 ≡ min 0 (length X) = omega arith in
    (search rules, rw none (omega arith), rw (none, all) (ap (λ (k : ℕ). drop k X) start), refl, rw none refl, rw none (write_none _ _ _ c.args.out.now))

pub loop-i-preserved : goal.loop-i-preserved
unfolding part
loop-i-preserved c =
    let a = c.args in
    let X = a.text.now in
    let S = c.encrypt_block-stream.result in
    let l = c.loop-i in
    let e = c.in-Some.ensures.steps in
    let size = l.invariant.0 in
    let i = l.i-iterator.count in
    let n = next_block X _ _ _ i l.invariant.2 e.0.1.0 (e.0.1.1 ∙ ap (λ (k : ℕ). min k (length l.i-iterator.iter.rest.now)) size) e.0.1.2 in
    let CIPH = cipher a.schedule.now.rounds a.schedule.now.keys.now in
    let at = 16 * c.in-Some.i in
    let here : at ≡ 16 * i = ap (λ (k : ℕ). 16 * k) e.1 in
    let cut = n.1 ∙ ap (λ (k : ℕ). part X k 16) (sym here) in
    let stream = c.encrypt_block-stream.ensures ∙ ap CIPH l.invariant.4 in
    let written = write_more CIPH a.icb X a.out.now l.out _ S i at _ here (omega (arith, n.0)) (omega arith) refl l.invariant.5 stream
    (c.add_bytes.ensures ∙ ap (λ (t : List ℕ). put (part l.out at (length l.out - at)) 0 (add_bytes t S)) cut) in (
      e.0.0 ∙ size,
      omega (arith, n.0),
      n.2 ∙ ap (λ (k : ℕ). drop (min (16 * k) (length X)) X) (sym e.2),
      ap length written ∙ length_written CIPH a.icb X a.out.now (i + 1) (omega (arith, n.0)) (omega arith),
      next_CB a.icb _ _ i l.invariant.4 c.inc32-next.ensures ∙ ap (CB a.icb) (sym e.2),
      written ∙ ap (λ (k : ℕ). put a.out.now 0 (GCTRᵢ CIPH a.icb X k)) (sym e.2),
    )

pub returns : goal.returns
unfolding GCTR
returns c =
    let a = c.args in
    let e = c.in-None.ensures.steps in
    let inv = c.loop-i.invariant in
    let left = ap length inv.2 ∙ length-drop (min (16 * c.loop-i.i-iterator.count) (length a.text.now)) a.text.now in
    let over = e.0.1.0 in
    let all : c.loop-i.i-iterator.count ≡ (length a.text.now + 15) / 16 = omega arith in
    inv.5 ∙ ap (λ (n : ℕ). put a.out.now 0 (GCTRᵢ (cipher a.schedule.now.rounds a.schedule.now.keys.now) a.icb a.text.now n)) all
