-- `resealing::reopen` meets its contract. Assumes nothing.
use Rattle.std.proofs.Common.{arith}
use Rattle.octets.specs.Limits.{part_limit}
use Rattle.checkpoint.specs.Half.{form_of}
use Rattle.checkpoint.proofs.StoredLaws.{head_facts, stored_packet_small, packet_small}
use Rattle.checkpoint.proofs.SealedLaws.{head_small}
use Rattle.resealing.proofs.Laws.{reseals, longer_fits}
use Rattle.resealing.proofs.reopen.Goals as goal

pub open_secret-requires : goal.open_secret-requires
open_secret-requires c =
    let h = c.args.restart.now.head in
    let facts = head_facts part_limit (form_of h.half.now) h.half.now h.says.good in
    (c.requires.0.0, omega (arith, h.says.secret_is, facts.secret_small, c.requires.0.3))

pub overflow_add-end : goal.overflow_add-end
overflow_add-end c =
    let h = c.args.restart.now.head in
    let facts = head_facts part_limit (form_of h.half.now) h.half.now h.says.good in
    omega (arith, h.says.start_is, h.says.open_is, facts.open_small, head_small (form_of h.half.now))

pub overflow_add-end-2 : goal.overflow_add-end-2
overflow_add-end-2 c =
    let h = c.args.restart.now.head in
    let facts = head_facts part_limit (form_of h.half.now) h.half.now h.says.good in
    omega (arith, h.says.start_is, h.says.open_is, h.says.secret_is, facts.open_small, facts.secret_small, head_small (form_of h.half.now))

pub part-requires : goal.part-requires
part-requires c =
    let h = c.args.restart.now.head in
    let facts = head_facts part_limit (form_of h.half.now) h.half.now h.says.good in
    omega (arith, h.says.start_is, h.says.open_is, h.says.secret_is, facts.fits)

pub part-requires-2 : goal.part-requires-2
part-requires-2 c =
    let h = c.args.restart.now.head in
    let facts = head_facts part_limit (form_of h.half.now) h.half.now h.says.good in
    omega (arith, c.open_secret.auto.state, h.says.secret_is, facts.secret_small, c.requires.0.3)

pub seal-requires : goal.seal-requires
seal-requires c =
    let p = c.requires in
    let h = c.args.restart.now.head in
    let says = h.says in
    let f = head_facts part_limit (form_of h.half.now) h.half.now says.good in
    let o = c.open_part.ensures.1 in
    let s = c.part-2.ensures.1 in (
      p.0.1,
      omega (arith, says.packet_is, packet_small (form_of h.half.now) _ (stored_packet_small (form_of h.half.now) h.half.now)),
      omega (arith, p.1),
      c.part.ensures.1,
      omega (arith, o, says.open_is, f.open_small),
      omega (arith, s, says.secret_is, f.secret_small),
      omega (arith, o, s, says.open_is, says.secret_is, longer_fits h.half.now p.2, p.0.2),
    )

pub returns : goal.returns
returns c key e tagged =
    let a = c.args in
    let r = a.restart.now in
    let h = r.head in
    let p = h.says in
    reseals key r.latest.now h.half.now r.nonce.now p.good _ a.staging.now _ a.state.now _ _ _ _ h.start h.packet h.open_part h.secret h.restarts p.bytes tagged
    p.start_is p.packet_is p.open_is p.secret_is p.restarts_is c.requires.0.3 (c.open_secret.ensures key e) c.open_part.ensures.0 c.part-2.ensures.0 c.part.ensures.0
    (c.seal.ensures key e)
