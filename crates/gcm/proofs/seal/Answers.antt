-- `gcm::seal` meets its contract. Assumes nothing.
use Rattle.std.proofs.Common.{sym, ap, ◌∙◌, arith}
use Rattle.std.proofs.lemmas.Grind.{common_steps}
use Rattle.std.proofs.lemmas.Result.{err_from_is_err_and}
use Rattle.gcm.specs.Standard.{sealed_by}
use Rattle.gcm.proofs.Checks.{seal_fits}
use Rattle.gcm.proofs.Outcomes.{unsealed}
use Rattle.gcm.proofs.Theorems.{sealing_is}
use Rattle.gcm.proofs.seal.Goals as goal

pub with_key-requires-clause-key_fits : goal.with_key-requires-clause-key_fits
with_key-requires-clause-key_fits c = (seal_fits _ _ _ _ _ (sym c.in_ok-seal_check.ensures)).key_fits

pub with_key-requires-clause-callable : goal.with_key-requires-clause-callable
with_key-requires-clause-callable c p e = (seal_fits _ _ _ _ _ (sym c.in_ok-seal_check.ensures)).sizes

pub returns-in_err-seal_check : goal.returns-in_err-seal_check
returns-in_err-seal_check c =
    let p = err_from_is_err_and c.from_residual.result c.from_residual.ensures.1 in
    rw (p.1, p.2) (unsealed _ _ _ _ _ _ c.in_err-seal_check.ensures)

pub returns : goal.returns
returns c =
    let a = c.args in
    let e = c.with_key.ensures in
    let there = ap (sealed_by a.nonce.now a.aad.now a.text.now a.out.now) e.1 ∙ sym (sealing_is a.key.now a.nonce.now a.aad.now a.text.now a.out.now (sym c.in_ok-seal_check.ensures)) in
    grind (arith, common_steps, e.2.met.1, there)
