-- `gcm::open` meets its contract. Assumes nothing.
use Rattle.std.proofs.Common.{sym, ap, ◌∙◌, arith, length}
use Rattle.std.proofs.lemmas.Grind.{common_steps}
use Rattle.std.proofs.lemmas.Result.{err_from_is_err_and}
use Rattle.gcm.specs.Standard.{opened_by}
use Rattle.gcm.proofs.Checks.{open_fits}
use Rattle.gcm.proofs.Outcomes.{unopened}
use Rattle.gcm.proofs.Theorems.{opening_is}
use Rattle.gcm.proofs.open.Goals as goal

pub with_key-requires-clause-key_fits : goal.with_key-requires-clause-key_fits
with_key-requires-clause-key_fits c = (open_fits _ _ _ _ (length c.args.given.now) _ (sym c.in_ok-open_length_check.ensures)).key_fits

pub with_key-requires-clause-callable : goal.with_key-requires-clause-callable
with_key-requires-clause-callable c p e = (open_fits _ _ _ _ (length c.args.given.now) _ (sym c.in_ok-open_length_check.ensures)).sizes

pub returns-in_err-open_length_check : goal.returns-in_err-open_length_check
returns-in_err-open_length_check c =
    let p = err_from_is_err_and c.from_residual.result c.from_residual.ensures.1 in
    rw (p.1, p.2) (unopened _ _ _ _ _ _ _ c.in_err-open_length_check.ensures)

pub returns : goal.returns
returns c =
    let a = c.args in
    let e = c.with_key.ensures in
    let there = ap (opened_by a.nonce.now a.aad.now a.text.now a.given.now a.out.now) e.1 ∙ sym (opening_is a.key.now a.nonce.now a.aad.now a.text.now a.given.now a.out.now (sym c.in_ok-open_length_check.ensures)) in
    grind (arith, common_steps, e.2.met.1, there)
