-- `gcm::open_prepared` meets its contract: where the tag is right the text is written, else nothing is. Assumes nothing.
use Rattle.std.proofs.Common.{◌∙◌, ap}
use Rattle.std.proofs.lemmas.Result.{err_from_is_err_and}
use Rattle.octets.specs.Octets.{same}
use Rattle.gcm.proofs.Outcomes.{accepted, refused}
use Rattle.gcm.proofs.open_prepared.Goals as goal

pub returns-in_err-stop_if : goal.returns-in_err-stop_if
returns-in_err-stop_if c =
    let a = c.args in
    let p = err_from_is_err_and c.from_residual.result c.from_residual.ensures.1 in
    rw (p.1, p.2) (refused _ a.nonce.now a.aad.now a.text.now a.given.now a.out.now _ _ (c.same-good.ensures ∙ ap (same a.given.now) c.tag_of-right.ensures) c.in_err-stop_if.ensures)

pub returns : goal.returns
returns c =
    let a = c.args in
    accepted _ a.nonce.now a.aad.now a.text.now a.given.now a.out.now _ _ (c.same-good.ensures ∙ ap (same a.given.now) c.tag_of-right.ensures) c.in_ok-stop_if.ensures c.encrypt.ensures
