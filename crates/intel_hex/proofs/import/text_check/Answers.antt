-- `intel_hex::import::text_check` meets its contract. Assumes nothing.
use Rattle.std.proofs.Common.{sym, ap, ◌∙◌, arith}
use Rattle.std.proofs.lemmas.Result.{err_from_is_err_and}
use borrow.Author.Tests.{eqb-true}
use Rattle.intel_hex.specs.Import.{lines_of, text_stop}
use Rattle.intel_hex.specs.declared.import.Reading.{Reading}
use Rattle.intel_hex.proofs.ImportLaws.{whole_rest, text_end}
use Rattle.intel_hex.proofs.import.text_check.Goals as goal

pub loop-rest-init : goal.loop-rest-init
loop-rest-init c =
    let e = c.start-reading.ensures in
    (rw e (omega arith), ap (λ (r : Reading). text_stop c.args.size r (lines_of c.args.text.now)) (sym e))

pub returns-in_err-judged : goal.returns-in_err-judged
returns-in_err-judged c =
    let p = err_from_is_err_and c.from_residual.result c.from_residual.ensures.1 in
    rw (p.1, p.2) (sym (c.loop-rest.invariant.1 ∙ c.in_err-judged.ensures))

pub loop-rest-preserved : goal.loop-rest-preserved
loop-rest-preserved c =
    let p = c.in_ok-judged.ensures in
    (p.upper, rw (whole_rest _ c.loop-rest.rest.now) (c.loop-rest.invariant.1 ∙ p.on))

pub returns : goal.returns
returns c = c.stop_if.ensures ∙ sym (c.loop-rest.invariant.1 ∙ text_end _ _ _ (eqb-true _ _ (sym c.loop-rest-test.ensures)))
