-- `trace::unit::store_on` meets its contract: the stores that are left, from where the job is, come to what all of them do. Assumes nothing.
use Rattle.std.proofs.Common.{Ok, refl, rules, arith}
use Rattle.std.proofs.lemmas.Result.{err_from_is_err_and}
use Rattle.protocol.specs.Recovery.{is_going}
use Rattle.jobs.specs.declared.types.Progress.TheVariants.{GoingOn}
use Rattle.trace.proofs.Stepping.{not_going, stores_made, store_next, store_last}
use Rattle.trace.proofs.unit.store_on.Goals as goal

pub returns-in_err-ended : goal.returns-in_err-ended
unfolding is_going
returns-in_err-ended c =
    let p = err_from_is_err_and c.from_residual.result c.from_residual.ensures.1 in
    rw (p.1, p.2) (store_last _ _ _ _ _ _ _ c.loop.invariant.3 _ _ _ _ c.loop-test.true c.in_err-ended.ensures refl)

pub returns-in_default : goal.returns-in_default
returns-in_default c =
    store_last _ _ _ _ _ _ _ c.loop.invariant.3 _ _ _ _ c.loop-test.true c.in_ok-ended.ensures (not_going _ c.in_default.not-GoingOn)

pub loop-preserved : goal.loop-preserved
loop-preserved c =
    let e = rw c.in-GoingOn.is at c.in_ok-ended.ensures in
    (search rules, search rules, omega (arith, c.loop-test.true), store_next _ _ _ _ _ _ _ c.loop.invariant.3 _ _ _ (Ok GoingOn) c.loop-test.true e)

pub returns : goal.returns
returns c = stores_made _ _ _ _ _ _ _ c.loop.invariant.3 c.loop-test.false
