-- `chain::own_twice` meets its contract. Assumes nothing.
use Rattle.std.proofs.Common.{◌≡◌, true, false, refl, rules, tests}
use Rattle.std.proofs.lemmas.Iterator.{cases_from_any, YieldsList-from_range}
use Rattle.octets.proofs.Search.{none_yet}
use Rattle.octets.proofs.Tried.{any_below}
use Rattle.chain.specs.Chain.{count, not_first, own_twice}
use Rattle.chain.proofs.own_twice.Goals as goal

pub returns : goal.returns
unfolding own_twice
returns c =
    let E = c.args.entries.now in
    any_below (count E) (not_first E) 0 (none_yet (not_first E)) _
    (cases_from_any _ _ _ (λ i. not_first E i ≡ true) (λ i. not_first E i ≡ false) c.any.ensures.ran
    (YieldsList-from_range 0 (count E) _ refl refl)
    (λ x q k. search (rules, tests))
    (λ x q k. search (rules, tests)))
