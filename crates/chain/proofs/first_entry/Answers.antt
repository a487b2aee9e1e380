-- `chain::first_entry` meets its contract. Assumes nothing.
use Rattle.std.proofs.Common.{◌≡◌, true, false, rules, tests}
use Rattle.std.proofs.lemmas.Iterator.{first_from_Range}
use Rattle.octets.proofs.Tried.{first_found}
use Rattle.chain.specs.Chain.{count, begins, first_entry}
use Rattle.chain.proofs.first_entry.Goals as goal

pub returns : goal.returns
unfolding first_entry
returns c =
    let E = c.args.entries.now in
    first_found (count E) (begins E) _
    (first_from_Range _ _ _ _ (λ i. begins E i ≡ true) (λ i. begins E i ≡ false) c.find.ensures.ran
    (λ x q k. search (rules, tests))
    (λ x q k. search (rules, tests)))
