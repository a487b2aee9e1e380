-- `chain::entry_with` meets its contract. Assumes nothing.
use Rattle.std.proofs.Common.{◌≡◌, true, false, rules, tests}
use Rattle.std.proofs.lemmas.Iterator.{first_from_Range}
use Rattle.octets.proofs.Tried.{first_found}
use Rattle.chain.specs.Chain.{count, entry_with}
use Rattle.chain.proofs.Orders.{tag_test}
use Rattle.chain.proofs.entry_with.Goals as goal

pub returns : goal.returns
unfolding entry_with
returns c =
    let a = c.args in
    first_found (count a.entries.now) (tag_test a.entries.now a.offset a.tag.now) _
    (first_from_Range _ _ _ _ (λ i. tag_test a.entries.now a.offset a.tag.now i ≡ true) (λ i. tag_test a.entries.now a.offset a.tag.now i ≡ false) c.find.ensures.ran
    (λ x q k. search (rules, tests))
    (λ x q k. search (rules, tests)))
