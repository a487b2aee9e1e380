-- `settings::place` meets its contract. Assumes nothing.
use Rattle.std.proofs.Common.{◌≡◌, true, false, rules, tests}
use Rattle.std.proofs.lemmas.Iterator.{first_from_Range}
use Rattle.octets.proofs.Tried.{first_found}
use Rattle.settings.specs.Settings.{count, place}
use Rattle.settings.proofs.Laws.{kind_test}
use Rattle.settings.proofs.place.Goals as goal

pub returns : goal.returns
unfolding place
returns c =
    let L = c.args.list.now in
    first_found (count L) (kind_test L c.args.kind) _
    (first_from_Range _ _ _ _ (λ i. kind_test L c.args.kind i ≡ true) (λ i. kind_test L c.args.kind i ≡ false) c.find.ensures.ran
    (λ x q k. search (rules, tests))
    (λ x q k. search (rules, tests)))
