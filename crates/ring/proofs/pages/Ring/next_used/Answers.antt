-- `ring::pages::Ring::next_used` meets its contract. Assumes nothing.
use Rattle.std.proofs.Common.{◌-◌, rules, refl, not, ◌∙◌, sym}
use Rattle.std.proofs.lemmas.Iterator.{YieldsList-from_range}
use Rattle.std.proofs.lemmas.Iterator.Adapters.{option_map_id}
use Rattle.std.proofs.lemmas.Iterator.Search.{find_from_yields_List}
use borrow.Author.Tests.{tests}
use Rattle.octets.specs.Octets.{blank}
use Rattle.ring.specs.Ring.{page_at}
use Rattle.ring.proofs.StepLaws.{used_is}
use Rattle.ring.proofs.pages.Ring.next_used.Goals as goal

pub returns-clause-first : goal.returns-clause-first
returns-clause-first c =
    let s = c.args.self.now in
    let from = c.args.from in
    let e = find_from_yields_List (λ j. not (blank (page_at s.bytes.now s.slots j))) _ _ c.find.result c.find.ensures.ran
    (YieldsList-from_range from s.pages (s.pages - from) refl refl) (λ x b q k. search (rules, tests)) in
    sym (option_map_id _) ∙ e ∙ used_is s.bytes.now s.slots from (s.pages - from)
