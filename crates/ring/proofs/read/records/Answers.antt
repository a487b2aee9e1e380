-- `ring::read::records` meets its contract. Assumes nothing.
use Rattle.std.proofs.Common.{◌*◌, ℕ, rules, arith, ◌∙◌}
use Rattle.std.proofs.lemmas.Iterator.{YieldsList-from_range}
use Rattle.std.proofs.lemmas.Iterator.Search.{YieldsList-from_take_while}
use Rattle.std.proofs.lemmas.Iterator.Consumers.{count_from_yields_List}
use Rattle.std.proofs.lemmas.List.Folds.{length-prefix_len}
use borrow.Author.Tests.{tests}
use Rattle.octets.specs.Limits.{slot_length}
use Rattle.octets.specs.Octets.{part}
use Rattle.ring.specs.Ring.{is_record}
use Rattle.ring.proofs.StepLaws.{records_is}
use Rattle.ring.proofs.read.records.Goals as goal

pub returns : goal.returns
returns c =
    let page = c.args.page.now in
    let n = c.args.slots in
    let p : ℕ → _ = λ k. is_record (part page (slot_length * k) slot_length) in
    let e = count_from_yields_List c.take_while.result c.count.result c.count.ensures.ran
    (YieldsList-from_take_while _ p (YieldsList-from_range 0 n n (search rules) (omega arith)) c.take_while.ensures.closure c.take_while.ensures.done (λ x b q k. search (rules, tests))) in
    (e ∙ length-prefix_len p _ ∙ records_is page 0 n, search rules)
