-- `ring::found::nonce_in` meets its contract. Assumes nothing.
use Rattle.std.proofs.Common.{◌*◌, rules, arith, refl, ◌∙◌}
use Rattle.std.proofs.lemmas.Iterator.{YieldsList-from_range}
use Rattle.std.proofs.lemmas.Iterator.Search.{any_from_yields_List}
use borrow.Author.Tests.{tests}
use Rattle.octets.specs.Limits.{slot_length, nonce_length}
use Rattle.octets.specs.Octets.{part, same}
use Rattle.ring.proofs.StepLaws.{nonce_in_is}
use Rattle.ring.proofs.found.nonce_in.Goals as goal

pub returns : goal.returns
returns c =
    let nonce = c.args.nonce.now in
    let page = c.args.page.now in
    let n = c.args.count in
    any_from_yields_List (λ k. same (part page (slot_length * k) nonce_length) nonce) _ _ _ c.any.ensures.ran (YieldsList-from_range 0 n n refl (omega arith)) (λ x b q k. search (rules, tests))
    ∙ nonce_in_is nonce page 0 n
