-- `settings::kinds_wrong` meets its contract. Assumes nothing.
use Rattle.std.proofs.Common.{◌≡◌, ℕ, Bool, true, false, not, eqb, ltb, ◌||◌, List, sym, ◌∙◌, arith}
use borrow.Author.Tests.{ltb-true, ltb-false}
use Rattle.octets.specs.Search.{some_below}
use Rattle.stops.proofs.Laws.{neither}
use Rattle.settings.specs.Settings.{count, list_wrong, kind_wrong, kinds_wrong}
use Rattle.settings.proofs.Laws.{first_right, rises, kinds_found_wrong, kinds_not_front, front_tested}
use Rattle.settings.proofs.kinds_wrong.Goals as goal

-- a wrong kind, or no room for volume and delay
either : (L : List ℕ) (b : Bool) → list_wrong L ≡ false → b ≡ some_below (count L) (kind_wrong L) → b || ltb (count L) 3 ≡ true → true ≡ kinds_wrong L
either L true w e h = sym (kinds_found_wrong L (sym e))
either L false w e h = sym (kinds_not_front L (first_right L w) (rises L (sym e)) (λ f. omega (arith, f.long, ltb-true (count L) 3 h)))

pub returns-then-some_kind_wrong-list : goal.returns-then-some_kind_wrong-list
returns-then-some_kind_wrong-list c = either _ _ c.requires c.some_kind_wrong.ensures c.if-some_kind_wrong-list.true

pub returns : goal.returns
returns c =
    let n = neither c.some_kind_wrong.result _ c.if-some_kind_wrong-list.false in
    let one = c.kind_at.ensures.0 in
    let two = c.kind_at-2.ensures.0 in
    (λ j. not (eqb (one j) 1) || not (eqb (two j) 2)) ∙ front_tested _ (first_right _ c.requires) (sym c.some_kind_wrong.ensures ∙ n.0) (ltb-false _ _ n.1)
