-- `settings::kind_wrong` meets its contract. Assumes nothing.
use mathlib.Core.Path.{ap, ◌∙◌}
use mathlib.Core.Bool.{◌&&◌, ◌||◌}
use lib.Dec.{eqb, leb, ltb}
use borrow.Author.Rules.{rules}
use Rattle.settings.specs.Settings.{last_kind}
use Rattle.settings.proofs.KindLaws.{kind_tested}
use Rattle.settings.proofs.kind_wrong.Goals as goal

pub returns : goal.returns
returns c =
    let a = c.args in
    let kind = c.kind_at-kind.ensures.0 in
    let last = c.last_kind.ensures ∙ ap last_kind c.value_at.ensures.0 in
    let before = c.kind_at.ensures.0 in
    (λ j. eqb (kind j) 0 || ltb (last j) (kind j) || (ltb 1 a.i && leb (kind j) (before j))) ∙ kind_tested a.list.now a.i (search rules)
