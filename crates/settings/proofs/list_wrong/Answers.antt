-- `settings::list_wrong` meets its contract. Assumes nothing.
use Prim.Native.Nat.{ℕ, ◌%◌, ◌<◌}
use mathlib.Core.Path.{◌≡◌, sym, ◌∙◌}
use mathlib.Core.Bool.{false, not, ◌||◌}
use mathlib.Core.List.{List}
use native.Mathlib.Omega.{arith}
use lib.Dec.{eqb}
use lib.ListN.{length}
use borrow.Author.Tests.{eqb-false}
use Rattle.stops.proofs.Laws.{neither}
use Rattle.settings.specs.Settings.{count}
use Rattle.settings.proofs.Laws.{not_words, words_tested}
use Rattle.settings.proofs.list_wrong.Goals as goal

some_words : (L : List ℕ) → not (eqb (length L % 4) 0) || eqb (count L) 0 ≡ false → 0 < count L
some_words L e = omega (arith, eqb-false (count L) 0 (neither (not (eqb (length L % 4) 0)) (eqb (count L) 0) e).1)

pub returns-then-list : goal.returns-then-list
returns-then-list c = sym (not_words c.args.list.now c.if-list.true)

pub value_at-version-requires : goal.value_at-version-requires
value_at-version-requires c = some_words c.args.list.now c.if-list.false

pub kind_at-requires : goal.kind_at-requires
kind_at-requires c = some_words c.args.list.now c.if-list.false

pub returns : goal.returns
returns c =
    let kind = c.kind_at.ensures.0 in
    let value = c.value_at-version.ensures.0 in
    (λ i. not (eqb (kind i) 15) || not (eqb (value i) 1 || eqb (value i) 2)) ∙ words_tested c.args.list.now c.if-list.false
