-- `settings::values_wrong` meets its contract. Assumes nothing.
use mathlib.Core.Path.{◌≡◌, ap, ap₂, ◌∙◌}
use mathlib.Core.Bool.{false, ◌||◌}
use mathlib.Core.List.{List}
use Prim.Native.Nat.{ℕ}
use native.Mathlib.Omega.{arith}
use borrow.Author.Rules.{rules}
use Rattle.settings.specs.Rules.{FirstRight}
use Rattle.settings.specs.Settings.{list_wrong, kinds_wrong, value_wrong}
use Rattle.settings.proofs.Laws.{Kinds, first_right, kinds}
use Rattle.settings.proofs.CallLaws.{values_in_front}
use Rattle.settings.proofs.values_wrong.Goals as goal

has_kinds : (L : List ℕ) → (list_wrong L ≡ false) × (kinds_wrong L ≡ false) → Kinds L
has_kinds L r = kinds L (first_right L r.0) r.1

pub value_at-requires : goal.value_at-requires
value_at-requires c =
    omega (arith, (has_kinds c.args.list.now (search rules)).in_front.long)

pub value_at-requires-2 : goal.value_at-requires-2
value_at-requires-2 c =
    omega (arith, (has_kinds c.args.list.now (search rules)).in_front.long)

pub returns : goal.returns
returns c =
    let L = c.args.list.now in
    let w : FirstRight L = first_right L (search rules) in
    ap₂ ◌||◌ (c.value_wrong.ensures ∙ ap (value_wrong 1) c.value_at.ensures.0) (c.value_wrong-2.ensures ∙ ap (value_wrong 2) c.value_at-2.ensures.0)
    ∙ values_in_front L w (kinds L w (search rules))
