-- `settings::check` meets its contract: each `if` is a line of the list of stops. Assumes nothing.
use Rattle.std.proofs.Common.{Bool, ◌||◌, cond, sym, ap, ◌∙◌}
use Rattle.std.proofs.Math.Option.{none, some}
use Rattle.stops.proofs.Laws.{neither}
use Rattle.settings.proofs.CallLaws.{stops_23, stops_24, stops_25}
use Rattle.settings.proofs.check.Goals as goal

pub kinds_wrong-requires : goal.kinds_wrong-requires
kinds_wrong-requires c = sym c.list_wrong.ensures ∙ c.if-list_wrong.false

pub values_wrong-requires : goal.values_wrong-requires
values_wrong-requires c =
    (sym c.list_wrong.ensures ∙ c.if-list_wrong.false, sym c.kinds_wrong.ensures ∙ (neither c.kinds_wrong.result _ c.if-kinds_wrong-kind_refused.false).0)

pub returns-then-list_wrong : goal.returns-then-list_wrong
returns-then-list_wrong c =
    let a = c.args in
    stops_23 a.list.now a.kind_refused a.value_refused (sym c.list_wrong.ensures ∙ c.if-list_wrong.true)

pub returns-then-kinds_wrong-kind_refused : goal.returns-then-kinds_wrong-kind_refused
returns-then-kinds_wrong-kind_refused c =
    let a = c.args in
    stops_24 a.list.now a.kind_refused a.value_refused (sym c.list_wrong.ensures ∙ c.if-list_wrong.false)
    (ap (λ (t : Bool). t || a.kind_refused) (sym c.kinds_wrong.ensures) ∙ c.if-kinds_wrong-kind_refused.true)

pub returns : goal.returns
returns c =
    let a = c.args in
    c.stop_if.ensures ∙ ap (λ (t : Bool). cond (t || a.value_refused) (some 25) none) c.values_wrong.ensures
    ∙ stops_25 a.list.now a.kind_refused a.value_refused (sym c.list_wrong.ensures ∙ c.if-list_wrong.false)
    (ap (λ (t : Bool). t || a.kind_refused) (sym c.kinds_wrong.ensures) ∙ c.if-kinds_wrong-kind_refused.false)
