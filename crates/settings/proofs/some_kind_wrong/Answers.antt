-- `settings::some_kind_wrong` meets its contract. Assumes nothing.
use Rattle.std.proofs.Common.{refl, sym, ◌∙◌, arith}
use Rattle.octets.proofs.Search.{none_yet, none_more, some_stops, some_ends}
use Rattle.settings.specs.Settings.{count, kind_wrong}
use Rattle.settings.proofs.Laws.{none_first}
use Rattle.settings.proofs.some_kind_wrong.Goals as goal

pub loop-i-init : goal.loop-i-init
loop-i-init c =
    let L = c.args.list.now in
    none_more (kind_wrong L) 0 (none_yet (kind_wrong L)) (none_first L)

pub returns-then-kind_wrong : goal.returns-then-kind_wrong
returns-then-kind_wrong c =
    let L = c.args.list.now in
    sym (some_stops (count L) (kind_wrong L) c.loop-i.i c.loop-i.invariant (omega arith) (sym c.kind_wrong.ensures ∙ c.if-kind_wrong.true))

pub loop-i-preserved : goal.loop-i-preserved
loop-i-preserved c =
    let L = c.args.list.now in
    none_more (kind_wrong L) c.loop-i.i c.loop-i.invariant (sym c.kind_wrong.ensures ∙ c.if-kind_wrong.false)

pub returns : goal.returns
returns c =
    let L = c.args.list.now in
    sym (some_ends (count L) (kind_wrong L) (count L) (λ k h. c.loop-i.invariant k (omega arith)) refl)
