-- `trace::Unit::step` meets its contract: a cut is set, or an operation is made and its line written. Assumes nothing.
use Rattle.std.proofs.Common.{sym, ◌∙◌}
use Rattle.trace.specs.View.{view_unit}
use Rattle.trace.proofs.Stepping.{stepped_cut, stepped}
use Rattle.trace.proofs.unit.Unit.step.Goals as goal

pub returns-then-is_cut : goal.returns-then-is_cut
returns-then-is_cut c =
    let a = c.args in
    stepped_cut a.key.now (view_unit a.self.now a.ring.now a.fram.now) a.w _ _ _ (sym c.is_cut.ensures ∙ c.if-is_cut.true) c.low_value.ensures.0

pub returns : goal.returns
returns c =
    let a = c.args in
    stepped a.key.now (view_unit a.self.now a.ring.now a.fram.now) a.w _ _ _ _ _ _ _ _ _ (sym c.is_cut.ensures ∙ c.if-is_cut.false) c.operate-operated.ensures
    c.line_after.ensures c.put_line.ensures c.session_after.ensures
