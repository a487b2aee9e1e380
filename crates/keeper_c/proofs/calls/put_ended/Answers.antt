-- `keeper_c::calls::put_ended` meets its contract. Assumes nothing.
use Rattle.std.proofs.Common.{Ok, sym, ap, ◌∙◌}
use Rattle.jobs.specs.declared.types.Progress.{Progress}
use Rattle.jobs.specs.View.{view_progress, session_out}
use Rattle.keeper_c.specs.Calls.{progress_number, session_after}
use Rattle.keeper_c.proofs.calls.put_ended.Goals as goal

pub returns-in-Saved : goal.returns-in-Saved
returns-in-Saved c =
    let a = c.args in
    let told = c.in-Saved.is in
    (sym (ap (λ (p : Progress). progress_number (view_progress (Ok p))) told), c.put_session.ensures ∙ sym (ap (λ (p : Progress). session_after (view_progress (Ok p)) (session_out (Ok p)) a.session.now) told))

pub returns-in-Restored : goal.returns-in-Restored
returns-in-Restored c =
    let a = c.args in
    let told = c.in-Restored.is in
    (sym (ap (λ (p : Progress). progress_number (view_progress (Ok p))) told), c.put_session-in-Restored.ensures ∙ sym (ap (λ (p : Progress). session_after (view_progress (Ok p)) (session_out (Ok p)) a.session.now) told))
