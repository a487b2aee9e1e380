-- `keeper_c::lists::keeper_settings_read` meets its contract. Assumes nothing.
use Rattle.std.proofs.Common.{ℕ, ap, ◌∙◌}
use Rattle.settings.specs.Settings.{Reading}
use Rattle.keeper_c.specs.Calls.{settings_left, settings_by, settings_call}
use Rattle.keeper_c.proofs.lists.keeper_settings_read.Goals as goal

pub returns-in-Err : goal.returns-in-Err
unfolding settings_call
returns-in-Err c =
    let a = c.args in
    ap (λ (n : ℕ). settings_left n a.volume.now a.delay.now) c.stop_number.ensures ∙ ap (λ (r : Reading). settings_by r a.volume.now a.delay.now) c.in-Err.ensures

pub returns-in-Ok : goal.returns-in-Ok
unfolding settings_call
returns-in-Ok c =
    let a = c.args in
    ap (λ (r : Reading). settings_by r a.volume.now a.delay.now) c.in-Ok.ensures
