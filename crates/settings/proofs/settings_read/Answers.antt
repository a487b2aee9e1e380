-- `settings::settings_read` meets its contract. Assumes nothing.
use Rattle.std.proofs.Common.{◌≡◌, ℕ, ◌<◌, false, List, sym, arith}
use Rattle.std.proofs.Math.Option.{none}
use Rattle.std.proofs.lemmas.Result.{err_from_is_err_and}
use Rattle.settings.specs.Settings.{count, list_stop}
use Rattle.settings.proofs.CallLaws.{passed, stopped, read}
use Rattle.settings.proofs.settings_read.Goals as goal

long : (L : List ℕ) → none ≡ list_stop L false false → 2 < count L
long L e = omega (arith, (passed L false false (sym e)).has_kinds.in_front.long)

pub returns-in_err-check : goal.returns-in_err-check
returns-in_err-check c =
    let p = err_from_is_err_and c.from_residual.result c.from_residual.ensures.1 in
    rw (p.1, p.2) (stopped _ _ c.in_err-check.ensures)

pub value_at-requires : goal.value_at-requires
value_at-requires c = omega (arith, long _ c.in_ok-check.ensures)

pub value_at-requires-2 : goal.value_at-requires-2
value_at-requires-2 c = long _ c.in_ok-check.ensures

pub returns : goal.returns
returns c = read _ _ _ c.in_ok-check.ensures c.value_at.ensures.0 c.value_at-2.ensures.0
