-- `trace::starts::start_power_up` meets its contract. Assumes nothing.
use Rattle.std.proofs.lemmas.Result.{err_from_is_err_and}
use Rattle.trace.proofs.Starting.{power_up_starts, power_up_stops}
use Rattle.trace.proofs.starts.start_power_up.Goals as goal

pub returns-in_err-powered : goal.returns-in_err-powered
returns-in_err-powered c =
    let p = err_from_is_err_and c.from_residual.result c.from_residual.ensures.1 in
    rw (p.1, p.2) (power_up_stops _ _ _ _ _ _ _ _ c.nonce_of.ensures _ c.in_err-powered.ensures)

pub returns : goal.returns
returns c =
    power_up_starts _ _ _ _ _ _ _ _ c.nonce_of.ensures _ c.in_ok-powered.ensures
