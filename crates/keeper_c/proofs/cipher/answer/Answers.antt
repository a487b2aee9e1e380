-- `keeper_c::cipher::answer` meets its contract. Assumes nothing.
use Rattle.std.proofs.Common.{Result, sym, ap, ◌∙◌}
use Rattle.stops.specs.declared.Stop.{Stop}
use Rattle.stops.specs.View.{check_number}
use Rattle.keeper_c.specs.Calls.{answer}
use Rattle.keeper_c.proofs.cipher.answer.Goals as goal

pub returns-in-Err : goal.returns-in-Err
returns-in-Err c = c.stop_number.ensures ∙ sym (ap (λ (k : Result Unit Stop). answer (check_number k)) c.in-Err.is)
