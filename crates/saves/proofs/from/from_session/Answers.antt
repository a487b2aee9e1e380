-- `saves::from::from_session` meets its contract. Assumes nothing.
use mathlib.Core.Path.{refl}
use Rattle.saves.proofs.from.from_session.Goals as goal

pub returns : goal.returns
returns c = (refl, refl, refl)
