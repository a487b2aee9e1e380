-- `saves::saving::check_first` meets its contract. Assumes nothing.
use mathlib.Core.Path.{ap}
use mathlib.Core.Bool.{not}
use mathlib.Core.List.{[]}
use Rattle.stops.proofs.Laws.{no_lines, one_more}
use Rattle.saves.proofs.saving.check_first.Goals as goal

pub returns : goal.returns
returns c = one_more [] 5 _ _ _ _ no_lines (ap not c.blank-unused.ensures) c.stop_if.ensures
