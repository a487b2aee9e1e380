-- `settings::some_kind_wrong` meets its contract: the kinds of the words before i are the version's and rise. Assumes nothing.
use Rattle.octets.proofs.Search.{NoneBefore}
use Rattle.settings.specs.Settings.{kind_wrong}
use Rattle.settings.proofs.some_kind_wrong.Given as goal

abbrev pub invariant-loop-i : goal.invariant-loop-i
invariant-loop-i l = NoneBefore (kind_wrong l.list) l.i
