-- The number so far is at most one more than the most that was asked for.
use Rattle.std.proofs.Common.{◌+◌, ◌≤◌}
use Rattle.bench_io.proofs.number_in.Given as goal

abbrev pub invariant-loop-c : goal.invariant-loop-c
invariant-loop-c l = l.n ≤ l.most + 1
