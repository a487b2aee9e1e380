-- `gcm::prepared::with_key` meets its contract. Assumes nothing.
use Rattle.std.proofs.Common.{arith}
use Rattle.gcm.proofs.Keys.{under}
use Rattle.gcm.proofs.prepared.with_key.Goals as goal

pub invariant_of-schedule : goal.invariant_of-schedule
invariant_of-schedule g c =
    let long = c.requires.key_fits in
    record { table_right = c.round_table-table.ensures; some_rounds = omega arith; few_rounds = omega arith }

pub f-answer-requires : goal.f-answer-requires
f-answer-requires g c = c.requires.callable _ (under c.args.key.now _ _ c.requires.key_fits c.expand_key-keys.ensures c.rounds.ensures)

pub returns : goal.returns
returns g c = (_, under c.args.key.now _ _ c.requires.key_fits c.expand_key-keys.ensures c.rounds.ensures, c.f-answer.ensures)
