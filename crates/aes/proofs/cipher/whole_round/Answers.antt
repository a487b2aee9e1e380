-- `aes::cipher::whole_round` meets its contract, column by column.
-- Assumes nothing.
use mathlib.Core.Path.{sym, ◌∙◌}
use Rattle.aes.proofs.Columns.{xor_words, four}
use Rattle.aes.proofs.Steps.{mixed, round_is}
use Rattle.aes.proofs.cipher.whole_round.Goals as goal

pub returns : goal.returns
returns c =
    let s = c.args.s in
    c.join.ensures
    ∙ four
    (xor_words _ _ {u = mixed s 0 5 10 15} c.column.ensures c.load.ensures)
    (xor_words _ _ {u = mixed s 4 9 14 3} c.column-2.ensures c.load-2.ensures)
    (xor_words _ _ {u = mixed s 8 13 2 7} c.column-3.ensures c.load-3.ensures)
    (xor_words _ _ {u = mixed s 12 1 6 11} c.column-4.ensures c.load-4.ensures)
    ∙ sym (round_is _ _ _)
