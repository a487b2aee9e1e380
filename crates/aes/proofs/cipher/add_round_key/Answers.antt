-- `aes::cipher::add_round_key` meets its contract, column by column. Assumes nothing.
use Rattle.std.proofs.Common.{sym, ◌∙◌}
use Rattle.aes.proofs.Columns.{xor_words, four}
use Rattle.aes.proofs.Steps.{add_round_key_is}
use Rattle.aes.proofs.cipher.add_round_key.Goals as goal

pub returns : goal.returns
returns c =
    c.join.ensures
    ∙ four (xor_words _ _ c.load.ensures c.load-2.ensures) (xor_words _ _ c.load-3.ensures c.load-4.ensures)
    (xor_words _ _ c.load-5.ensures c.load-6.ensures) (xor_words _ _ c.load-7.ensures c.load-8.ensures)
    ∙ sym (add_round_key_is _ _ _)
