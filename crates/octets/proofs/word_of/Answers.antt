-- `octets::word_of` meets its contract. Assumes nothing.
use Rattle.octets.specs.Word.{word}
use Rattle.octets.proofs.word_of.Goals as goal

pub returns : goal.returns
unfolding word
returns c = c.word_bytes.ensures
