-- `octets::value_of` meets its contract. Assumes nothing.
use borrow.Author.Rules.{rules}
use Rattle.octets.specs.Word.{value_of}
use Rattle.octets.proofs.value_of.Goals as goal

pub returns : goal.returns
unfolding value_of
returns c = search rules
