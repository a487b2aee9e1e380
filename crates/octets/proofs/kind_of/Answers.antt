-- `octets::kind_of` meets its contract. Assumes nothing.
use borrow.Author.Rules.{rules}
use Rattle.octets.specs.Word.{kind_of}
use Rattle.octets.proofs.kind_of.Goals as goal

pub returns : goal.returns
unfolding kind_of
returns c = search rules
