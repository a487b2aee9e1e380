-- `aes_key::next_word` meets its contract, byte by byte.
-- Assumes nothing.
use borrow.Author.Tests.{lt-ltb, le-ltb}
use Rattle.aes_key.specs.Key.{next_word}
use Rattle.aes_key.proofs.next_word.Goals as goal

pub returns-then-i-nk : goal.returns-then-i-nk
unfolding next_word
returns-then-i-nk c = simp (lt-ltb _ _ c.if-i-nk.true) c.word.ensures

pub returns : goal.returns
unfolding next_word
returns c = simp (le-ltb _ _ c.if-i-nk.false) (rw (c.word-u.ensures, c.temp-v.ensures, c.word-2.ensures))
