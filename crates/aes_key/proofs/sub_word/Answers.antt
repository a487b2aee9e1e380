-- `aes_key::sub_word` meets its contract, byte by byte.
-- Assumes nothing.
use Rattle.aes_key.proofs.sub_word.Goals as goal

pub returns : goal.returns
returns c = cc
