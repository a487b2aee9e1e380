-- `octets::word_bytes` meets its contract, byte by byte. Assumes nothing.
use native.Mathlib.Nat.{div-one}
use Rattle.octets.specs.Octets.{bytes}
use Rattle.octets.proofs.word_bytes.Goals as goal

pub returns : goal.returns
unfolding bytes
returns c = rw div-one c.to_be_bytes.ensures
