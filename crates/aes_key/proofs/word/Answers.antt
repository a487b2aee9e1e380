-- `aes_key::word` meets its contract, byte by byte.
-- Assumes nothing.
use Prim.Native.Nat.{◌*◌}
use native.Mathlib.Nat.{add_comm, zero-add}
use Rattle.aes_key.proofs.word.Goals as goal

pub returns : goal.returns
returns c = let p = 4 * c.args.i in cc (zero-add p, add_comm 1 p, add_comm 2 p, add_comm 3 p)
