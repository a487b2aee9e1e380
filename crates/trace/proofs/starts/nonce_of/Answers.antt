-- `trace::starts::nonce_of` meets its contract: a value below 2^32 has four bytes, behind eight zeros. Assumes nothing.
use Rattle.std.proofs.Common.{arith}
use Rattle.trace.proofs.Laws.{nonce_put}
use Rattle.trace.proofs.starts.nonce_of.Goals as goal

pub returns : goal.returns
returns c =
    nonce_put c.args.value _ _ (omega (arith, c.ranges.value)) c.word_bytes.ensures c.copy_at.ensures
