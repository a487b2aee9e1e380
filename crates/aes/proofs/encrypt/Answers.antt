-- `aes::encrypt` meets its contract: what its callees ensure, joined.
-- Assumes nothing.
use Rattle.aes.proofs.Whole.{aes_is}
use Rattle.aes.proofs.encrypt.Goals as goal

pub returns : goal.returns
returns c =
    cc (aes_is c.args.key.now c.args.block c.requires)
