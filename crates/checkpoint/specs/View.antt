-- What a checkpoint that is to be sealed stands for.
use Rattle.checkpoint.specs.Checkpoint.{Checkpoint, checkpoint_of}
use Rattle.checkpoint.specs.declared.staging.Unsealed.{Unsealed}

abbrev pub view_unsealed : Unsealed → Checkpoint
view_unsealed u = checkpoint_of u.packet u.open_part.now u.secret.now u.restarts u.previous.now u.nonce.now
