-- `checkpoint::staging::seal` meets its contract. Assumes nothing.
use Rattle.std.proofs.Common.{refl, arith, rules}
use Rattle.checkpoint.proofs.Sealing.{staged}
use Rattle.checkpoint.proofs.staging.seal.Goals as goal

pub write_tag-requires : goal.write_tag-requires
write_tag-requires c =
    (c.requires.0, omega arith, search rules, search rules)

pub returns : goal.returns
returns c key e =
    let u = c.args.unsealed.now in
    staged key u.nonce.now c.args.staging.now u.open_part.now u.secret.now u.previous.now u.packet u.restarts _ e c.requires.3 _ _ _ _ _ _ _ refl refl
    c.write_head.ensures c.copy_at.ensures c.write_secret.ensures c.write_tag.ensures.0 c.write_tag.ensures.1
