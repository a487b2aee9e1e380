-- `checkpoint::staging::write_secret` meets its contract. Assumes nothing.
use Rattle.std.proofs.Common.{◌-◌, length, arith}
use Rattle.aes.specs.Cipher.{cipher}
use Rattle.gcm.specs.Gcm.{AE_text}
use Rattle.gcm.proofs.Laws.{length_text}
use Rattle.octets.proofs.Lent.{lent}
use Rattle.checkpoint.proofs.staging.write_secret.Goals as goal

pub returns : goal.returns
returns c =
    let a = c.args in
    let CIPH = cipher a.schedule.now.rounds a.schedule.now.keys.now in
    lent a.staging.now (AE_text CIPH a.nonce.now a.secret.now) _ a.i (length a.staging.now - a.i) (omega arith)
    (omega (arith, length_text CIPH a.nonce.now a.secret.now)) c.encrypt.ensures
