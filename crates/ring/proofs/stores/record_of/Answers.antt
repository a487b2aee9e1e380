-- `ring::stores::record_of` meets its contract: the nonce is written, and the place word behind it. Assumes nothing.
use Rattle.std.proofs.Common.{ℕ, List, length, ap, refl, ◌≡◌, ◌∙◌, ◌++◌, rules}
use Rattle.octets.specs.Limits.{nonce_length}
use Rattle.octets.proofs.Numbers.{length_word}
use Rattle.octets.proofs.Lent.{Front, front_on, front_whole}
use Rattle.ring.specs.Ring.{record_of}
use Rattle.ring.proofs.stores.record_of.Goals as goal

pub returns : goal.returns
unfolding record_of
returns c =
    let long : length c.word_of.result ≡ 4 = ap length c.word_of.ensures ∙ length_word 1 c.args.half in
    let nonce : Front _ c.copy.new.to c.args.nonce nonce_length = record { written = c.copy.ensures; long = search rules } in
    front_whole (front_on c.word_of.result _ 4 nonce c.copy_at.ensures long) refl ∙ ap (λ (l : List ℕ). c.args.nonce ++ l) c.word_of.ensures
