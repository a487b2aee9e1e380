-- `gcm::counter_mode::counter_block` meets its contract. Assumes nothing.
use Rattle.std.proofs.Common.{ℕ, List, ◌++◌, length, refl, ap, ◌∙◌}
use Rattle.octets.proofs.Numbers.{length_bytes}
use Rattle.octets.specs.Octets.{part}
use Rattle.gcm.proofs.Blocks.{counter_made}
use Rattle.gcm.proofs.counter_mode.counter_block.Goals as goal

pub returns : goal.returns
unfolding part
returns c =
    counter_made _ c.args.nonce.now _ _ _ refl c.requires (ap length c.word_bytes-last.ensures ∙ length_bytes 4 c.args.count) c.copy.ensures c.copy-2.ensures
    ∙ ap (λ (l : List ℕ). c.args.nonce.now ++ l) c.word_bytes-last.ensures
