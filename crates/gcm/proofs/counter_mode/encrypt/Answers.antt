-- `gcm::counter_mode::encrypt` meets its contract: the text's first counter block is the one after J0. Assumes nothing.
use Rattle.std.proofs.Common.{◌≡◌, ℕ, List, ◌++◌, length, sym, ap, ◌∙◌}
use Rattle.octets.specs.Octets.{put, bytes}
use Rattle.gcm.specs.Gcm.{GCTR, AE_text}
use Rattle.gcm.proofs.Blocks.{inc32_J0}
use Rattle.gcm.proofs.counter_mode.encrypt.Goals as goal

text_made : (CIPH : List ℕ → List ℕ) (IV P d t b : List ℕ) → length IV ≡ 12 → b ≡ IV ++ bytes 4 2 → t ≡ put d 0 (GCTR CIPH b P) → t ≡ put d 0 (AE_text CIPH IV P)
unfolding AE_text
text_made CIPH IV P d t b twelve hb ht = ht ∙ ap (λ (l : List ℕ). put d 0 (GCTR CIPH l P)) (hb ∙ sym (inc32_J0 IV twelve))

pub returns : goal.returns
returns c =
    text_made _ c.args.nonce.now _ _ _ _ c.requires.0 c.counter_block.ensures c.gctr.ensures
