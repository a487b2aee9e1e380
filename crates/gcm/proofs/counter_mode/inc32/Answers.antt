-- `gcm::counter_mode::inc32` meets its contract. Assumes nothing.
use Rattle.std.proofs.Common.{◌≡◌, ℕ, ◌+◌, ◌%◌, ◌^◌, List, ◌++◌, length, take, refl, ap, ◌∙◌, rules}
use Rattle.octets.specs.Octets.{part, bytes}
use Rattle.octets.specs.Word.{word_at}
use Rattle.octets.proofs.Numbers.{length_bytes}
use Rattle.gcm.specs.Gcm.{inc32}
use Rattle.gcm.proofs.Blocks.{last_four}
use Rattle.gcm.proofs.counter_mode.inc32.Goals as goal

counted : (X w : List ℕ) (a b : ℕ) → a ≡ word_at X 12 → b ≡ (a + 1) % 2 ^ 32 → w ≡ bytes 4 b → take 12 X ++ w ≡ inc32 X
unfolding inc32 word_at
counted X w a b ha hb hw = cc

pub returns : goal.returns
unfolding part
returns c =
    let X = c.args.block in
    last_four X _ _ (search rules) (ap length c.word_bytes-last.ensures ∙ length_bytes 4 _) c.copy.ensures
    ∙ counted X _ _ _ c.word_at.ensures refl c.word_bytes-last.ensures
