-- `settings::put_word` meets its contract. Assumes nothing.
use Prim.Native.Nat.{◌*◌}
use mathlib.Core.Path.{ap, ◌∙◌}
use Rattle.octets.specs.Octets.{put}
use Rattle.octets.specs.Word.{top_word}
use Rattle.settings.proofs.put_word.Goals as goal

pub returns : goal.returns
unfolding top_word
returns c =
    let a = c.args in
    c.copy_at.ensures ∙ ap (put a.list.now (4 * a.i)) c.word_bytes.ensures
