-- `checkpoint::staging::write_word` meets its contract. Assumes nothing.
use mathlib.Core.Path.{ap, ◌∙◌}
use Rattle.octets.specs.Octets.{put}
use Rattle.checkpoint.proofs.staging.write_word.Goals as goal

pub returns : goal.returns
returns c =
    let a = c.args in
    c.copy_at.ensures ∙ ap (put a.staging.now a.i) c.word_of-bytes.ensures
