-- `job_bytes::put_word` meets its contract. Assumes nothing.
use Rattle.std.proofs.Common.{ap, ◌∙◌}
use Rattle.octets.specs.Octets.{put}
use Rattle.job_bytes.proofs.BytesLaws.{low_word}
use Rattle.job_bytes.proofs.put_word.Goals as goal

pub returns : goal.returns
returns c =
    let a = c.args in
    c.copy_at.ensures ∙ ap (put a.bytes.now a.i) (c.word_bytes-word.ensures ∙ low_word a.n)
