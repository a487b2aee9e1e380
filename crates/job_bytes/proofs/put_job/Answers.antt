-- `job_bytes::put_job` meets its contract. Assumes nothing.
use Rattle.std.proofs.Common.{◌≡◌, rules, length}
use Rattle.octets.specs.Limits.{nonce_length, tag_length}
use Rattle.jobs.specs.View.{view_job}
use Rattle.job_bytes.proofs.BytesLaws.{written_job, words_long}
use Rattle.job_bytes.proofs.put_job.Goals as goal

pub returns : goal.returns
returns c =
    let nonce_long : length c.args.job.nonce ≡ nonce_length = search (rules, c.well_formed) in
    let tag_long : length c.args.job.tag ≡ tag_length = search (rules, c.well_formed) in
    written_job (view_job c.args.job) c.requires nonce_long tag_long
    (record { written = c.put_job_words.ensures; long = words_long (view_job c.args.job) }) c.copy_at.ensures c.copy_at-2.ensures c.put_word.ensures c.put_word-2.ensures
