-- `job_bytes::put_job_words` meets its contract. Assumes nothing.
use Rattle.jobs.specs.View.{view_job}
use Rattle.job_bytes.proofs.BytesLaws.{named, seven_words}
use Rattle.job_bytes.proofs.put_job_words.Goals as goal

pub returns : goal.returns
returns c =
    let a = c.args in
    (seven_words (view_job a.job)
    (named _ _ _ _ _ c.put_word.ensures c.phase_number.ensures) (named _ _ _ _ _ c.put_word-2.ensures c.phase_place.ensures)
    (named _ _ _ _ _ c.put_word-3.ensures c.origin_number.ensures)
    c.put_word-4.ensures c.put_word-5.ensures c.put_word-6.ensures c.put_word-7.ensures).written
