-- `job_bytes::put_session` meets its contract. Assumes nothing.
use Rattle.std.proofs.Common.{◌≡◌, rules, length}
use Rattle.octets.specs.Limits.{slot_length, tag_length}
use Rattle.jobs.specs.View.{view_session}
use Rattle.job_bytes.proofs.BytesLaws.{written_session}
use Rattle.job_bytes.proofs.put_session.Goals as goal

pub returns : goal.returns
returns c =
    let latest_long : length c.args.session.latest ≡ slot_length = search (rules, c.well_formed) in
    let tag_long : length c.args.session.tag ≡ tag_length = search (rules, c.well_formed) in
    written_session (view_session c.args.session) _ c.requires latest_long tag_long
    c.put_word.ensures c.put_word-2.ensures c.copy_at.ensures c.copy_at-2.ensures c.put_word-3.ensures c.put_word-4.ensures
