-- `keeper_c::starts::from_in` meets its contract. Assumes nothing.
use mathlib.Core.Path.{ap, ◌∙◌}
use borrow.Author.Tests.{eq-eqb, ne_eqb}
use lib.ListN.{length}
use Rattle.protocol.specs.Calls.{from_session}
use Rattle.job_bytes.specs.Bytes.{session_length}
use Rattle.keeper_c.proofs.starts.from_in.Goals as goal

pub returns-then-bytes-eq-SESSION_LENGTH : goal.returns-then-bytes-eq-SESSION_LENGTH
returns-then-bytes-eq-SESSION_LENGTH c =
    let b = c.args.bytes.now in
    c.from_session.ensures.0 ∙ ap from_session c.session_in.ensures ∙ rw (eq-eqb (length b) session_length c.if-bytes-eq-SESSION_LENGTH.true)

pub returns : goal.returns
returns c =
    let b = c.args.bytes.now in
    c.from_tag.ensures.0 ∙ rw (ne_eqb (length b) session_length c.if-bytes-eq-SESSION_LENGTH.false)
