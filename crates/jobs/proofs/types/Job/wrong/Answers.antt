-- `jobs::types::Job::wrong` meets its contract: the tests on the numbers are one flag. Assumes nothing.
use Rattle.ring.proofs.SizeLaws.{sized, slot_ends}
use Rattle.checkpoint.specs.Fram.{half_length}
use Rattle.protocol.specs.Operations.{job_wrong}
use Rattle.protocol.specs.Calls.{sizes}
use Rattle.jobs.specs.View.{view_job}
use Rattle.jobs.proofs.AdvanceLaws.{placed}
use Rattle.jobs.proofs.types.Job.wrong.Goals as goal

pub returns-then-bad_length-pages : goal.returns-then-bad_length-pages
unfolding job_wrong half_length
returns-then-bad_length-pages c = rw c.if-bad_length-pages.true

pub phase_wrong-requires : goal.phase_wrong-requires
unfolding half_length
phase_wrong-requires c =
    let a = c.args in
    let p = placed (view_job a.self) (sizes a.pages a.slots) a.fram.now c.if-bad_length-pages.false in
    (p.words, slot_ends (sized a.pages a.slots a.ring.now c.requires) a.self.page p.page a.self.slot p.slot)

pub returns : goal.returns
unfolding job_wrong half_length
returns c = rw (c.if-bad_length-pages.false, c.phase_wrong.ensures)
