-- `jobs::types::Job::phase_wrong` meets its contract: each arm is a case of the definition. Assumes nothing.
use Rattle.protocol.specs.Operations.{phase_wrong}
use Rattle.jobs.proofs.AdvanceLaws.{words_left}
use Rattle.jobs.proofs.types.Job.phase_wrong.Goals as goal

pub returns-in-EraseFirst : goal.returns-in-EraseFirst
unfolding phase_wrong
returns-in-EraseFirst c = rw c.in-EraseFirst.is

pub returns-in-Words : goal.returns-in-Words
unfolding phase_wrong
returns-in-Words c = rw c.in-Words.is (words_left _ _ c.requires.0)

pub returns-in-Record : goal.returns-in-Record
unfolding phase_wrong
returns-in-Record c = rw (c.in-Record.is, c.slot_is_blank.ensures)

pub returns-in-EraseAfter : goal.returns-in-EraseAfter
unfolding phase_wrong
returns-in-EraseAfter c = rw c.in-EraseAfter.is

pub returns-in-Done : goal.returns-in-Done
unfolding phase_wrong
returns-in-Done c = rw c.in-Done.is
