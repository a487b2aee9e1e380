-- `jobs::types::Job::store` meets its contract: each arm is a case of the definition, and what it needs follows from the checks that passed. Assumes nothing.
use mathlib.Core.Path.{◌≡◌, ap}
use native.Mathlib.Omega.{arith}
use lib.ListN.{length}
use Rattle.ring.proofs.SizeLaws.{sized_alike}
use Rattle.protocol.specs.Operations.{store, stored_word, recorded, after_record}
use Rattle.jobs.specs.View.{view_phase, advances}
use Rattle.jobs.proofs.AdvanceLaws.{stored_by, ready, first_ready, after_ready, slot_ready, word_ready, word_fits}
use Rattle.jobs.proofs.types.Job.store.Goals as goal

pub record_bytes-bytes-requires : goal.record_bytes-bytes-requires
record_bytes-bytes-requires c =
    let a = c.args in
    let r = ready a.ring.now a.fram.now (advances a.pages a.slots a.self a.staging.now) c.requires in
    r.numbers.half

pub after_record-requires : goal.after_record-requires
after_record-requires c =
    let a = c.args in
    let r = ready a.ring.now a.fram.now (advances a.pages a.slots a.self a.staging.now) c.requires in
    let same : length c.write_record.new.ring ≡ length a.ring.now = omega arith in
    (r.numbers.half, r.numbers.page, sized_alike a.pages a.slots _ a.ring.now same r.ring_right)

pub erase_page-requires : goal.erase_page-requires
erase_page-requires c =
    let a = c.args in
    let r = ready a.ring.now a.fram.now (advances a.pages a.slots a.self a.staging.now) c.requires in
    first_ready r _ (ap view_phase c.in-EraseFirst.is)

pub copy_word-requires : goal.copy_word-requires
copy_word-requires c =
    let a = c.args in
    let r = ready a.ring.now a.fram.now (advances a.pages a.slots a.self a.staging.now) c.requires in
    word_fits r _ (ap view_phase c.in-Words.is)

pub after_word-requires : goal.after_word-requires
after_word-requires c =
    let a = c.args in
    let r = ready a.ring.now a.fram.now (advances a.pages a.slots a.self a.staging.now) c.requires in
    (r.numbers.words, word_ready r _ (ap view_phase c.in-Words.is))

pub write_record-requires : goal.write_record-requires
write_record-requires c =
    let a = c.args in
    let r = ready a.ring.now a.fram.now (advances a.pages a.slots a.self a.staging.now) c.requires in
    slot_ready r

pub erase_page-requires-in-EraseAfter : goal.erase_page-requires-in-EraseAfter
erase_page-requires-in-EraseAfter c =
    let a = c.args in
    let r = ready a.ring.now a.fram.now (advances a.pages a.slots a.self a.staging.now) c.requires in
    after_ready r _ (ap view_phase c.in-EraseAfter.is)

pub ended-requires : goal.ended-requires
ended-requires c =
    let a = c.args in
    let r = ready a.ring.now a.fram.now (advances a.pages a.slots a.self a.staging.now) c.requires in
    r.numbers.half

pub ended-requires-in-Done : goal.ended-requires-in-Done
ended-requires-in-Done c =
    let a = c.args in
    let r = ready a.ring.now a.fram.now (advances a.pages a.slots a.self a.staging.now) c.requires in
    r.numbers.half

pub returns-in-EraseFirst : goal.returns-in-EraseFirst
unfolding store
returns-in-EraseFirst c =
    let a = c.args in
    stored_by a.ring.now a.fram.now (advances a.pages a.slots a.self a.staging.now) (ap view_phase c.in-EraseFirst.is) (rw (← c.erase_page.ensures) (c.going_on.ensures _ _))

pub returns-in-Words : goal.returns-in-Words
unfolding store stored_word
returns-in-Words c =
    let a = c.args in
    stored_by a.ring.now a.fram.now (advances a.pages a.slots a.self a.staging.now) (ap view_phase c.in-Words.is) (rw (← c.copy_word.ensures) (c.after_word.ensures _ _))

pub returns-in-Record : goal.returns-in-Record
unfolding store after_record recorded
returns-in-Record c =
    let a = c.args in
    stored_by a.ring.now a.fram.now (advances a.pages a.slots a.self a.staging.now) (ap view_phase c.in-Record.is) (rw (← c.record_bytes-bytes.ensures, ← c.write_record.ensures) (c.after_record.ensures _))

pub returns-in-EraseAfter : goal.returns-in-EraseAfter
unfolding store
returns-in-EraseAfter c =
    let a = c.args in
    stored_by a.ring.now a.fram.now (advances a.pages a.slots a.self a.staging.now) (ap view_phase c.in-EraseAfter.is) (rw (← c.erase_page-in-EraseAfter.ensures) (c.ended.ensures _ _))

pub returns-in-Done : goal.returns-in-Done
unfolding store
returns-in-Done c =
    let a = c.args in
    stored_by a.ring.now a.fram.now (advances a.pages a.slots a.self a.staging.now) (ap view_phase c.in-Done.is) (c.ended-in-Done.ensures _ _)
