-- `jobs::types::Job::after_record` meets its contract: each way out is a case of the definition. Assumes nothing.
use borrow.Author.Tests.{eq-eqb, ne_eqb}
use Rattle.ring.proofs.TurnLaws.{before_laws}
use Rattle.ring.proofs.SizeLaws.{sized, page_ends}
use Rattle.protocol.specs.Operations.{erase_follows}
use Rattle.jobs.proofs.types.Job.after_record.Goals as goal

pub returns-then-self-ne0 : goal.returns-then-self-ne0
unfolding erase_follows
returns-then-self-ne0 c fram = rw (ne_eqb _ _ c.if-self-ne0.true) (c.ended.ensures _ fram)

pub page_is_blank-requires : goal.page_is_blank-requires
page_is_blank-requires c =
    let a = c.args in
    let p = c.requires in
    let size = sized a.pages a.slots a.ring.now p.2 in
    rw c.page_before-older.ensures (page_ends size _ (before_laws a.pages a.self.page size.numbers.some_pages p.1).in_ring)

pub returns-then-page_is_blank : goal.returns-then-page_is_blank
unfolding erase_follows
returns-then-page_is_blank c fram =
    rw (eq-eqb _ _ c.if-self-ne0.false, ← c.page_before-older.ensures, ← c.page_is_blank.ensures, c.if-page_is_blank.true)
    (c.ended-then-page_is_blank.ensures _ fram)

pub returns : goal.returns
unfolding erase_follows
returns c fram =
    rw (eq-eqb _ _ c.if-self-ne0.false, ← c.page_before-older.ensures, ← c.page_is_blank.ensures, c.if-page_is_blank.false)
    (c.going_on.ensures _ fram)
