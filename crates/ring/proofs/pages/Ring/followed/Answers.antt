-- `ring::pages::Ring::followed` meets its contract: the number of records and the test of what follows them pick the case of the definition. Assumes nothing.
use mathlib.Core.Path.{sym}
use mathlib.Core.Bool.{true, false}
use Rattle.ring.proofs.StepLaws.{said, followed_none, followed_one}
use Rattle.ring.proofs.pages.Ring.followed.Goals as goal

pub returns-then-records-ne1 : goal.returns-then-records-ne1
returns-then-records-ne1 c = sym (followed_none _ _ _ c.page-bytes.ensures.0 c.records.ensures.0 _ c.if-records-ne1.true)

pub returns-then-blank : goal.returns-then-blank
returns-then-blank c = sym (followed_one _ _ _ c.page-bytes.ensures.0 c.records.ensures.0 true _
    c.if-records-ne1.false (said c.blank.ensures c.if-blank.true))

pub returns : goal.returns
returns c = sym (followed_one _ _ _ c.page-bytes.ensures.0 c.records.ensures.0 false _
    c.if-records-ne1.false (said c.blank.ensures c.if-blank.false))
