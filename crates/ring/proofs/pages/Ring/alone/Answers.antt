-- `ring::pages::Ring::alone` meets its contract: the number of records and the test of what follows them pick the case of the definition. Assumes nothing.
use mathlib.Core.Path.{sym}
use mathlib.Core.Bool.{true, false}
use Rattle.ring.proofs.StepLaws.{said, alone_none, alone_some}
use Rattle.ring.proofs.pages.Ring.alone.Goals as goal

pub returns-then-k-eq0 : goal.returns-then-k-eq0
returns-then-k-eq0 c = sym (alone_none _ _ _ c.page-bytes.ensures.0 c.records-k.ensures.0 c.if-k-eq0.true)

pub returns-then-blank : goal.returns-then-blank
returns-then-blank c = sym (alone_some _ _ _ c.page-bytes.ensures.0 c.records-k.ensures.0 true
    c.if-k-eq0.false (said c.blank.ensures c.if-blank.true))

pub returns : goal.returns
returns c = sym (alone_some _ _ _ c.page-bytes.ensures.0 c.records-k.ensures.0 false
    c.if-k-eq0.false (said c.blank.ensures c.if-blank.false))
