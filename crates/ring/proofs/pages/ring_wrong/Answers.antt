-- `ring::pages::ring_wrong` meets its contract: the first four tests are one flag; where it is false the product is small. Assumes nothing.
use Rattle.ring.specs.Ring.{ring_wrong}
use Rattle.ring.proofs.pages.ring_wrong.Goals as goal

pub returns-then-pages-slots : goal.returns-then-pages-slots
unfolding ring_wrong
returns-then-pages-slots c = rw c.if-pages-slots.true

pub returns : goal.returns
unfolding ring_wrong
returns c = rw c.if-pages-slots.false
