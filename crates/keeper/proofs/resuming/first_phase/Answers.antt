-- `keeper::resuming::first_phase` meets its contract. Assumes nothing.
use Rattle.std.proofs.Common.{inl, inr, sym, ap}
use Rattle.ring.specs.declared.Newest.{Newest}
use Rattle.ring.specs.View.{newest}
use Rattle.protocol.specs.Operations.{first_phase}
use Rattle.keeper.proofs.resuming.first_phase.Goals as goal

pub returns-in-Blank : goal.returns-in-Blank
unfolding first_phase
returns-in-Blank c = elim c.in-Blank.is [
  | inl e ↦ sym (ap (λ (n : Newest). first_phase (newest n)) e)
  | inr (inl e) ↦ sym (ap (λ (n : Newest). first_phase (newest n)) e)
  | inr (inr (page, slot, e)) ↦ sym (ap (λ (n : Newest). first_phase (newest n)) e)
]

pub returns-in-AtPending : goal.returns-in-AtPending
unfolding first_phase
returns-in-AtPending c = sym (ap (λ (n : Newest). first_phase (newest n)) c.in-AtPending.is)
