-- What is found of the ring, and seen of a half.
use Rattle.std.specs.Prelude.{ℕ, ◌+◌, ◌*◌, ◌≡◌, List, Result, Ok}
use Rattle.std.proofs.Math.Option.{Option}
use Rattle.stops.specs.declared.Stop.{Stop}
use Rattle.stops.specs.Stops.{first_of}
use Rattle.stops.specs.View.{check_number}
use Rattle.ring.specs.declared.found.Reading.{Reading}
use Rattle.memories.specs.Read.{ReadFrom}
use Rattle.checkpoint.specs.Checkpoint.{head_length}
use Rattle.checkpoint.specs.Fram.{half_length, half_at}
use Rattle.checkpoint.specs.Half.{form_of, open_length, stored_restarts}
use Rattle.protocol.specs.Operations.{look_by, stretch_by}
use Rattle.look.specs.View.{view_seen, view_stretch}
use Rattle.look.specs.Stages.{look_ring}
use Rattle.look.specs.declared.types.Seen.{Seen}

-- the first stop that applies before a half is looked at, or what the ring reads as
pub record Finds (f : Result Reading Stop) (pages slots : ℕ) (ring fram key : List ℕ) : Type 0 where
  pub stop : check_number f ≡ first_of (look_ring pages slots ring fram key)
  pub reads : (r : Reading) → f ≡ Ok r → ReadFrom r pages slots ring

-- for the stop o that look has of a half: the restarts that its head says, and where its open part lies
pub record Sees (s : Result Seen Stop) (o : Option ℕ) (fram : List ℕ) (half : ℕ) : Type 0 where
  pub looked : view_seen s ≡ look_by o (stored_restarts (form_of (half_at fram half)) (half_at fram half))
  pub stretch : view_stretch s ≡ stretch_by o (half * half_length fram + head_length (form_of (half_at fram half))) (open_length (form_of (half_at fram half)) (half_at fram half))
