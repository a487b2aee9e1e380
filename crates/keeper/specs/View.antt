-- What the answer of power-up stands for (document 01, "What the unit calls"): the value of the crate `protocol`.
use Rattle.std.specs.Prelude.{ℕ, List, Result, Ok, Err}
use Rattle.stops.specs.declared.Stop.{Stop}
use Rattle.stops.specs.View.{stop_number}
use Rattle.protocol.specs.Types as types
use Rattle.protocol.specs.Calls as calls
use Rattle.protocol.specs.Operations as operations
use Rattle.jobs.specs.View.{view_job}
use Rattle.keeper.specs.declared.types.PoweredUp.{PoweredUp}

-- the answer, with what the lent buffers then hold; where it stops there is no job
abbrev pub view_powered_up : Result PoweredUp Stop → List ℕ → List ℕ → operations.Begin
view_powered_up (Ok a) staging state = record { answer = types.Begun; job = view_job a.job; secret_length = a.length; staging = staging; state = state }
view_powered_up (Err s) staging state = record { answer = types.Stopped (stop_number s); job = operations.no_job; secret_length = 0; staging = staging; state = state }

-- its arguments
abbrev pub powers_up : ℕ → ℕ → List ℕ → List ℕ → List ℕ → List ℕ → calls.PowersUp
powers_up pages slots key nonce staging state = record { sizes = calls.sizes pages slots; key = key; nonce = nonce; staging = staging; state = state }
