-- What a start that stops answers and leaves.
use Rattle.std.specs.Prelude.{ℕ, List}
use Rattle.protocol.specs.Types.{Stopped}
use Rattle.protocol.specs.Operations.{Begin, no_job}

abbrev pub stopped : ℕ → (staging state : List ℕ) → Begin
stopped s staging state = record { answer = Stopped s; job = no_job; secret_length = 0; staging = staging; state = state }
