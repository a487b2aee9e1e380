-- The stages that calls' stops have in common: the first, of the memories, and that of what the ring reads as (document 01, "Stops, by the place of checking").
use Rattle.std.specs.Prelude.{ℕ, Bool, List, [], ◌∷◌}
use Rattle.octets.specs.Limits.{fram_limit}
use Rattle.ring.specs.Ring.{Newest, ring_wrong, is_blank, is_unreadable}
use Rattle.checkpoint.specs.Fram.{fram_wrong}

abbrev pub of_memories : (pages slots : ℕ) (ring fram : List ℕ) → List (ℕ × Bool)
of_memories pages slots ring fram = (1, ring_wrong pages slots ring) ∷ (2, fram_wrong fram_limit fram) ∷ []

abbrev pub of_newest : Newest → List (ℕ × Bool)
of_newest n = (6, is_blank n) ∷ (7, is_unreadable n) ∷ []
