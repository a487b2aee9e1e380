-- What the answers of look stand for (document 01, "What the unit calls"): for each case of each enum and for each struct the number or value of the crate `protocol`.
-- A stop stands for its number in document 01's table.
use Rattle.std.specs.Prelude.{ℕ, List, Result, Ok, Err}
use Rattle.stops.specs.declared.Stop.{Stop}
use Rattle.stops.specs.View.{stop_number}
use Rattle.protocol.specs.Types as types
use Rattle.protocol.specs.Calls as calls
use Rattle.look.specs.declared.types.Seen.{Seen}

-- ---- answers

abbrev pub view_looked : Result ℕ Stop → types.Looked
view_looked (Ok n) = types.Restarts n
view_looked (Err s) = types.Unseen (stop_number s)

-- of all that is seen, look answers the restarts
abbrev pub view_seen : Result Seen Stop → types.Looked
view_seen (Ok s) = types.Restarts s.restarts
view_seen (Err s) = types.Unseen (stop_number s)

-- an empty stretch where look stops
abbrev pub view_stretch : Result Seen Stop → types.Stretch
view_stretch (Ok s) = record { offset = s.offset; length = s.length }
view_stretch (Err s) = record { offset = 0; length = 0 }

-- ---- arguments

abbrev pub looks : ℕ → ℕ → List ℕ → calls.Looks
looks pages slots key = record { sizes = calls.sizes pages slots; key = key }
