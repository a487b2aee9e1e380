-- The stops of the check, stage by stage. Assumes nothing.
use Prim.Native.Nat.{ℕ}
use mathlib.Core.Path.{◌≡◌}
use mathlib.Core.Option.{none, some}
use mathlib.Core.List.{List}
use Rattle.stops.specs.Stops.{first_of, then_stop}
use Rattle.ring.specs.Ring.{Newest, read_ring, newest_record, half_named}
use Rattle.checkpoint.specs.Fram.{half_at}
use Rattle.checkpoint.specs.Half.{form_of, stored_restarts}
use Rattle.protocol.specs.Types.{this_firmware}
use Rattle.protocol.specs.Operations.{newest_half, look_stop}
use Rattle.look.specs.View.{looks}
use Rattle.look.specs.Stages.{look_ring, look_half}
use Rattle.look.proofs.LookLaws.{on_half}
use Rattle.factory.specs.Factory.{not_first, factory_stop}

module _ (pages slots : ℕ) (ring fram key : List ℕ) where
  -- what a look stops with stays
  pub look_stays : {s : ℕ} → look_stop this_firmware ring fram (looks pages slots key) ≡ some s → factory_stop ring fram (looks pages slots key) ≡ some s
  unfolding factory_stop
  look_stays e = rw e

  -- where the ring reads as `found` and has the newest record `rec`
  pub named_stops : (found : Newest) (rec : List ℕ) → found ≡ read_ring ring pages slots → rec ≡ newest_record ring slots (read_ring ring pages slots)
      → first_of (look_ring pages slots ring fram key) ≡ none
      → (let half = half_at fram (half_named rec) in
      then_stop (first_of (look_half key rec fram)) 19 (not_first found (half_named rec) (form_of half) (stored_restarts (form_of half) half)))
      ≡ factory_stop ring fram (looks pages slots key)
  unfolding factory_stop newest_half
  named_stops found rec x y r = rw (x, y, on_half pages slots ring fram key r)
