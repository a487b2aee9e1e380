-- What a save follows, read from a buffer: starting tags of wrong lengths are refused alike. Assumes nothing.
use Prim.Native.Nat.{ℕ}
use mathlib.Core.Path.{◌≡◌, refl}
use mathlib.Core.Bool.{Bool, true, false, cond}
use mathlib.Core.List.{List}
use lib.Dec.{eqb}
use lib.ListN.{length}
use Rattle.protocol.specs.Types.{this_firmware}
use Rattle.protocol.specs.Calls.{From, from_tag, from_session, SaveArguments, saves}
use Rattle.protocol.specs.Operations.{save_stop, save}
use Rattle.saves.specs.View.{whole_tag}
use Rattle.saves.proofs.Laws.{wrong_stops_alike, wrong_tags_alike}
use Rattle.job_bytes.specs.Bytes.{session_length, session_in}
use Rattle.keeper_c.specs.Calls.{from_in, saves_in}
use Rattle.keeper_c.specs.Inner.{whole_from}

-- what holds of a starting tag holds of either
either : {A : Type 0} (asked : From → A) (b : List ℕ) → asked (from_tag (whole_tag b)) ≡ asked (from_tag b) → (session : Bool)
    → asked (cond session (from_session (session_in b)) (from_tag (whole_tag b))) ≡ asked (cond session (from_session (session_in b)) (from_tag b))
either asked b e true = refl
either asked b e false = e

module _ (ring fram : List ℕ) (a : SaveArguments) (b : List ℕ) where
  pub stops_alike : save_stop this_firmware ring fram (saves a (whole_from b)) ≡ save_stop this_firmware ring fram (saves_in a b)
  unfolding from_in
  stops_alike = either (λ (f : From). save_stop this_firmware ring fram (saves a f)) b (wrong_stops_alike ring fram a b) (eqb (length b) session_length)

  pub saves_alike : save this_firmware ring fram (saves a (whole_from b)) ≡ save this_firmware ring fram (saves_in a b)
  unfolding from_in
  saves_alike = either (λ (f : From). save this_firmware ring fram (saves a f)) b (wrong_tags_alike ring fram a b) (eqb (length b) session_length)
