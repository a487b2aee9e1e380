-- Every list of calls and power losses keeps the invariant, and each of its calls answers and leaves what the theorem says.
use Prim.Native.Nat.{ℕ}
use mathlib.Core.Path.{◌≡◌, refl}
use mathlib.Core.Bool.{true, false}
use mathlib.Core.Logic.{◌⊎◌, inl, inr}
use mathlib.Core.List.Memᴰ
use mathlib.Core.List.{List, [], ◌∷◌}
use native.Mathlib.Omega.{arith}
use lib.Dec.{T}
use Rattle.octets.specs.Octets.{blank}
use Rattle.ring.specs.Ring.{ring_wrong}
use Rattle.checkpoint.proofs.FramLaws.{Image}
use Rattle.protocol.specs.Types.{Firmware}
use Rattle.protocol.specs.Calls.{Setup, Event, saved, powered_up, advanced_by, PowerLoss, updated_to, lost_in_store}
use Rattle.protocol.specs.Journal.{empty}
use Rattle.protocol.specs.History.{State, fresh, step, run, refused, Keeps, Allowed}
use Rattle.protocol.specs.Recovery.{Follows, Exactly, Uninterrupted}
use Rattle.protocol.proofs.Invariant.{Holds}
use Rattle.protocol.proofs.Refused.{step_refused}
use Rattle.protocol.proofs.Exact.{exact}
use Rattle.protocol.proofs.Unfit.{Unfit, unfit_step, unfit_told}
use Rattle.protocol.proofs.Advancing.{hold_advanced}
use Rattle.protocol.proofs.Told.{told}
use Rattle.protocol.proofs.Saves.{hold_saved}
use Rattle.protocol.proofs.PowerUps.{hold_powered_up}
use Rattle.protocol.proofs.PowerLosses.{hold_power_loss, hold_updated, hold_lost_in_store}

pub hold_step : (u : Setup) (s : State) (e : Event) → Holds u s → T (refused s e) ⊎ Keeps u s e → Holds u (step u s e)
unfolding Keeps
hold_step u s e inv (inl t) = rw (step_refused u s e t) inv
hold_step u s (saved a) inv (inr k) = hold_saved u s a inv k
hold_step u s (powered_up a) inv (inr k) = hold_powered_up u s a inv k
hold_step u s (advanced_by a) inv (inr k) = hold_advanced u s inv a k
hold_step u s PowerLoss inv (inr k) = hold_power_loss u s inv
hold_step u s (updated_to firmware) inv (inr k) = hold_updated u s inv firmware k
hold_step u s (lost_in_store left) inv (inr k) = hold_lost_in_store u s left inv k

pub hold_run : (u : Setup) (events : List Event) (s : State) → Holds u s → Allowed u s events → Holds u (run u s events)
unfolding run Allowed
hold_run u [] s inv k = inv
hold_run u (e ∷ more) s inv k = hold_run u more (step u s e) (hold_step u s e inv k.0) k.1

tells : (u : Setup) (s : State) (e : Event) → Holds u s → Follows u s e
unfolding Follows
tells u s (saved a) inv = tt
tells u s (powered_up a) inv = tt
tells u s (advanced_by a) inv = told u s inv a
tells u s PowerLoss inv = tt
tells u s (updated_to firmware) inv = tt
tells u s (lost_in_store left) inv = tt

pub exactly : (u : Setup) (events : List Event) (s : State) → Holds u s → Allowed u s events → Exactly u s events
unfolding Exactly Allowed
exactly u [] s inv k = tt
exactly u (e ∷ more) s inv k = (exact s e, tells u s e inv, exactly u more (step u s e) (hold_step u s e inv k.0) k.1)

-- refused calls and advances of the job handed out last are allowed
uninterrupted_allowed : (u : Setup) (events : List Event) (s : State) → Uninterrupted u s events → Allowed u s events
unfolding Uninterrupted Allowed
uninterrupted_allowed u [] s k = tt
uninterrupted_allowed u (e ∷ more) s (inl r, k) = (inl r, uninterrupted_allowed u more (step u s e) k)
uninterrupted_allowed u (e ∷ more) s (inr (t, p), k) = (inr p, uninterrupted_allowed u more (step u s e) k)

pub exactly_uninterrupted : (u : Setup) (events : List Event) (s : State) → Holds u s → Uninterrupted u s events → Exactly u s events
exactly_uninterrupted u events s inv k = exactly u events s inv (uninterrupted_allowed u events s k)

-- with memories that don't fit
pub exactly_unfit : (u : Setup) (events : List Event) (s : State) → Unfit u s → Allowed u s events → Exactly u s events
unfolding Exactly Allowed
exactly_unfit u [] s x k = tt
exactly_unfit u (e ∷ more) s x k = (exact s e, unfit_told u s x e, exactly_unfit u more (step u s e) (unfit_step u s x e k.0) k.1)

pub hold_fresh : (u : Setup) (firmware : Firmware) (ring fram : List ℕ) → ring_wrong u.sizes.pages u.sizes.slots ring ≡ false → Image fram → blank ring ≡ true
    → Holds u (fresh firmware ring fram)
unfolding fresh empty
hold_fresh u firmware ring fram r f b = record {
  ring_right = r;
  fram_right = f;
  durable = inl (record { no_entry = refl; no_record = refl; none_owed = refl; no_power_up = refl; ring_blank = b });
  sessions_known = λ z m. absurd (Memᴰ.not-nil m);
  sessions_match = λ z m. absurd (Memᴰ.not-nil m);
  reads_entry = λ c e. absurd (let z : ◌≡◌ {A = ℕ} 0 1 = cc in omega arith);
  doing = λ h e. absurd (let z : ◌≡◌ {A = ℕ} 0 1 = cc in omega arith);
}
