-- Memories that don't fit the unit's sizes: every call is refused, so that nothing is ever handed out.
use Prim.Native.Nat.{ℕ}
use mathlib.Core.Path.{◌≡◌, refl, sym, ap, ◌∙◌}
use mathlib.Core.Bool.{Bool, true, false}
use mathlib.Core.Logic.{◌⊎◌, inl, inr}
use mathlib.Core.Option.{Option, none, some}
use mathlib.Core.List.{List, ◌∷◌}
use native.Mathlib.Omega.{arith}
use lib.Dec.{T}
use Rattle.stops.specs.Stops.{first_of}
use Rattle.ring.specs.Ring.{ring_wrong}
use Rattle.checkpoint.specs.Checkpoint.{Checkpoint}
use Rattle.checkpoint.specs.Fram.{fram_wrong}
use Rattle.protocol.specs.Types.{Job}
use Rattle.protocol.specs.Calls.{Sizes, Setup, Event, saved, powered_up, advanced_by, PowerLoss, updated_to, lost_in_store}
use Rattle.protocol.specs.Operations.{begin, save_stop, save, power_up_stop, power_up}
use Rattle.protocol.specs.History.{State, Handed, left_by, step, is_stop, refused, Keeps}
use Rattle.protocol.specs.Recovery.{Follows}
use Rattle.protocol.proofs.Facts.{no_fact}
use Rattle.protocol.proofs.Refused.{step_refused}

-- the ring's size is wrong, or the FRAM's at any limit
abbrev Wrong : Setup → List ℕ → List ℕ → Type 0
Wrong u ring fram = (ring_wrong u.sizes.pages u.sizes.slots ring ≡ true) ⊎ ((limit : ℕ) → fram_wrong limit fram ≡ true)

pub record Unfit (u : Setup) (s : State) : Type 0 where
  pub wrong : Wrong u s.ring s.fram
  pub none_handed : s.handed ≡ none

two_stop : (a b : Bool) (more : List (ℕ × Bool)) → (a ≡ true) ⊎ (b ≡ true) → (x : ℕ) × (first_of ((1, a) ∷ (2, b) ∷ more) ≡ some x)
unfolding first_of
two_stop true b more w = (1, refl)
two_stop false b more (inl e) = no_fact (sym e)
two_stop false b more (inr e) = (2, rw e)

begin_stops : (o : Option ℕ) (key : List ℕ) (c : Checkpoint) (job : Job) (staging state secret : List ℕ) → (x : ℕ) × (o ≡ some x) → T (is_stop (begin o key c job staging state secret).answer)
unfolding begin is_stop
begin_stops o key c job staging state secret (x, e) = rw e tt

not_handed : {A : Type 0} (o : Option Handed) (h : Handed) → o ≡ none → o ≡ some h → A
not_handed o h e f = absurd (let z : ◌≡◌ {A = ℕ} 0 1 = cc in omega arith)

module _ (u : Setup) (s : State) (x : Unfit u s) where
  -- the sizes of a call that keeps the rules, and the firmware's limit
  at_limit : (z : Sizes) → z ≡ u.sizes → (ring_wrong z.pages z.slots s.ring ≡ true) ⊎ (fram_wrong s.firmware.largest_fram s.fram ≡ true)
  at_limit z p = go x.wrong
    where
      go : Wrong u s.ring s.fram → (ring_wrong z.pages z.slots s.ring ≡ true) ⊎ (fram_wrong s.firmware.largest_fram s.fram ≡ true)
      go (inl e) = inl (ap (λ (y : Sizes). ring_wrong y.pages y.slots s.ring) p ∙ e)
      go (inr f) = inr (f s.firmware.largest_fram)

  stays : (e : Event) → T (refused s e) → Unfit u (step u s e)
  stays e t = rw (step_refused u s e t) x

  unfit_keeps : (e : Event) → Keeps u s e → Unfit u (step u s e)
  unfolding Keeps refused save power_up save_stop power_up_stop step left_by
  unfit_keeps (saved a) (p, q, f, m) = stays (saved a) (begin_stops _ _ _ _ _ _ _ (two_stop _ _ _ (at_limit a.arguments.sizes p)))
  unfit_keeps (powered_up a) (p, q, f) = stays (powered_up a) (begin_stops _ _ _ _ _ _ _ (two_stop _ _ _ (at_limit a.sizes p)))
  unfit_keeps (advanced_by a) (p, e) = not_handed s.handed _ x.none_handed e
  unfit_keeps PowerLoss k = record { wrong = x.wrong; none_handed = refl }
  unfit_keeps (updated_to firmware) k = record { wrong = x.wrong; none_handed = refl }
  unfit_keeps (lost_in_store left) (h, e, l) = not_handed s.handed h x.none_handed e

  pub unfit_step : (e : Event) → T (refused s e) ⊎ Keeps u s e → Unfit u (step u s e)
  unfit_step e (inl t) = stays e t
  unfit_step e (inr k) = unfit_keeps e k

  pub unfit_told : (e : Event) → Follows u s e
  unfolding Follows Keeps
  unfit_told (saved a) = tt
  unfit_told (powered_up a) = tt
  unfit_told (advanced_by a) = λ k. not_handed s.handed _ x.none_handed k.1
  unfit_told PowerLoss = tt
  unfit_told (updated_to firmware) = tt
  unfit_told (lost_in_store left) = tt
