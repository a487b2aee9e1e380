-- The FRAM keeps its length in every list that is allowed, and what so holds after it.
use mathlib.Core.Path.{◌≡◌, refl, sym, ap, subst, ◌∙◌}
use mathlib.Core.Bool.{true, false}
use mathlib.Core.Logic.{◌⊎◌, inl, inr}
use mathlib.Core.Option.{Option}
use mathlib.Core.List.{List, [], ◌∷◌}
use lib.ListN.{length}
use lib.Dec.{T}
use Prim.Native.Nat.{ℕ}
use Rattle.octets.specs.Octets.{blank}
use Rattle.checkpoint.specs.Fram.{fram_wrong}
use Rattle.checkpoint.proofs.FramLaws.{an_image, fram_kept}
use Rattle.protocol.specs.Types.{Firmware, Phase, EraseFirst, Words, Record, EraseAfter, Done, Start, Begun, Stopped}
use Rattle.protocol.specs.Calls.{Advances, Setup, Event, saved, powered_up, advanced_by, PowerLoss, updated_to, lost_in_store}
use Rattle.protocol.specs.Operations.{Begin}
use Rattle.protocol.specs.Journal.{Journal, entered}
use Rattle.protocol.specs.History.{State, Handed, refused, begun, broken_fram, broken, left_by, fresh, step, run, Left, Keeps, Allowed}
use Rattle.protocol.specs.Recovery.{Fits}
use Rattle.protocol.proofs.Invariant.{Doing, Holds}
use Rattle.protocol.proofs.Refused.{step_refused}
use Rattle.protocol.proofs.Advances.{call}
use Rattle.protocol.proofs.PowerLosses.{word_loss_kept}
use Rattle.protocol.proofs.Lists.{hold_step, hold_run, hold_fresh}
use Rattle.protocol.proofs.Runs.{fram_long}

begun_kept : (s : State) (x : Start) (b : Begin) (nonce : List ℕ) (j : Journal) → length (begun s x b nonce j).fram ≡ length s.fram
unfolding begun
begun_kept s Begun b nonce j = refl
begun_kept s (Stopped x) b nonce j = refl

lost_kept : (u : Setup) (s : State) (h : Handed) (left : List ℕ) (inv : Holds u s) (p : Phase) → Doing u s h p → Left p h.job u.sizes.slots left
    → length (broken_fram p s.fram h.job left) ≡ length s.fram
unfolding broken_fram Left
lost_kept u s h left inv (EraseFirst p) d l = refl
lost_kept u s h left inv (Words w) d l = word_loss_kept u s inv h left w d l
lost_kept u s h left inv Record d l = refl
lost_kept u s h left inv (EraseAfter p) d l = refl
lost_kept u s h left inv Done d l = refl

keeps_kept : (u : Setup) (s : State) (e : Event) → Holds u s → Keeps u s e → length (step u s e).fram ≡ length s.fram
unfolding Keeps step left_by broken
keeps_kept u s (saved a) inv k = begun_kept s _ _ _ _
keeps_kept u s (powered_up a) inv k = begun_kept s _ _ _ _
keeps_kept u s (advanced_by a) inv (p, e) =
    let h : Handed = record { job = a.job; staging = a.staging } in
    let q : call u h ≡ a = λ i. record { sizes = sym p i; job = a.job; staging = a.staging } in
    subst (λ (b : Advances). length (step u s (advanced_by b)).fram ≡ length s.fram) q (fram_long u s h inv e)
keeps_kept u s PowerLoss inv k = refl
keeps_kept u s (updated_to next) inv k = refl
keeps_kept u s (lost_in_store left) inv (h, e, l) =
    ap (λ (o : Option Handed). length (broken u s o left (entered u s.firmware.form s.journal (lost_in_store left) (refused s (lost_in_store left)))).fram) e ∙ lost_kept u s h left inv h.job.phase (inv.doing h e) l

pub run_kept : (u : Setup) (events : List Event) (s : State) → Holds u s → Allowed u s events → length (run u s events).fram ≡ length s.fram
unfolding run Allowed
run_kept u [] s inv k = refl
run_kept u (e ∷ more) s inv (x, k) = run_kept u more (step u s e) (hold_step u s e inv x) k ∙ step_kept x
  where
    step_kept : T (refused s e) ⊎ Keeps u s e → length (step u s e).fram ≡ length s.fram
    step_kept (inl t) = ap (λ (y : State). length y.fram) (step_refused u s e t)
    step_kept (inr y) = keeps_kept u s e inv y

-- after a list the invariant holds, and a FRAM that fits the firmware at first fits it still
pub after : (u : Setup) (firmware : Firmware) (ring fram : List ℕ) → blank ring ≡ true → (events : List Event) → Allowed u (fresh firmware ring fram) events
    → let s = run u (fresh firmware ring fram) events in Fits u s.firmware ring fram → Holds u s × (fram_wrong s.firmware.largest_fram s.fram ≡ false)
unfolding fresh
after u firmware ring fram b events k f =
    let s = run u (fresh firmware ring fram) events in
    let first = hold_fresh u firmware ring fram f.ring_right (an_image s.firmware.largest_fram fram f.fram_right) b in
    (hold_run u events (fresh firmware ring fram) first k, fram_kept s.firmware.largest_fram fram s.fram (run_kept u events (fresh firmware ring fram) first k) f.fram_right)
