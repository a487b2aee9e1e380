-- The journal never sees the memories.
use Prim.Native.Nat.{ℕ}
use mathlib.Core.Path.{◌≡◌, refl}
use mathlib.Core.Option.{Option, none, some}
use mathlib.Core.List.{List}
use Rattle.protocol.specs.Types.{Start, Begun, Stopped, Progress, GoingOn, Saved, Restored, Refused}
use Rattle.protocol.specs.Calls.{Setup, Event, saved, powered_up, advanced_by, PowerLoss, updated_to, lost_in_store}
use Rattle.protocol.specs.Operations.{Begin, Moved}
use Rattle.protocol.specs.Journal.{entered, Journal}
use Rattle.protocol.specs.History.{State, Handed, begun, moved, broken, step, is_stop, is_stopped, refused, left_by}

begun_journal : (s : State) (x : Start) (b : Begin) (nonce : List ℕ) (j : Journal) → (begun s x b nonce j).journal ≡ j
unfolding begun is_stop
begun_journal s Begun b nonce j = refl
begun_journal s (Stopped y) b nonce j = refl

moved_journal : (s : State) (x : Progress) (m : Moved) (staging : List ℕ) (j : Journal) → (moved s x m staging j).journal ≡ j
unfolding moved is_stopped
moved_journal s GoingOn m staging j = refl
moved_journal s Saved m staging j = refl
moved_journal s Restored m staging j = refl
moved_journal s (Refused y) m staging j = refl

broken_journal : (u : Setup) (s : State) (h : Option Handed) (left : List ℕ) (j : Journal) → (broken u s h left j).journal ≡ j
unfolding broken
broken_journal u s none left j = refl
broken_journal u s (some h) left j = refl

pub blind : (u : Setup) (s : State) (e : Event) → (step u s e).journal ≡ entered u s.firmware.form s.journal e (refused s e)
unfolding step left_by
blind u s (saved a) = begun_journal s _ _ _ _
blind u s (powered_up a) = begun_journal s _ _ _ _
blind u s (advanced_by a) = moved_journal s _ _ _ _
blind u s PowerLoss = refl
blind u s (updated_to firmware) = refl
blind u s (lost_in_store left) = broken_journal u s s.handed left _
