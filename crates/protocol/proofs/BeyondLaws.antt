-- Firmware stops with 11 at a checkpoint that is beyond it, where no condition before 11 holds.
use Prim.Native.Nat.{ℕ}
use mathlib.Core.Path.{◌≡◌, sym, ap, subst, ◌∙◌}
use mathlib.Core.Bool.{true, false, not}
use mathlib.Core.Logic.{inl, inr}
use mathlib.Core.Option.{Option, none, some}
use mathlib.Core.List.{List, [], ◌∷◌, ◌++◌}
use Rattle.ring.specs.Ring.{Newest}
use Rattle.checkpoint.specs.Checkpoint.{Form, Checkpoint, sealed}
use Rattle.checkpoint.specs.Half.{read_as, open_length, secret_length, good_head}
use Rattle.checkpoint.proofs.FramLaws.{an_image}
use Rattle.checkpoint.proofs.HalfLaws.{read_as_is, open_length_is, secret_length_is, head_refused, unread_refused}
use Rattle.protocol.specs.Types.{Firmware}
use Rattle.protocol.specs.Calls.{Sizes, from_tag, SaveArguments, Saves, saves, PowersUp, Looks, Setup, saved, powered_up}
use Rattle.protocol.specs.Operations.{newest_in, newest_half, save_checkpoint, save_stop, half_lines, power_up_stop, power_up, look_stop, look_by, look, stretch_by, open_stretch}
use Rattle.protocol.specs.History.{State, fresh, run, Allowed}
use Rattle.protocol.specs.Recovery.{Started, Exact}
use Rattle.protocol.specs.Histories.{to_its_end}
use Rattle.protocol.specs.Beyond.{Beyond, Held, power_up_at_11, look_at_11, PowerUpRefused, LookRefused, LengthsWhole, BeyondRefused, BeyondAfter, FirstSaveRecorded}
use Rattle.protocol.proofs.Turns.{ends_there, ends_in_turn, stops, stops_in_turn}
use Rattle.protocol.proofs.Exact.{exact}
use Rattle.protocol.proofs.Invariant.{Holds}
use Rattle.protocol.proofs.Reading.{reads, behind, newest_half_is}
use Rattle.protocol.proofs.Starts.{same_arguments}
use Rattle.protocol.proofs.Saves.{saving}
use Rattle.protocol.proofs.PowerUps.{Entry}
use Rattle.protocol.proofs.Lists.{hold_run, hold_fresh}
use Rattle.protocol.proofs.Runs.{recorded_entry}
use Rattle.protocol.proofs.Histories.{first_save_whole}

-- beside a stop the numbers don't count
pub looked_by : (o p : Option ℕ) (n : ℕ) → o ≡ p → (x : ℕ) × (p ≡ some x) → look_by o n ≡ look_by p 0
unfolding look_by
looked_by o p n e (x, f) = rw (e, f)

pub stretched_by : (o p : Option ℕ) (m n : ℕ) → o ≡ p → (x : ℕ) × (p ≡ some x) → stretch_by o m n ≡ stretch_by p 0 0
unfolding stretch_by
stretched_by o p m n e (x, f) = rw (e, f)

module _ (firmware : Firmware) (ring fram : List ℕ) (z : Sizes) (c : Checkpoint) (h : Held ring fram z c) where
  abbrev half : List ℕ
  half = newest_half ring fram z.slots (newest_in ring z)

  refused : Beyond firmware c → good_head firmware.longest_part (read_as firmware.form (sealed h.key c ++ h.behind)) (sealed h.key c ++ h.behind) ≡ false
  refused (inl above) = head_refused h.key c h.behind h.range firmware.form firmware.longest_part above
  refused (inr unread) = unread_refused h.key c h.behind h.range firmware.form firmware.longest_part unread

  bad_head : Beyond firmware c → (y : Sizes) → y ≡ z
      → let l = newest_half ring fram y.slots (newest_in ring y) in not (good_head firmware.longest_part (read_as firmware.form l) l) ≡ true
  bad_head b y e =
      ap (λ (x : Sizes). let l = newest_half ring fram x.slots (newest_in ring x) in not (good_head firmware.longest_part (read_as firmware.form l) l)) e
      ∙ ap (λ (l : List ℕ). not (good_head firmware.longest_part (read_as firmware.form l) l)) h.there ∙ ap not (refused b)

  powers_up : Beyond firmware c → (a : PowersUp) → a.sizes ≡ z → PowerUpRefused firmware ring fram a
  unfolding half_lines power_up_stop power_up_at_11 Exact fresh
  powers_up b a e =
      let stop : power_up_stop firmware ring fram a ≡ power_up_at_11 firmware ring fram a =
      ends_in_turn (_ ∷ _ ∷ _ ∷ _ ∷ _ ∷ _ ∷ []) _ _ _ firmware.order 11 _ (bad_head b a.sizes e) in
      record {
        stop = stops_in_turn (_ ∷ _ ∷ _ ∷ _ ∷ _ ∷ _ ∷ []) _ firmware.order 11;
        started = subst (λ (o : Option ℕ). Started o (power_up firmware ring fram a) a.staging a.state) stop (exact (fresh firmware ring fram) (powered_up a));
      }

  looks : Beyond firmware c → (a : Looks) → a.sizes ≡ z → LookRefused firmware ring fram a
  unfolding open_stretch look look_stop look_at_11
  looks b a e =
      let stop : look_stop firmware ring fram a ≡ look_at_11 firmware ring fram a = ends_there (_ ∷ _ ∷ _ ∷ _ ∷ _ ∷ []) _ 11 _ (bad_head b a.sizes e) in
      let some_stop : (x : ℕ) × (look_at_11 firmware ring fram a ≡ some x) = stops (_ ∷ _ ∷ _ ∷ _ ∷ _ ∷ []) 11 in
      record {
        stop = some_stop;
        looked = looked_by (look_stop firmware ring fram a) (look_at_11 firmware ring fram a) _ stop some_stop;
        stretch = stretched_by (look_stop firmware ring fram a) (look_at_11 firmware ring fram a) _ _ stop some_stop;
      }

  lengths : LengthsWhole firmware half c
  lengths r =
      let form = read_as_is h.key c h.behind h.range firmware.form r in
      let at : (f : Form → List ℕ → ℕ) → f (read_as firmware.form half) half ≡ f c.form (sealed h.key c ++ h.behind) =
      λ f. (λ i. f (read_as firmware.form (h.there i)) (h.there i)) ∙ ap (λ (g : Form). f g (sealed h.key c ++ h.behind)) form in
      (at open_length ∙ open_length_is h.key c h.behind h.range, at secret_length ∙ secret_length_is h.key c h.behind h.range)

pub beyond_refused : BeyondRefused
unfolding BeyondRefused
beyond_refused firmware ring fram z c h = (λ b. (powers_up firmware ring fram z c h b, looks firmware ring fram z c h b), lengths firmware ring fram z c h)

-- ---- after every list

-- the entry stands at the front of the half which the newest record names
held_entry : (u : Setup) (s : State) → Holds u s → (c : Checkpoint) → Entry u s c → Held s.ring s.fram u.sizes c
held_entry u s inv c r = record {
  range = r.good.range;
  key = u.key;
  behind = behind inv.fram_right r;
  there = ap (λ (n : Newest). newest_half s.ring s.fram u.sizes.slots n) (reads inv.fram_right r) ∙ newest_half_is inv.fram_right r;
}

pub beyond_after : BeyondAfter
unfolding BeyondAfter
beyond_after u firmware fitting ring fram b f events k c e older beyond =
    let s = run u (fresh firmware ring fram) events in
    let inv = hold_run u events (fresh firmware ring fram) (hold_fresh u firmware ring fram f.ring_right (an_image fitting.largest_fram fram f.fram_right) b) k in
    let h = held_entry u s inv c (recorded_entry u s c inv e) in
    (powers_up older s.ring s.fram u.sizes c h beyond, looks older s.ring s.fram u.sizes c h beyond)

-- ---- a save with a starting tag that does not stop, run to its end

made : (u : Setup) (firmware : Firmware) (ring fram : List ℕ) (a : SaveArguments) (tag : List ℕ) → save_stop firmware ring fram (saving u a (from_tag tag)) ≡ none
    → let events = to_its_end u (fresh firmware ring fram) (saved (saving u a (from_tag tag))) in
    Allowed u (fresh firmware ring fram) events × ((run u (fresh firmware ring fram) events).journal.entry ≡ some (save_checkpoint firmware.form (saving u a (from_tag tag))))
made u firmware ring fram a tag e = let w = first_save_whole u firmware ring fram a tag e in (w.passed.allowed, w.ended.entry)

pub first_save_recorded : FirstSaveRecorded
unfolding FirstSaveRecorded
first_save_recorded u firmware ring fram a tag p q e =
    let path : saving u a (from_tag tag) ≡ saves a (from_tag tag) = λ i. saves (same_arguments u a p q i) (from_tag tag) in
    subst (λ (y : Saves). let events = to_its_end u (fresh firmware ring fram) (saved y) in
    Allowed u (fresh firmware ring fram) events × ((run u (fresh firmware ring fram) events).journal.entry ≡ some (save_checkpoint firmware.form y))) path (made u firmware ring fram a tag (subst (λ (y : Saves). save_stop firmware ring fram y ≡ none) (sym path) e))
