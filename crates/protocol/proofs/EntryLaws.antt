-- The one save answers and leaves what the two entries before it did. Assumes nothing.
use Prim.Native.Nat.{ℕ, ◌-◌}
use mathlib.Core.Path.{◌≡◌, refl, ap}
use mathlib.Core.Bool.{◌||◌}
use mathlib.Core.Option.{Option}
use mathlib.Core.List.{List, [], ◌∷◌}
use mathlib.Core.Logic.{◌⊎◌, inl, inr}
use lib.ListN.{length}
use Rattle.stops.proofs.Laws.{same_line, or_false}
use Rattle.ring.specs.Ring.{half_named, newest_record, target_page, target_slot}
use Rattle.protocol.specs.Types.{Firmware, Words, Save}
use Rattle.protocol.specs.Calls.{From, from_tag, from_session, SaveArguments, saves, Setup}
use Rattle.protocol.specs.Operations.{key_wrong, nonce_wrong, newest_in, from_wrong, number_from, restarts_from, previous_tag, save_checkpoint, save_target, ring_lines, save_stop, Begin, begin, job_of, save}
use Rattle.protocol.specs.Journal.{saved_from, entered}
use Rattle.protocol.specs.History.{State, is_stop, refused, begun, left_by, HandedOut, Keeps}
use Rattle.protocol.specs.Entries.{FirstSave, NextSave, first_checkpoint, next_checkpoint, first_save_stop, first_save, next_save_stop, next_save, as_first, as_next, Same, InLists, OneSave}

module _ (firmware : Firmware) (ring fram : List ℕ) where
  first_same : (a : FirstSave) → save firmware ring fram (as_first a) ≡ first_save firmware ring fram a
  unfolding save save_stop from_wrong ring_lines save_checkpoint number_from restarts_from previous_tag save_target first_save first_save_stop first_checkpoint
  first_same a = refl

  -- a session has no length that could be wrong
  next_stop_same : (a : NextSave) → save_stop firmware ring fram (as_next a) ≡ next_save_stop firmware ring fram a
  unfolding save_stop from_wrong ring_lines next_save_stop
  next_stop_same a = same_line (_ ∷ _ ∷ []) _ 3 _ _ (or_false (key_wrong firmware.key_lengths (length a.arguments.key) || nonce_wrong (length a.arguments.nonce)))

  next_same : (a : NextSave) → save firmware ring fram (as_next a) ≡ next_save firmware ring fram a
  unfolding save save_checkpoint number_from restarts_from previous_tag save_target next_save next_checkpoint
  next_same a =
      let n = newest_in ring a.arguments.sizes in
      let c = next_checkpoint firmware.form a in
      ap (λ (o : Option ℕ). begin o a.arguments.key c
      (job_of a.arguments.key c (Words 0) Save (1 - half_named (newest_record ring a.arguments.sizes.slots n))
      (target_page a.arguments.sizes.pages a.arguments.sizes.slots n) (target_slot a.arguments.sizes.slots n))
      a.arguments.staging [] []) (next_stop_same a)

either : (a : SaveArguments) (from : From) → ((b : FirstSave) × (saves a from ≡ as_first b)) ⊎ ((b : NextSave) × (saves a from ≡ as_next b))
either a (from_tag tag) = inl (record { arguments = a; starting_tag = tag }, refl)
either a (from_session z) = inr (record { arguments = a; session = z }, refl)

same : (firmware : Firmware) (ring fram : List ℕ) → Same firmware ring fram
same firmware ring fram = record { first = first_same firmware ring fram; next = next_same firmware ring fram; either = λ a. either a.arguments a.from }

in_lists : (u : Setup) (s : State) → InLists u s
unfolding refused left_by HandedOut Keeps entered saved_from
in_lists u s = record {
  first_refused = λ a. ap (λ (b : Begin). is_stop b.answer) (first_same s.firmware s.ring s.fram a);
  first_leaves = λ a j. ap (λ (b : Begin). begun s b.answer b a.arguments.nonce j) (first_same s.firmware s.ring s.fram a);
  first_keeps = λ a. (λ k. (k.0, k.1, k.2), λ k. (k.0, k.1, k.2, tt));
  first_entered = λ a form j stopped. refl;
  next_refused = λ a. ap (λ (b : Begin). is_stop b.answer) (next_same s.firmware s.ring s.fram a);
  next_leaves = λ a j. ap (λ (b : Begin). begun s b.answer b a.arguments.nonce j) (next_same s.firmware s.ring s.fram a);
  next_keeps = λ a. (λ k. k, λ k. k);
  next_entered = λ a form j stopped. refl;
}

pub one_save : OneSave
unfolding OneSave
one_save = (same, in_lists)
