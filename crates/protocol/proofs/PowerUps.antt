-- What a power-up answers, and the invariant after it.
use Prim.Native.Nat.{ℕ, ◌+◌, ◌-◌, ◌≤◌}
use mathlib.Core.Path.{◌≡◌, refl, sym, ap, subst, ◌∙◌}
use mathlib.Core.Bool.{Bool, true, false, cond}
use mathlib.Core.Logic.{inl, inr}
use mathlib.Core.Option.{Option, none, some}
use mathlib.Core.List.{List, [], ◌∷◌, Memᴰ}
use native.Mathlib.Omega.{arith}
use lib.ListN.{length}
use lib.Dec.{eqb}
use borrow.Author.Tests.{eqb-true, eqb-false, ltb-false, not-false}
use Rattle.octets.specs.Limits.{restart_limit, nonce_length}
use Rattle.octets.specs.Octets.{put}
use Rattle.stops.proofs.Laws.{neither, passes}
use Rattle.ring.specs.Ring.{read_ring, half_named, target_page, target_slot, newest_record, is_blank, Newest}
use Rattle.ring.proofs.FoundLaws.{found}
use Rattle.checkpoint.specs.Checkpoint.{Form, Older, Longer, Checkpoint, sealed, sealed_length}
use Rattle.checkpoint.specs.Layout.{PacketInRange}
use Rattle.checkpoint.specs.Half.{Reads}
use Rattle.checkpoint.specs.Half.{read_as, stored_restarts}
use Rattle.checkpoint.specs.Fram.{fram_wrong, half_length}
use Rattle.checkpoint.proofs.SealedLaws.{length_own_tag}
use Rattle.protocol.specs.Types.{Firmware, PowerUp, Job, Phase}
use Rattle.protocol.specs.Calls.{PowersUp, Setup, powered_up}
use Rattle.protocol.specs.Operations.{key_wrong, nonce_wrong, staging_wrong, Begin, begin, job_of, outgrows, newest_half, newest_checkpoint, resumed, first_phase, half_lines, power_up_stop, power_up}
use Rattle.protocol.specs.Journal.{entered, resumed_entry, Journal, drafted, power_up_draft}
use Rattle.protocol.specs.History.{State, begun, step, Keeps, left_by, refused, is_stop}
use Rattle.protocol.proofs.Invariant.{Good, half_of, page_in, slot_in, Recorded, Holds}
use Rattle.protocol.proofs.Reading.{reads, target_page_found, target_slot_found, other_half, restarts_found, checkpoint_found, outgrows_found}
use Rattle.protocol.proofs.Starts.{Begins, started, start_holds, begun_stopped, begun_none}
use Rattle.protocol.proofs.Saves.{in_use_recorded}
use Rattle.protocol.proofs.Turns.{none_in_turn}

-- firmware that reads a head keeps its packet number in its own form
numbered_read : (firmware form : Form) (packet : ℕ) → Reads firmware form → PacketInRange form packet → PacketInRange firmware packet
numbered_read Older form packet r n = subst (λ (f : Form). PacketInRange f packet) r n
numbered_read Longer Older packet r n = omega arith
numbered_read Longer Longer packet r n = n

abbrev pub power_call : Setup → PowersUp → PowersUp
power_call u a = record { sizes = u.sizes; key = u.key; nonce = a.nonce; staging = a.staging; state = a.state }

abbrev pub Entry : Setup → State → Checkpoint → Type 0
Entry u s c = Recorded u s.ring s.fram s.nonces s.journal.entry s.journal.count s.journal.owed s.journal.power_ups c

-- the job of a power-up that resumes c
abbrev pub resuming_job : Setup → State → Checkpoint → Job
resuming_job u s new = job_of u.key new (first_phase (found u.sizes.pages u.sizes.slots s.journal.count s.journal.owed)) PowerUp (half_of (s.journal.count + 1))
    (page_in u (s.journal.count + 1)) (slot_in u (s.journal.count + 1))

module _ (u : Setup) (s : State) (inv : Holds u s) (a : PowersUp) (c : Checkpoint) (r : Entry u s c) where
  abbrev n : Newest
  n = read_ring s.ring u.sizes.pages u.sizes.slots

  reads_as : n ≡ found u.sizes.pages u.sizes.slots s.journal.count s.journal.owed
  reads_as = reads inv.fram_right r

  opened : newest_checkpoint s.firmware s.ring s.fram (power_call u a) ≡ c
  unfolding newest_checkpoint
  opened = rw reads_as (checkpoint_found inv.fram_right r s.firmware (inv.reads_entry c r.entry_is))

  pub power_up_is : power_up s.firmware s.ring s.fram (power_call u a)
      ≡ begin (power_up_stop s.firmware s.ring s.fram (power_call u a)) u.key (power_up_draft s.firmware.form u.key a.nonce c)
      (resuming_job u s (power_up_draft s.firmware.form u.key a.nonce c)) a.staging a.state c.secret
  unfolding power_up resumed power_up_draft
  power_up_is = λ i. F (opened i) (phase i) (half i) (page i) (slot i)
    where
      F : Checkpoint → Phase → ℕ → ℕ → ℕ → Begin
      F old phase half page slot = begin (power_up_stop s.firmware s.ring s.fram (power_call u a)) u.key (resumed s.firmware.form u.key a.nonce old)
          (job_of u.key (resumed s.firmware.form u.key a.nonce old) phase PowerUp half page slot) a.staging a.state old.secret

      phase : first_phase n ≡ first_phase (found u.sizes.pages u.sizes.slots s.journal.count s.journal.owed)
      phase = ap (λ (m : Newest). first_phase m) reads_as

      half : 1 - half_named (newest_record s.ring u.sizes.slots n) ≡ half_of (s.journal.count + 1)
      half = rw reads_as (other_half inv.fram_right r)

      page : target_page u.sizes.pages u.sizes.slots n ≡ page_in u (s.journal.count + 1)
      page = rw reads_as (target_page_found inv.fram_right r)

      slot : target_slot u.sizes.slots n ≡ slot_in u (s.journal.count + 1)
      slot = rw reads_as (target_slot_found inv.fram_right r)

  begins : (owed : Bool) → s.journal.owed ≡ owed → Begins u s (first_phase (found u.sizes.pages u.sizes.slots s.journal.count owed))
  unfolding first_phase
  begins true e = inr (e, refl)
  begins false e = inl (e, refl)

  -- the state after a power-up that begins
  pub resuming_holds : fram_wrong s.firmware.largest_fram s.fram ≡ false → length a.nonce ≡ nonce_length → half_length s.fram ≤ length a.staging → (Memᴰ a.nonce s.nonces → ⊥) → (c.restarts ≡ restart_limit → ⊥)
      → sealed_length s.firmware.form (length c.open_part) (length c.secret) ≤ half_length s.fram
      → Holds u (started u s (power_up_draft s.firmware.form u.key a.nonce c) PowerUp (s.journal.power_ups + 1) (resuming_job u s (power_up_draft s.firmware.form u.key a.nonce c)) a.staging)
  unfolding power_up_draft
  resuming_holds framed l long new few fits =
      start_holds u s inv (power_up_draft s.firmware.form u.key a.nonce c) PowerUp (first_phase (found u.sizes.pages u.sizes.slots s.journal.count s.journal.owed))
      (half_of (s.journal.count + 1)) (page_in u (s.journal.count + 1)) (slot_in u (s.journal.count + 1)) a.staging
      good refl (inv.reads_entry c r.entry_is).1 framed new long refl refl refl (s.journal.power_ups + 1) (ap (λ (k : ℕ). k + 1) r.restarts_are) (begins s.journal.owed refl)
    where
      good : Good (power_up_draft s.firmware.form u.key a.nonce c) (half_length s.fram)
      good = record {
        range = record {
          open_whole = r.good.range.open_whole;
          open_small = r.good.range.open_small;
          secret_whole = r.good.range.secret_whole;
          secret_small = r.good.range.secret_small;
          restarts_small = omega (arith, r.good.range.restarts_small, few);
          packet_small = numbered_read s.firmware.form c.form c.packet (inv.reads_entry c r.entry_is).0 r.good.range.packet_small;
          previous_long = length_own_tag u.key c;
        };
        nonce_long = l;
        fits = fits;
      }

  resumed_draft : resumed_entry s.firmware.form u.key a.nonce s.journal.entry s.journal u.sizes.slots
      ≡ drafted u.key u.sizes.slots PowerUp (power_up_draft s.firmware.form u.key a.nonce c) (s.journal.power_ups + 1) s.journal
  unfolding resumed_entry
  resumed_draft = ap (λ (o : Option Checkpoint). resumed_entry s.firmware.form u.key a.nonce o s.journal u.sizes.slots) r.entry_is

  pub step_is : power_up_stop s.firmware s.ring s.fram (power_call u a) ≡ none
      → step u s (powered_up (power_call u a))
      ≡ started u s (power_up_draft s.firmware.form u.key a.nonce c) PowerUp (s.journal.power_ups + 1) (resuming_job u s (power_up_draft s.firmware.form u.key a.nonce c)) a.staging
  unfolding step left_by entered refused power_up_draft
  step_is e =
      ap (λ (b : Begin). begun s b.answer b a.nonce
      (cond (is_stop b.answer) s.journal (resumed_entry s.firmware.form u.key a.nonce s.journal.entry s.journal u.sizes.slots))) power_up_is
      ∙ begun_none s (power_up_stop s.firmware s.ring s.fram (power_call u a)) _ _ _ _ _ _ _ _ e
      ∙ ap (λ (j : Journal). record {
        ring = s.ring;
        fram = s.fram;
        handed = some (record { job = resuming_job u s (power_up_draft s.firmware.form u.key a.nonce c); staging = put a.staging 0 (sealed u.key (power_up_draft s.firmware.form u.key a.nonce c)) });
        sessions = s.sessions;
        nonces = a.nonce ∷ s.nonces;
        journal = j;
        firmware = s.firmware;
      }) resumed_draft

-- ---- the conditions

record PowerUpPasses (u : Setup) (firmware : Firmware) (ring fram : List ℕ) (a : PowersUp) : Type 0 where
  fram_fits : fram_wrong firmware.largest_fram fram ≡ false
  nonce_long : length a.nonce ≡ nonce_length
  staging_long : half_length fram ≤ length a.staging
  in_use : is_blank (read_ring ring u.sizes.pages u.sizes.slots) ≡ false
  few : let half = newest_half ring fram u.sizes.slots (read_ring ring u.sizes.pages u.sizes.slots) in eqb (stored_restarts (read_as firmware.form half) half) restart_limit ≡ false
  fits : outgrows firmware.form (newest_half ring fram u.sizes.slots (read_ring ring u.sizes.pages u.sizes.slots)) ≡ false

power_passes : (u : Setup) (firmware : Firmware) (ring fram : List ℕ) (a : PowersUp) → power_up_stop firmware ring fram (power_call u a) ≡ none → PowerUpPasses u firmware ring fram a
unfolding power_up_stop half_lines staging_wrong
power_passes u firmware ring fram a e =
    let p = passes _ (none_in_turn (_ ∷ _ ∷ _ ∷ _ ∷ _ ∷ _ ∷ []) _ (_ ∷ []) _ firmware.order e) in
    let lengths = neither (key_wrong firmware.key_lengths (length u.key)) (nonce_wrong (length a.nonce)) p.1.1.0 in
    let buffers = neither _ _ p.1.1.1.0 in
    let found = p.1.1.1.1 in
    record {
      fram_fits = p.1.0;
      nonce_long = eqb-true (length a.nonce) nonce_length (not-false _ lengths.1);
      staging_long = ltb-false (length a.staging) (half_length fram) buffers.0;
      in_use = found.0;
      few = found.1.1.1.1.1.0;
      fits = found.1.1.1.1.1.1.0;
    }

module _ (u : Setup) (s : State) (inv : Holds u s) (c : Checkpoint) (r : Entry u s c) (p : PowersUp) (e : PowerUpPasses u s.firmware s.ring s.fram p) where
  few_restarts : c.restarts ≡ restart_limit → ⊥
  few_restarts = eqb-false c.restarts restart_limit
      (ap (λ (k : ℕ). eqb k restart_limit) (sym (restarts_found inv.fram_right r s.firmware (inv.reads_entry c r.entry_is)))
      ∙ ap (λ (m : Newest). let half = newest_half s.ring s.fram u.sizes.slots m in eqb (stored_restarts (read_as s.firmware.form half) half) restart_limit) (sym (reads inv.fram_right r)) ∙ e.few)

  resealed_fits : sealed_length s.firmware.form (length c.open_part) (length c.secret) ≤ half_length s.fram
  resealed_fits = ltb-false (half_length s.fram) (sealed_length s.firmware.form (length c.open_part) (length c.secret))
      (sym (outgrows_found inv.fram_right r s.firmware (inv.reads_entry c r.entry_is))
      ∙ ap (λ (m : Newest). outgrows s.firmware.form (newest_half s.ring s.fram u.sizes.slots m)) (sym (reads inv.fram_right r)) ∙ e.fits)

module _ (u : Setup) (s : State) (inv : Holds u s) (a : PowersUp) (new : Memᴰ a.nonce s.nonces → ⊥) where
  power_go : (o : Option ℕ) → power_up_stop s.firmware s.ring s.fram (power_call u a) ≡ o → Holds u (step u s (powered_up (power_call u a)))
  unfolding step left_by entered refused power_up
  power_go (some x) e = rw (begun_stopped s (power_up_stop s.firmware s.ring s.fram (power_call u a)) _ _ _ _ _ _ _ _ x e) inv
  power_go none e =
      let p = power_passes u s.firmware s.ring s.fram a e in
      let x = in_use_recorded u s inv p.in_use in
      subst (λ (t : State). Holds u t) (sym (step_is u s inv a x.0 x.1 e))
      (resuming_holds u s inv a x.0 x.1 p.fram_fits p.nonce_long p.staging_long new (few_restarts u s inv x.0 x.1 a p) (resealed_fits u s inv x.0 x.1 a p))

pub hold_powered_up : (u : Setup) (s : State) (a : PowersUp) → Holds u s → Keeps u s (powered_up a) → Holds u (step u s (powered_up a))
unfolding Keeps
hold_powered_up u s a inv (p, q, f) =
    let path : power_call u a ≡ a = λ i. record { sizes = sym p i; key = sym q i; nonce = a.nonce; staging = a.staging; state = a.state } in
    subst (λ (b : PowersUp). Holds u (step u s (powered_up b))) path (power_go u s inv a f (power_up_stop s.firmware s.ring s.fram (power_call u a)) refl)
