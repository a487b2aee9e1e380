-- The invariant after a save.
use Prim.Native.Nat.{ℕ, ◌+◌, ◌≤◌}
use mathlib.Core.Path.{◌≡◌, refl, sym, ap, subst, ◌∙◌}
use mathlib.Core.Bool.{Bool, true, false, cond, ◌||◌}
use mathlib.Core.Logic.{inl, inr}
use mathlib.Core.Option.{Option, none, some}
use mathlib.Core.List.{List, ◌∷◌, Memᴰ}
use native.Mathlib.Omega.{arith}
use native.Mathlib.Nat.{zero-div, zero-mod}
use lib.ListN.{length, take}
use lib.Dec.{lit≤, ltb}
use borrow.Author.Tests.{eqb-true, ltb-false, not-false}
use Rattle.octets.specs.Limits.{nonce_length, tag_length, packet_limit, restart_limit}
use Rattle.octets.specs.Octets.{put, blank}
use Rattle.stops.proofs.Laws.{neither, passes}
use Rattle.ring.proofs.StoreLaws.{newest_latest}
use Rattle.ring.specs.Ring.{read_ring, newest_record, is_blank, is_pending, Newest, Blank}
use Rattle.ring.proofs.RingLaws.{read_blank}
use Rattle.ring.proofs.FoundLaws.{found, pending_is}
use Rattle.checkpoint.specs.Checkpoint.{Form, Older, Longer, Checkpoint, own_tag, sealed}
use Rattle.checkpoint.specs.Layout.{PacketInRange}
use Rattle.checkpoint.specs.Fram.{fram_wrong, half_length}
use Rattle.checkpoint.proofs.SealedLaws.{length_own_tag}
use Rattle.protocol.specs.Types.{Firmware, Session, Save, Job, Words}
use Rattle.protocol.specs.Calls.{From, from_tag, from_session, SaveArguments, Saves, saves, Setup, saved}
use Rattle.protocol.specs.Operations.{key_wrong, nonce_wrong, from_wrong, packet_wrong, session_wrong, stale, written_number, larger, save_restarts, number_from, restarts_from, previous_tag, save_checkpoint, job_of, Target, save_target, ring_lines, save_stop, save}
use Rattle.protocol.specs.Journal.{entered, number_in, starts_over, first_draft, saved_entry, saved_from, Journal, drafted, save_draft}
use Rattle.protocol.specs.History.{State, step, HandedOut, Keeps, left_by, refused}
use Rattle.protocol.proofs.Facts.{no_fact}
use Rattle.protocol.proofs.Invariant.{Good, half_of, page_in, slot_in, DurableAt, Untouched, Recorded, Matches, Holds}
use Rattle.protocol.proofs.Reading.{reads, nonce_found, target_page_found, target_slot_found, other_half}
use Rattle.protocol.proofs.Starts.{started, start_holds, begun_stopped, begun_none, Parts, parts_pass, save_arguments, same_arguments}

-- a save with the unit's sizes and key
abbrev pub saving : Setup → SaveArguments → From → Saves
saving u a from = saves (save_arguments u a) from

-- ---- a save that passes 1 to 4 and 18

record Passes (firmware : Firmware) (fram : List ℕ) (a : SaveArguments) (from : From) : Type 0 where
  fram_fits : fram_wrong firmware.largest_fram fram ≡ false
  nonce_long : length a.nonce ≡ nonce_length
  from_right : from_wrong from ≡ false
  parts : Parts firmware a.open_part a.secret (half_length fram) (length a.staging)
  packet_small : packet_wrong firmware.form a.packet ≡ false

save_passes : (u : Setup) (firmware : Firmware) (ring fram : List ℕ) (a : SaveArguments) (from : From) → save_stop firmware ring fram (saving u a from) ≡ none → Passes firmware fram a from
unfolding save_stop
save_passes u firmware ring fram a from e =
    let p = passes _ e in
    let lengths = neither (key_wrong firmware.key_lengths (length u.key) || nonce_wrong (length a.nonce)) (from_wrong from) p.1.1.0 in
    record {
      fram_fits = p.1.0;
      nonce_long = eqb-true (length a.nonce) nonce_length (not-false _ (neither (key_wrong firmware.key_lengths (length u.key)) (nonce_wrong (length a.nonce)) lengths.0).1);
      from_right = lengths.1;
      parts = parts_pass firmware a.open_part a.secret fram a.staging p.1.1.1.0;
      packet_small = p.1.1.1.1.0;
    }

-- ---- what holds where its stops about the ring do not apply either

-- the checkpoint is in range, it goes where the next record is due, no erase is owed, and the journal drafts it
record Due (u : Setup) (s : State) (a : SaveArguments) (from : From) : Type 0 where
  restarts_small : restarts_from s.firmware.form from a.packet ≤ restart_limit
  packet_small : PacketInRange s.firmware.form (written_number s.firmware.form (number_from from a.packet))
  previous_long : length (previous_tag from) ≡ tag_length
  half_is : (save_target s.ring u.sizes from).half ≡ half_of (s.journal.count + 1)
  page_is : (save_target s.ring u.sizes from).page ≡ page_in u (s.journal.count + 1)
  slot_is : (save_target s.ring u.sizes from).slot ≡ slot_in u (s.journal.count + 1)
  none_owed : s.journal.owed ≡ false
  drafts : saved_from s.firmware.form u.key (save_arguments u a) from s.journal u.sizes.slots
      ≡ drafted u.key u.sizes.slots Save (save_checkpoint s.firmware.form (saving u a from)) (restarts_from s.firmware.form from a.packet) s.journal

-- a packet number that passes 18 is one of the form's
pub numbered : (form : Form) (packet : ℕ) → packet_wrong form packet ≡ false → PacketInRange form (written_number form packet)
unfolding packet_wrong written_number
numbered Older packet e = refl
numbered Longer packet e = ltb-false packet_limit packet e

-- a ring that is blank has nothing recorded
blank_untouched : (u : Setup) (s : State) → Holds u s → blank s.ring ≡ true
    → Untouched s.ring s.journal.entry s.journal.count s.journal.owed s.journal.power_ups
blank_untouched u s inv b = go inv.durable
  where
    different : (owed : Bool) → Blank ≡ found u.sizes.pages u.sizes.slots s.journal.count owed → ⊥
    different true e = let z : ◌≡◌ {A = ℕ} 0 1 = cc in omega arith
    different false e = let z : ◌≡◌ {A = ℕ} 0 1 = cc in omega arith

    go : DurableAt u s s.ring s.fram s.journal.owed
        → Untouched s.ring s.journal.entry s.journal.count s.journal.owed s.journal.power_ups
    go (inl x) = x
    go (inr (c, r)) = absurd (different s.journal.owed (sym (read_blank u.sizes.pages u.sizes.slots s.ring inv.ring_right b)
        ∙ reads inv.fram_right r))

-- a ring in use has a checkpoint recorded
pub in_use_recorded : (u : Setup) (s : State) → Holds u s → is_blank (read_ring s.ring u.sizes.pages u.sizes.slots) ≡ false
    → (c : Checkpoint) × Recorded u s.ring s.fram s.nonces s.journal.entry s.journal.count s.journal.owed s.journal.power_ups c
in_use_recorded u s inv b = go inv.durable
  where
    go : DurableAt u s s.ring s.fram s.journal.owed
        → (c : Checkpoint) × Recorded u s.ring s.fram s.nonces s.journal.entry s.journal.count s.journal.owed s.journal.power_ups c
    go (inl x) = no_fact (rw (read_blank u.sizes.pages u.sizes.slots s.ring inv.ring_right x.ring_blank) at b)
    go (inr r) = r

-- ---- the restarts and the packet number

pub larger_small : (a b n : ℕ) → a ≤ n → b ≤ n → larger a b ≤ n
unfolding larger
larger_small a b n x y = go (ltb a b)
  where
    go : (t : Bool) → cond t b a ≤ n
    go true = y
    go false = x

pub save_numbered : (form : Form) (packet : ℕ) (z : Session) → packet_wrong form packet ≡ false → session_wrong form z ≡ false
    → PacketInRange form (written_number form (larger z.packet packet))
unfolding packet_wrong session_wrong written_number
save_numbered Older packet z e f = refl
save_numbered Longer packet z e f =
    larger_small z.packet packet packet_limit (ltb-false packet_limit z.packet (neither (ltb restart_limit z.restarts) (ltb packet_limit z.packet) f).1) (ltb-false packet_limit packet e)

pub restarts_small : (form : Form) (heard known restarts : ℕ) → (form ≡ Longer → restarts ≤ restart_limit) → save_restarts form heard known restarts ≤ restart_limit
unfolding save_restarts
restarts_small Older heard known restarts l = lit≤ tt
restarts_small Longer heard known restarts l = go (ltb known heard)
  where
    go : (t : Bool) → cond t 0 restarts ≤ restart_limit
    go true = lit≤ tt
    go false = l refl

pub save_few : (form : Form) (packet : ℕ) (z : Session) → session_wrong form z ≡ false → save_restarts form packet z.packet z.restarts ≤ restart_limit
unfolding session_wrong
save_few Older packet z f = restarts_small Older packet z.packet z.restarts (λ e. absurd (let y : ◌≡◌ {A = ℕ} 0 1 = cc in omega arith))
save_few Longer packet z f =
    restarts_small Longer packet z.packet z.restarts (λ e. ltb-false restart_limit z.restarts (neither (ltb restart_limit z.restarts) (ltb packet_limit z.packet) f).0)

-- ---- with a starting tag

first_drafted : (form : Form) (a : SaveArguments) (tag : List ℕ) → first_draft form a tag ≡ save_checkpoint form (saves a (from_tag tag))
unfolding first_draft save_checkpoint number_in written_number number_from restarts_from previous_tag
first_drafted Older a tag = refl
first_drafted Longer a tag = refl

first_due : (u : Setup) (s : State) (a : SaveArguments) (tag : List ℕ) → Holds u s → save_stop s.firmware s.ring s.fram (saving u a (from_tag tag)) ≡ none → Due u s a (from_tag tag)
unfolding save_stop ring_lines from_wrong number_from restarts_from previous_tag save_target saved_from
first_due u s a tag inv e =
    let p = save_passes u s.firmware s.ring s.fram a (from_tag tag) e in
    let x = blank_untouched u s inv (not-false _ (passes _ e).1.1.1.1.1.0) in
    record {
      restarts_small = lit≤ tt;
      packet_small = numbered s.firmware.form a.packet p.packet_small;
      previous_long = eqb-true (length tag) tag_length (not-false _ p.from_right);
      half_is = rw x.no_record;
      page_is = rw (x.no_record, zero-div u.sizes.slots, zero-mod u.sizes.pages);
      slot_is = rw (x.no_record, zero-mod u.sizes.slots);
      none_owed = x.none_owed;
      drafts = ap (λ (c : Checkpoint). drafted u.key u.sizes.slots Save c 0 s.journal) (first_drafted s.firmware.form (save_arguments u a) tag);
    }

-- ---- with a session

-- a save with a session of checkpoint c makes the checkpoint of the journal's draft, with as many power-ups as restarts
drafted_of : (form : Form) (key : List ℕ) (a : SaveArguments) (z : Session) (j : Journal) (slots : ℕ) (tag : List ℕ) (packet restarts : ℕ) → z.tag ≡ tag
    → z.restarts ≡ restarts → z.packet ≡ packet → (c : Checkpoint) → own_tag key c ≡ tag → c.restarts ≡ restarts → c.packet ≡ packet → j.power_ups ≡ restarts
    → drafted key slots Save (save_draft form key a c) (cond (starts_over form a.packet c) 0 j.power_ups) j
    ≡ drafted key slots Save (save_checkpoint form (saves a (from_session z))) (save_restarts form a.packet z.packet z.restarts) j
unfolding save_draft save_checkpoint starts_over number_in written_number number_from restarts_from previous_tag save_restarts larger
drafted_of Older key a z j slots tag packet restarts e f g c e' f' g' h = ap (λ (t : List ℕ). drafted key slots Save (record {
  form = Older;
  packet = 0;
  open_part = a.open_part;
  secret = a.secret;
  restarts = 0;
  previous = t;
  nonce = a.nonce;
}) 0 j) (e' ∙ sym e)
drafted_of Longer key a z j slots tag packet restarts e f g c e' f' g' h =
    λ i. drafted key slots Save (record {
      form = Longer;
      packet = cond (ltb ((g' ∙ sym g) i) a.packet) a.packet ((g' ∙ sym g) i);
      open_part = a.open_part;
      secret = a.secret;
      restarts = cond (ltb ((g' ∙ sym g) i) a.packet) 0 ((f' ∙ sym f) i);
      previous = (e' ∙ sym e) i;
      nonce = a.nonce;
    }) (cond (ltb ((g' ∙ sym g) i) a.packet) 0 ((h ∙ sym f) i)) j

saved_draft : (form : Form) (u : Setup) (a : SaveArguments) (z : Session) (entry : Option Checkpoint) (j : Journal) (slots : ℕ) (c : Checkpoint) → entry ≡ some c → Matches u z c
    → j.power_ups ≡ c.restarts
    → saved_entry form u.key a entry j slots ≡ drafted u.key slots Save (save_checkpoint form (saves a (from_session z))) (save_restarts form a.packet z.packet z.restarts) j
unfolding saved_entry
saved_draft form u a z entry j slots c e (t, r, n) h =
    ap (λ (o : Option Checkpoint). saved_entry form u.key a o j slots) e
    ∙ drafted_of form u.key a z j slots (own_tag u.key c) c.packet c.restarts t r n c refl refl refl h

module _ (u : Setup) (s : State) (a : SaveArguments) (z : Session) (inv : Holds u s) (mine : Memᴰ z s.sessions)
    (e : save_stop s.firmware s.ring s.fram (saving u a (from_session z)) ≡ none) where
  abbrev n : Newest
  n = read_ring s.ring u.sizes.pages u.sizes.slots

  p : Passes s.firmware s.fram a (from_session z)
  p = save_passes u s.firmware s.ring s.fram a (from_session z) e

  in_use : is_blank n ≡ false
  unfolding save_stop ring_lines
  in_use = (passes _ e).1.1.1.1.1.0

  session_passes : (stale s.ring u.sizes.slots n z ≡ false) × (session_wrong s.firmware.form z ≡ false)
  unfolding save_stop ring_lines
  session_passes = neither (stale s.ring u.sizes.slots n z) (session_wrong s.firmware.form z) (passes _ e).1.1.1.1.1.1.1.0

  none_pending : is_pending n ≡ false
  unfolding save_stop ring_lines
  none_pending = (passes _ e).1.1.1.1.1.1.1.1.0

  x : (c : Checkpoint) × Recorded u s.ring s.fram s.nonces s.journal.entry s.journal.count s.journal.owed s.journal.power_ups c
  x = in_use_recorded u s inv in_use

  r : Recorded u s.ring s.fram s.nonces s.journal.entry s.journal.count s.journal.owed s.journal.power_ups x.0
  r = x.1

  reads_as : n ≡ found u.sizes.pages u.sizes.slots s.journal.count s.journal.owed
  reads_as = reads inv.fram_right r

  latest_is : take nonce_length z.latest ≡ x.0.nonce
  unfolding stale
  latest_is =
      ap (λ (l : List ℕ). take nonce_length l)
      (newest_latest s.ring u.sizes.slots n z.page z.slot z.latest session_passes.0 ∙ ap (λ (m : Newest). newest_record s.ring u.sizes.slots m) reads_as)
      ∙ nonce_found inv.fram_right r

  matches : Matches u z x.0
  matches = inv.sessions_match z mine x.0 r.entry_is latest_is

  next_due : Due u s a (from_session z)
  unfolding number_from restarts_from previous_tag save_target saved_from
  next_due = record {
    restarts_small = save_few s.firmware.form a.packet z session_passes.1;
    packet_small = save_numbered s.firmware.form a.packet z p.packet_small session_passes.1;
    previous_long = rw matches.0 (length_own_tag u.key x.0);
    half_is = rw reads_as (other_half inv.fram_right r);
    page_is = rw reads_as (target_page_found inv.fram_right r);
    slot_is = rw reads_as (target_slot_found inv.fram_right r);
    none_owed = sym (pending_is s.journal.owed u.sizes.pages u.sizes.slots s.journal.count) ∙ ap (λ (m : Newest). is_pending m) (sym reads_as) ∙ none_pending;
    drafts = saved_draft s.firmware.form u (save_arguments u a) z s.journal.entry s.journal u.sizes.slots x.0 r.entry_is matches r.restarts_are;
  }

-- ---- with either

due : (u : Setup) (s : State) (a : SaveArguments) (from : From) → Holds u s → HandedOut from s.sessions
    → save_stop s.firmware s.ring s.fram (saving u a from) ≡ none → Due u s a from
unfolding HandedOut
due u s a (from_tag tag) inv m e = first_due u s a tag inv e
due u s a (from_session z) inv m e = next_due u s a z inv m e

module _ (u : Setup) (s : State) (inv : Holds u s) (a : SaveArguments) (from : From) (new : Memᴰ a.nonce s.nonces → ⊥) (mine : HandedOut from s.sessions) where
  -- the checkpoint of a save that does not stop, and its job
  abbrev pub saving_checkpoint : Checkpoint
  saving_checkpoint = save_checkpoint s.firmware.form (saving u a from)

  abbrev t : Target
  t = save_target s.ring u.sizes from

  abbrev pub saving_job : Job
  saving_job = job_of u.key saving_checkpoint (Words 0) Save t.half t.page t.slot

  module _ (e : save_stop s.firmware s.ring s.fram (saving u a from) ≡ none) where
    passed : Passes s.firmware s.fram a from
    passed = save_passes u s.firmware s.ring s.fram a from e

    d : Due u s a from
    d = due u s a from inv mine e

    good : Good saving_checkpoint (half_length s.fram)
    unfolding save_checkpoint
    good = record {
      range = record {
        open_whole = passed.parts.open_passes.0;
        open_small = omega (arith, passed.parts.open_passes.1, s.firmware.fits_word);
        secret_whole = passed.parts.secret_passes.0;
        secret_small = omega (arith, passed.parts.secret_passes.1, s.firmware.fits_word);
        restarts_small = d.restarts_small;
        packet_small = d.packet_small;
        previous_long = d.previous_long;
      };
      nonce_long = passed.nonce_long;
      fits = passed.parts.fits;
    }

    pub save_begun : Holds u (started u s saving_checkpoint Save (restarts_from s.firmware.form from a.packet) saving_job a.staging)
    unfolding save_checkpoint
    save_begun =
        start_holds u s inv saving_checkpoint Save (Words 0) t.half t.page t.slot a.staging good refl (passed.parts.open_passes.1, passed.parts.secret_passes.1) passed.fram_fits new
        passed.parts.staging_long d.half_is d.page_is d.slot_is (restarts_from s.firmware.form from a.packet) refl (inl (d.none_owed, refl))

    -- the state after it
    pub save_step : step u s (saved (saving u a from)) ≡ started u s saving_checkpoint Save (restarts_from s.firmware.form from a.packet) saving_job a.staging
    unfolding step left_by entered refused save save_checkpoint
    save_step =
        begun_none s (save_stop s.firmware s.ring s.fram (saving u a from)) _ _ _ _ _ _ _ _ e
        ∙ ap (λ (j : Journal). record {
          ring = s.ring;
          fram = s.fram;
          handed = some (record { job = saving_job; staging = put a.staging 0 (sealed u.key saving_checkpoint) });
          sessions = s.sessions;
          nonces = a.nonce ∷ s.nonces;
          journal = j;
          firmware = s.firmware;
        }) d.drafts

  save_go : (o : Option ℕ) → save_stop s.firmware s.ring s.fram (saving u a from) ≡ o → Holds u (step u s (saved (saving u a from)))
  unfolding step left_by entered refused save
  save_go (some x) e = rw (begun_stopped s (save_stop s.firmware s.ring s.fram (saving u a from)) _ _ _ _ _ _ _ _ x e) inv
  save_go none e = subst (λ (t : State). Holds u t) (sym (save_step e)) (save_begun e)

pub hold_saved : (u : Setup) (s : State) (a : Saves) → Holds u s → Keeps u s (saved a) → Holds u (step u s (saved a))
unfolding Keeps
hold_saved u s a inv (p, q, f, m) =
    let path : saving u a.arguments a.from ≡ a = λ i. saves (same_arguments u a.arguments p q i) a.from in
    subst (λ (b : Saves). Holds u (step u s (saved b))) path (save_go u s inv a.arguments a.from f m (save_stop s.firmware s.ring s.fram (saving u a.arguments a.from)) refl)
