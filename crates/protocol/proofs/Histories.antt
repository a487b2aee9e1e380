-- Every unit has the lists of specs/Histories.antt.
use Prim.Native.Nat.{ℕ, zero, suc, ◌+◌, ◌*◌, ◌-◌, ◌/◌, ◌%◌, ◌^◌, ◌≤◌, ◌<◌}
use mathlib.Core.Path.{◌≡◌, refl, sym, ap, subst, subst₂, ◌∙◌}
use mathlib.Core.Bool.{Bool, true, false, ◌&&◌, ◌||◌}
use mathlib.Core.Logic.{◌⊎◌, inl, inr}
use mathlib.Core.Option.{none, some}
use mathlib.Core.List.{List, [], ◌∷◌, ◌++◌, append-nil, Memᴰ}
use native.Mathlib.Nat.{add-zero}
use native.Mathlib.Omega.{arith}
use lib.ListN.{replicate, length, length-replicate}
use lib.Dec.{lit<, lit≤, eqb, ltb}
use borrow.Author.Tests.{eq-eqb, le-ltb, not-false}
use Rattle.octets.specs.Limits.{pages_least, slots_least, slot_length, restart_limit, packet_limit, long_key, nonce_length, tag_length}
use Rattle.octets.specs.Octets.{erased, blank, put, number, bytes}
use Rattle.octets.proofs.Laws.{blank_erased}
use Rattle.octets.proofs.Numbers.{length_bytes, number_bytes}
use Rattle.stops.specs.Stops.{first_of}
use Rattle.stops.proofs.Laws.{passes}
use Rattle.ring.proofs.StoreLaws.{is_newest}
use Rattle.ring.specs.Ring.{ring_wrong, At, AtPending, page_before, read_ring, record_of, newest_record, not_newest}
use Rattle.ring.proofs.RingLaws.{page_of, slot_of}
use Rattle.ring.proofs.FoundLaws.{found, not_blank, not_unreadable, pending_is}
use Rattle.checkpoint.proofs.SealedLaws.{empty_passes}
use Rattle.checkpoint.proofs.StoredLaws.{packet_small}
use Rattle.gcm.proofs.Keys.{one_length, long_taken}
use Rattle.checkpoint.specs.Fram.{fram_wrong, half_length}
use Rattle.checkpoint.specs.Checkpoint.{Form, Older, Longer, Checkpoint, sealed, empty_length, sealed_length}
use Rattle.checkpoint.proofs.FramLaws.{an_image, fram_kept, half_sizes, half_kept}
use Rattle.protocol.specs.Types.{Firmware, first_firmware, this_firmware, Session, Save, PowerUp, EraseFirst, Stopped}
use Rattle.protocol.specs.Calls.{From, from_tag, from_session, SaveArguments, Saves, PowersUp, Setup, Event, saved, powered_up, updated_to}
use Rattle.protocol.specs.Operations.{key_wrong, nonce_wrong, staging_wrong, parts_wrong, packet_wrong, session_wrong, save_restarts, written_number, larger, stale, Begin, job_of, first_phase, power_up, from_wrong, number_from, restarts_from, save_checkpoint, ring_lines, save_stop}
use Rattle.protocol.specs.Journal.{entered, dropped, drafted, stores_of, power_up_draft, empty}
use Rattle.protocol.specs.History.{State, Handed, fresh, left_by, step, run, Succeeds, HandedOut, Keeps, Allowed}
use Rattle.protocol.specs.Recovery.{Fits, Last}
use Rattle.protocol.specs.Histories.{smallest, bench_state, but_the_last, interrupted, interrupted_unit, Interrupted, Examples, to_its_end, staging_room, state_room, numbered_arguments, numbered_first, numbered_save, numbered_power_up, with_session, saves_on, power_ups_on, history, Reachable, repeats_on, repeats, StaleRepeats, newer, NewerPacket, InOrder, updating, Updates, bench_fram, UpdatedInErase, OutgrownExample}
use Rattle.protocol.proofs.Facts.{no_fact}
use Rattle.protocol.proofs.Invariant.{half_of, session_in, Holds, Ended}
use Rattle.protocol.proofs.Reading.{reads, record_found, new_nonce}
use Rattle.protocol.proofs.Saves.{saving, saving_checkpoint, saving_job, save_begun, save_step}
use Rattle.protocol.proofs.PowerUps.{Entry, resuming_job, resuming_holds, step_is}
use Rattle.protocol.proofs.Lists.{hold_fresh}
use Rattle.protocol.proofs.Recovery.{stop_none, power_up_begins, outcome}
use Rattle.protocol.proofs.LastStops.{resealed_long}
use Rattle.protocol.proofs.PowerLosses.{hold_updated}
use Rattle.protocol.proofs.Runs.{Passed, passed_append, Whole, whole, run_append, allowed_append, recorded_entry}
use Rattle.protocol.proofs.Interrupted.{Owing, lost_in_erase}

-- ---- numbered nonces

-- the nonces of starts that were numbered below n
abbrev Below : ℕ → List (List ℕ) → Type 0
Below n nonces = (m : List ℕ) → Memᴰ m nonces → number m 0 nonce_length < n

below_new : (n : ℕ) (nonces : List (List ℕ)) → n < 2 ^ 96 → Below n nonces → Memᴰ (bytes nonce_length n) nonces → ⊥
below_new n nonces h b m = omega (arith, b (bytes nonce_length n) m, number_bytes nonce_length n h)

below_more : (n : ℕ) (nonces : List (List ℕ)) → n < 2 ^ 96 → Below n nonces → Below (suc n) (bytes nonce_length n ∷ nonces)
below_more n nonces h b m k = go (mathlib.Core.List.Memᴰ.cases_cons k)
  where
    go : (m ≡ bytes nonce_length n) ⊎ Memᴰ m nonces → number m 0 nonce_length < suc n
    go (inl e) = rw (e, number_bytes nonce_length n h) (omega arith)
    go (inr l) = omega (arith, b m l)

-- ---- conditions that such starts pass

length_staging : (firmware : Firmware) → length (staging_room firmware) ≡ firmware.largest_fram / 2
unfolding staging_room
length_staging firmware = length-replicate {A = ℕ} (firmware.largest_fram / 2) 0

length_state : (firmware : Firmware) → length (state_room firmware) ≡ firmware.longest_part
unfolding state_room
length_state firmware = length-replicate {A = ℕ} firmware.longest_part 0

room : (firmware : Firmware) (fram : List ℕ) → fram_wrong firmware.largest_fram fram ≡ false → half_length fram ≤ length (staging_room firmware)
room firmware fram e = rw (length_staging firmware) (half_sizes firmware.largest_fram fram e).1

module _ (u : Setup) (firmware : Firmware) (keyed : key_wrong firmware.key_lengths (length u.key) ≡ false) (i : ℕ) where
  sizes_pass : key_wrong firmware.key_lengths (length u.key) || nonce_wrong (length (bytes nonce_length i)) ≡ false
  sizes_pass = rw (keyed, eq-eqb (length (bytes nonce_length i)) nonce_length (length_bytes nonce_length i))

parts_pass : (firmware : Firmware) (fram : List ℕ) → fram_wrong firmware.largest_fram fram ≡ false → empty_length firmware.form ≤ half_length fram
    → parts_wrong firmware [] [] fram || staging_wrong (staging_room firmware) fram ≡ false
unfolding parts_wrong staging_wrong
parts_pass firmware fram e l =
    rw (empty_passes firmware.longest_part, le-ltb (half_length fram) (sealed_length firmware.form 0 0) (omega arith))
    (le-ltb (length (staging_room firmware)) (half_length fram) (room firmware fram e))

packet_passes : (form : Form) (packet : ℕ) → packet ≤ packet_limit → packet_wrong form packet ≡ false
unfolding packet_wrong
packet_passes Older packet h = refl
packet_passes Longer packet h = le-ltb packet_limit packet h

-- packet number 0 is written as 0
no_number : (form : Form) (packet : ℕ) → packet ≡ 0 → written_number form packet ≡ 0
unfolding written_number
no_number Older packet e = refl
no_number Longer packet e = e

-- ---- the first save

first_passes : (u : Setup) (firmware : Firmware) (ring fram : List ℕ) → blank ring ≡ true → Fits u firmware ring fram → empty_length firmware.form ≤ half_length fram
    → (i : ℕ) → save_stop firmware ring fram (numbered_first u firmware i) ≡ none
unfolding save_stop from_wrong ring_lines first_of
first_passes u firmware ring fram b f l i =
    rw (f.ring_right, f.fram_right, sizes_pass u firmware f.key_right i, parts_pass firmware fram f.fram_right l, packet_passes firmware.form 0 (lit≤ tt), b)

-- ---- each start, run to its end

-- n starts were recorded, the last with a checkpoint of k restarts, packet number 0 and empty parts; the firmware takes the FRAM and the key, and a half has room for one of its form
record Standing (u : Setup) (s : State) (n k : ℕ) : Type 0 where
  c : Checkpoint
  holds : Holds u s
  entry : Entry u s c
  count : s.journal.count ≡ n
  restarts : c.restarts ≡ k
  no_packet : c.packet ≡ 0
  no_open : length c.open_part ≡ 0
  no_secret : length c.secret ≡ 0
  framed : fram_wrong s.firmware.largest_fram s.fram ≡ false
  keyed : key_wrong s.firmware.key_lengths (length u.key) ≡ false
  enough : empty_length s.firmware.form ≤ half_length s.fram
  numbers : Below n s.nonces

-- and the last made all of its stores, by firmware of its form
record After (u : Setup) (s : State) (n k : ℕ) : Type 0 where
  standing : Standing u s n k
  ended : Ended u s standing.c
  made_in : standing.c.form ≡ s.firmware.form

after_whole : (u : Setup) (s : State) (n : ℕ) (c : Checkpoint) (events : List Event) → Whole u s c (bytes nonce_length n) events
    → s.journal.count ≡ n → Below n s.nonces → n < 2 ^ 96 → c.packet ≡ 0 → length c.open_part ≡ 0 → length c.secret ≡ 0
    → fram_wrong s.firmware.largest_fram s.fram ≡ false → key_wrong s.firmware.key_lengths (length u.key) ≡ false
    → empty_length s.firmware.form ≤ half_length s.fram → c.form ≡ s.firmware.form → After u (run u s events) (suc n) c.restarts
after_whole u s n c events w e b h z o p fr ky l q = record {
  standing = record {
    c = c;
    holds = w.holds;
    entry = recorded_entry u (run u s events) c w.holds w.ended.entry;
    count = omega (arith, w.count, e);
    restarts = refl;
    no_packet = z;
    no_open = o;
    no_secret = p;
    framed = rw w.passed.firmware (fram_kept s.firmware.largest_fram s.fram (run u s events).fram w.passed.fram_long fr);
    keyed = rw w.passed.firmware ky;
    enough = rw (w.passed.firmware, half_kept s.fram (run u s events).fram w.passed.fram_long) l;
    numbers = rw w.nonces (below_more n s.nonces h b);
  };
  ended = w.ended;
  made_in = q ∙ sym (ap (λ (x : Firmware). x.form) w.passed.firmware);
}

-- a save that does not stop
module _ (u : Setup) (s : State) (inv : Holds u s) (a : SaveArguments) (from : From) (new : Memᴰ a.nonce s.nonces → ⊥) (mine : HandedOut from s.sessions)
    (e : save_stop s.firmware s.ring s.fram (saving u a from) ≡ none) where
  abbrev made_checkpoint : Checkpoint
  made_checkpoint = saving_checkpoint u s inv a from new mine

  abbrev made_handed : Handed
  made_handed = record { job = saving_job u s inv a from new mine; staging = put a.staging 0 (sealed u.key made_checkpoint) }

  saved_whole : Whole u s made_checkpoint a.nonce (to_its_end u s (saved (saving u a from)))
  unfolding drafted save_checkpoint Keeps
  saved_whole =
      let is = save_step u s inv a from new mine e in
      whole u s (saved (saving u a from)) made_checkpoint Save a.nonce made_handed
      (refl, refl, new, mine) (subst (λ (y : State). Holds u y) (sym is) (save_begun u s inv a from new mine e))
      (ap (λ (y : State). y.handed) is) (ap (λ (y : State). y.journal.draft) is) (ap (λ (y : State). y.journal.count) is) (ap (λ (y : State). y.nonces) is) (ap (λ (y : State). y.firmware) is) (ap (λ (y : State). y.fram) is)

-- one with a starting tag
pub first_save_whole : (u : Setup) (firmware : Firmware) (ring fram : List ℕ) (a : SaveArguments) (tag : List ℕ) → save_stop firmware ring fram (saving u a (from_tag tag)) ≡ none
    → Whole u (fresh firmware ring fram) (save_checkpoint firmware.form (saving u a (from_tag tag))) a.nonce (to_its_end u (fresh firmware ring fram) (saved (saving u a (from_tag tag))))
unfolding fresh save_stop ring_lines HandedOut
first_save_whole u firmware ring fram a tag e =
    let p = passes _ e in
    let inv = hold_fresh u firmware ring fram p.0 (an_image firmware.largest_fram fram p.1.0) (not-false _ p.1.1.1.1.1.0) in
    saved_whole u (fresh firmware ring fram) inv a (from_tag tag) (λ m. absurd (mathlib.Core.List.Memᴰ.not-nil m)) tt e

module _ (u : Setup) (firmware : Firmware) (ring fram : List ℕ) (b : blank ring ≡ true) (f : Fits u firmware ring fram) (l : empty_length firmware.form ≤ half_length fram) where
  abbrev start : State
  start = fresh firmware ring fram

  first_whole : Whole u start (save_checkpoint firmware.form (numbered_first u firmware 0)) (bytes nonce_length 0) (to_its_end u start (saved (numbered_first u firmware 0)))
  first_whole = first_save_whole u firmware ring fram (numbered_arguments u firmware 0 0) (replicate tag_length 0) (first_passes u firmware ring fram b f l 0)

  first_after : After u (run u start (to_its_end u start (saved (numbered_first u firmware 0)))) 1 0
  unfolding fresh empty save_checkpoint number_from restarts_from
  first_after = after_whole u start 0 (save_checkpoint firmware.form (numbered_first u firmware 0)) (to_its_end u start (saved (numbered_first u firmware 0)))
      first_whole refl (λ m k. absurd (mathlib.Core.List.Memᴰ.not-nil k)) (lit< tt) (no_number firmware.form 0 refl) refl refl f.fram_right f.key_right l refl

-- a power-up
module _ (u : Setup) (s : State) (n k : ℕ) (x : Standing u s n k) (h : n < 2 ^ 96) where
  new_here : Memᴰ (bytes nonce_length n) s.nonces → ⊥
  new_here = below_new n s.nonces h x.numbers

  last_here : Last u s (numbered_power_up u s.firmware n)
  last_here = record {
    sizes = refl;
    key = refl;
    nonce_long = length_bytes nonce_length n;
    nonce_new = new_here;
    staging = room s.firmware s.fram x.framed;
    state = rw (length_state s.firmware) (omega arith);
  }

  module _ (few : k < restart_limit) where
    abbrev next : Checkpoint
    next = power_up_draft s.firmware.form u.key (bytes nonce_length n) x.c

    fewer : x.c.restarts ≡ restart_limit → ⊥
    fewer e = omega (arith, x.restarts)

    fits : sealed_length s.firmware.form (length x.c.open_part) (length x.c.secret) ≤ half_length s.fram
    fits = rw (x.no_open, x.no_secret) (omega (arith, x.enough))

    power_whole : Whole u s next (bytes nonce_length n) (to_its_end u s (powered_up (numbered_power_up u s.firmware n)))
    unfolding drafted power_up_draft Keeps
    power_whole =
        let a : PowersUp = numbered_power_up u s.firmware n in
        let holds = x.holds in
        let r = x.entry in
        let is = step_is u s holds a x.c r (stop_none u s holds a x.keyed x.framed last_here x.c r fewer fits) in
        whole u s (powered_up a) next PowerUp (bytes nonce_length n) (record { job = resuming_job u s next; staging = put (staging_room s.firmware) 0 (sealed u.key next) })
        (refl, refl, new_here)
        (subst (λ (y : State). Holds u y) (sym is) (resuming_holds u s holds a x.c r x.framed last_here.nonce_long last_here.staging new_here fewer fits))
        (ap (λ (y : State). y.handed) is)
        (ap (λ (y : State). y.journal.draft) is
        ∙ (λ i. some (record { checkpoint = next; origin = PowerUp; power_ups = r.restarts_are i + 1; stores = stores_of u.key u.sizes.slots s.journal next })))
        (ap (λ (y : State). y.journal.count) is) (ap (λ (y : State). y.nonces) is) (ap (λ (y : State). y.firmware) is) (ap (λ (y : State). y.fram) is)

    power_after : After u (run u s (to_its_end u s (powered_up (numbered_power_up u s.firmware n)))) (suc n) (suc k)
    unfolding power_up_draft
    power_after =
        let e : x.c.restarts + 1 ≡ suc k = omega (arith, x.restarts) in
        subst (λ (m : ℕ). After u (run u s (to_its_end u s (powered_up (numbered_power_up u s.firmware n)))) (suc n) m) e
        (after_whole u s n next (to_its_end u s (powered_up (numbered_power_up u s.firmware n))) power_whole x.count x.numbers h x.no_packet x.no_open x.no_secret x.framed x.keyed x.enough refl)

-- ---- a save with the session handed out last

session_passes : (form : Form) (z : Session) → z.restarts ≤ restart_limit → z.packet ≤ packet_limit → session_wrong form z ≡ false
unfolding session_wrong
session_passes Older z a b = refl
session_passes Longer z a b = rw (le-ltb restart_limit z.restarts a) (le-ltb packet_limit z.packet b)

carries_zero : (form : Form) (packet restarts : ℕ) → restarts ≡ 0 → save_restarts form 0 packet restarts ≡ 0
unfolding save_restarts
carries_zero Older packet restarts e = refl
carries_zero Longer packet restarts e = rw (le-ltb packet 0 (omega arith)) e

found_newest : (ring : List ℕ) (pages slots count : ℕ) (owed : Bool) (r : List ℕ) → owed ≡ false → newest_record ring slots (found pages slots count owed) ≡ r
    → not_newest ring slots (found pages slots count owed) (page_of pages slots count) (slot_of slots count) r ≡ false
found_newest ring pages slots count true r o e = no_fact o
found_newest ring pages slots count false r o e =
    is_newest ring slots (found pages slots count false) (page_of pages slots count) (slot_of slots count) r refl refl (sym e)

module _ (u : Setup) (s : State) (n k : ℕ) (x : After u s n k) (h : n < 2 ^ 96) (p : ℕ) (few_bits : p ≤ packet_limit) where
  abbrev session_here : Session
  session_here = session_in u s.journal.count x.standing.c

  abbrev call_here : Saves
  call_here = numbered_save u s.firmware n p session_here

  mine : HandedOut (from_session session_here) s.sessions
  unfolding HandedOut
  mine = rw x.ended.session (mathlib.Core.List.Memᴰ.head refl)

  not_stale : stale s.ring u.sizes.slots (found u.sizes.pages u.sizes.slots s.journal.count s.journal.owed) session_here ≡ false
  unfolding stale
  not_stale = found_newest s.ring u.sizes.pages u.sizes.slots s.journal.count s.journal.owed (record_of x.standing.c.nonce (half_of s.journal.count))
      x.ended.owed (record_found x.standing.holds.fram_right x.standing.entry)

  save_passes : save_stop s.firmware s.ring s.fram call_here ≡ none
  unfolding save_stop from_wrong ring_lines first_of
  save_passes =
      let inv = x.standing.holds in
      let r = x.standing.entry in
      rw (
        inv.ring_right,
        x.standing.framed,
        sizes_pass u s.firmware x.standing.keyed n,
        parts_pass s.firmware s.fram x.standing.framed x.standing.enough,
        packet_passes s.firmware.form p few_bits,
        reads inv.fram_right r,
        not_blank s.journal.owed u.sizes.pages u.sizes.slots s.journal.count,
        not_unreadable s.journal.owed u.sizes.pages u.sizes.slots s.journal.count,
        not_stale,
        session_passes s.firmware.form session_here x.standing.entry.good.range.restarts_small (packet_small x.standing.c.form x.standing.c.packet x.standing.entry.good.range.packet_small),
        pending_is s.journal.owed u.sizes.pages u.sizes.slots s.journal.count ∙ x.ended.owed,
        new_nonce inv.fram_right r (bytes nonce_length n) (new_here u s n k x.standing h),
      )

  abbrev kept : Checkpoint
  kept = save_checkpoint s.firmware.form call_here

  save_whole : Whole u s kept (bytes nonce_length n) (to_its_end u s (saved call_here))
  save_whole = saved_whole u s x.standing.holds (numbered_arguments u s.firmware n p) (from_session session_here) (new_here u s n k x.standing h) mine save_passes

  -- its restarts: with packet number 0 they carry over, and a save of the older form sets them to 0
  abbrev carried : ℕ
  carried = save_restarts s.firmware.form p x.standing.c.packet x.standing.c.restarts

  module _ (unheard : p ≡ 0) where
    -- packet number 0 again
    same_packet : written_number s.firmware.form (larger x.standing.c.packet p) ≡ 0
    unfolding larger
    same_packet = no_number s.firmware.form _ (rw (le-ltb x.standing.c.packet p (omega arith)) x.standing.no_packet)

    save_after : After u (run u s (to_its_end u s (saved call_here))) (suc n) (save_restarts s.firmware.form p x.standing.c.packet x.standing.c.restarts)
    unfolding save_checkpoint number_from restarts_from
    save_after = after_whole u s n kept (to_its_end u s (saved call_here)) save_whole x.standing.count x.standing.numbers h same_packet refl refl x.standing.framed x.standing.keyed x.standing.enough refl

  -- the power fails in its erase after, and leaves a page that is not blank
  module _ (left : List ℕ) (opens : ltb 0 s.journal.count && eqb (s.journal.count % u.sizes.slots) 0 ≡ true)
      (long : length left ≡ slot_length * u.sizes.slots) (used : blank left ≡ false) where
    save_lost : Allowed u s (but_the_last u s (saved call_here) left) × Owing u s (run u s (but_the_last u s (saved call_here) left)) kept (bytes nonce_length n)
    unfolding drafted save_checkpoint Keeps
    save_lost =
        let inv = x.standing.holds in
        let a = numbered_arguments u s.firmware n p in
        let from = from_session session_here in
        let new = new_here u s n k x.standing h in
        let is = save_step u s inv a from new mine save_passes in
        lost_in_erase u s (saved call_here) kept Save (bytes nonce_length n) (made_handed u s inv a from new mine save_passes) left
        (refl, refl, new, mine) (subst (λ (y : State). Holds u y) (sym is) (save_begun u s inv a from new mine save_passes))
        (ap (λ (y : State). y.handed) is) (ap (λ (y : State). y.journal.draft) is) (ap (λ (y : State). y.journal.count) is) (ap (λ (y : State). y.nonces) is) (ap (λ (y : State). y.firmware) is) (ap (λ (y : State). y.fram) is)
        opens long used

    standing_lost : p ≡ 0 → Standing u (run u s (but_the_last u s (saved call_here) left)) (suc n) (save_restarts s.firmware.form p x.standing.c.packet x.standing.c.restarts)
    unfolding save_checkpoint number_from restarts_from
    standing_lost unheard =
        let o = save_lost.1 in
        record {
          c = kept;
          holds = o.holds;
          entry = recorded_entry u (run u s (but_the_last u s (saved call_here) left)) kept o.holds o.entry;
          count = omega (arith, o.count, x.standing.count);
          restarts = refl;
          no_packet = same_packet unheard;
          no_open = refl;
          no_secret = refl;
          framed = rw o.firmware (fram_kept s.firmware.largest_fram s.fram (run u s (but_the_last u s (saved call_here) left)).fram o.fram_long x.standing.framed);
          keyed = rw o.firmware x.standing.keyed;
          enough = rw (o.firmware, half_kept s.fram (run u s (but_the_last u s (saved call_here) left)).fram o.fram_long) x.standing.enough;
          numbers = rw o.nonces (below_more n s.nonces h x.standing.numbers);
        }

-- ---- several in a row

record Row (u : Setup) (s : State) (events : List Event) (n k : ℕ) : Type 0 where
  passed : Passed u s events
  after : After u (run u s events) n k

-- one start, and then a row
row_more : (u : Setup) (s : State) (xs ys : List Event) (n k : ℕ) → Passed u s xs → Row u (run u s xs) ys n k → Row u s (xs ++ ys) n k
row_more u s xs ys n k a r = record {
  passed = passed_append u xs ys s a r.passed;
  after = subst (λ (t : State). After u t n k) (sym (run_append u xs ys s)) r.after;
}

module _ (u : Setup) where
  power_ups_row : (i n k : ℕ) (s : State) → After u s i k → k + n ≤ restart_limit → i + n < 2 ^ 96 → Row u s (power_ups_on u i n s) (i + n) (k + n)
  unfolding power_ups_on run Allowed
  power_ups_row i zero k s x few h =
      record { passed = record { allowed = tt; firmware = refl; fram_long = refl }; after = subst₂ (λ (a b : ℕ). After u s a b) (sym (add-zero i)) (sym (add-zero k)) x }
  power_ups_row i (suc n) k s x few h =
      let events = to_its_end u s (powered_up (numbered_power_up u s.firmware i)) in
      let l : i < 2 ^ 96 = omega arith in
      let m : suc i + n < 2 ^ 96 = omega arith in
      let c : k < restart_limit = omega arith in
      let e : suc i + n ≡ i + suc n = omega arith in
      let e' : suc k + n ≡ k + suc n = omega arith in
      let more = power_ups_row (suc i) n (suc k) (run u s events) (power_after u s i k x.standing l c) (omega arith) m in
      row_more u s events (power_ups_on u (suc i) n (run u s events)) (i + suc n) (k + suc n) (power_whole u s i k x.standing l c).passed
      (subst₂ (λ (a b : ℕ). Row u (run u s events) (power_ups_on u (suc i) n (run u s events)) a b) e e' more)

  saves_row : (i n : ℕ) (s : State) → (k : ℕ) → After u s i k → (k ≡ 0) → i + n < 2 ^ 96 → Row u s (saves_on u i n s) (i + n) 0
  unfolding saves_on with_session run Allowed
  saves_row i zero s k x o h = record { passed = record { allowed = tt; firmware = refl; fram_long = refl }; after = subst₂ (λ (a b : ℕ). After u s a b) (sym (add-zero i)) o x }
  saves_row i (suc n) s k x o h =
      let l : i < 2 ^ 96 = omega arith in
      let m : suc i + n < 2 ^ 96 = omega arith in
      let events = to_its_end u s (saved (call_here u s i k x l 0 (lit≤ tt))) in
      let more = saves_row (suc i) n (run u s events) (carried u s i k x l 0 (lit≤ tt)) (save_after u s i k x l 0 (lit≤ tt) refl)
      (carries_zero s.firmware.form x.standing.c.packet x.standing.c.restarts (x.standing.restarts ∙ o)) m in
      let e : suc i + n ≡ i + suc n = omega arith in
      let is : saves_on u i (suc n) s ≡ events ++ saves_on u (suc i) n (run u s events) =
      ap (λ (zs : List Session). with_session zs (λ z. to_its_end u s (saved (numbered_save u s.firmware i 0 z)) ++ saves_on u (suc i) n (run u s (to_its_end u s (saved (numbered_save u s.firmware i 0 z))))))
      x.ended.session in
      subst (λ (l : List Event). Row u s l (i + suc n) 0) (sym is)
      (row_more u s events (saves_on u (suc i) n (run u s events)) (i + suc n) 0 (save_whole u s i k x l 0 (lit≤ tt)).passed
      (subst (λ (a : ℕ). Row u (run u s events) (saves_on u (suc i) n (run u s events)) a 0) e more))

found_at : (pages slots count n : ℕ) (owed : Bool) → owed ≡ false → count ≡ n + 1 → found pages slots count owed ≡ At (n / slots % pages) (n % slots)
found_at pages slots count n true o e = no_fact o
found_at pages slots count n false o e = let m : count - 1 ≡ n = omega arith in ap (λ (x : ℕ). At (x / slots % pages) (x % slots)) m

-- a first save, then n saves, then k power-ups
history_row : (u : Setup) (firmware : Firmware) (ring fram : List ℕ) → blank ring ≡ true → Fits u firmware ring fram → empty_length firmware.form ≤ half_length fram → (n k : ℕ) → k ≤ restart_limit → n + k + 1 < 2 ^ 96
    → Row u (fresh firmware ring fram) (history u (fresh firmware ring fram) n k) (n + 1 + k) k
unfolding history fresh
history_row u firmware ring fram b f l n k few h =
    row_more u s first _ (n + 1 + k) k (first_whole u firmware ring fram b f l).passed (row_more u (run u s first) saves _ (n + 1 + k) k rs.passed rp)
  where
    s : State
    s = fresh firmware ring fram

    first : List Event
    first = to_its_end u s (saved (numbered_first u firmware 0))

    saves : List Event
    saves = saves_on u 1 n (run u s first)

    rs : Row u (run u s first) saves (1 + n) 0
    rs = saves_row u 1 n (run u s first) 0 (first_after u firmware ring fram b f l) refl (omega arith)

    rp : Row u (run u (run u s first) saves) (power_ups_on u (n + 1) k (run u (run u s first) saves)) (n + 1 + k) k
    rp =
        let e : 1 + n ≡ n + 1 = omega arith in
        let o : 0 + k ≡ k = omega arith in
        subst (λ (m : ℕ). Row u (run u (run u s first) saves) (power_ups_on u (n + 1) k (run u (run u s first) saves)) (n + 1 + k) m) o
        (power_ups_row u (n + 1) k 0 (run u (run u s first) saves) (subst (λ (m : ℕ). After u (run u (run u s first) saves) m 0) e rs.after)
        (omega arith) (omega arith))

-- where the newest of n + 1 records is found
newest_found : (u : Setup) (s : State) (n m k : ℕ) → After u s m k → m ≡ n + 1
    → read_ring s.ring u.sizes.pages u.sizes.slots ≡ At (n / u.sizes.slots % u.sizes.pages) (n % u.sizes.slots)
newest_found u s n m k x e = reads x.standing.holds.fram_right x.standing.entry
    ∙ found_at u.sizes.pages u.sizes.slots s.journal.count n s.journal.owed x.ended.owed (x.standing.count ∙ e)

pub reachable : Reachable
unfolding Reachable
reachable u firmware ring fram b f l n k few h =
    let r = history_row u firmware ring fram b f l n k few h in
    let t = run u (fresh firmware ring fram) (history u (fresh firmware ring fram) n k) in
    record {
      allowed = r.passed.allowed;
      count = omega (arith, r.after.standing.count);
      power_ups = r.after.standing.entry.restarts_are ∙ r.after.standing.restarts;
      newest = newest_found u t (n + k) (n + 1 + k) k r.after (omega arith);
    }

-- ---- stale repeats

carries_over : (form : Form) (packet restarts k : ℕ) → form ≡ Longer → restarts ≡ k → save_restarts form 0 packet restarts ≡ k
unfolding save_restarts
carries_over Older packet restarts k f e = absurd (let z : ◌≡◌ {A = ℕ} 0 1 = cc in omega arith)
carries_over Longer packet restarts k f e = rw (le-ltb packet 0 (omega arith)) e

-- firmware that stays keeps its form
formed : {x y : Firmware} → x ≡ y → x.form ≡ y.form
formed e = ap (λ (f : Firmware). f.form) e

-- one save with packet number 0, of firmware of the longer form
module _ (u : Setup) (s : State) (i k : ℕ) (x : After u s i k) (h : i < 2 ^ 96) where
  abbrev one_save : List Event
  one_save = to_its_end u s (saved (call_here u s i k x h 0 (lit≤ tt)))

  one_save_is : saves_on u i 1 s ≡ one_save
  unfolding saves_on with_session
  one_save_is =
      ap (λ (zs : List Session). with_session zs (λ z. to_its_end u s (saved (numbered_save u s.firmware i 0 z)) ++ saves_on u (suc i) 0 (run u s (to_its_end u s (saved (numbered_save u s.firmware i 0 z))))))
      x.ended.session ∙ append-nil one_save

  one_save_after : s.firmware.form ≡ Longer → After u (run u s one_save) (suc i) k
  one_save_after f =
      subst (λ (r : ℕ). After u (run u s one_save) (suc i) r) (carries_over s.firmware.form x.standing.c.packet x.standing.c.restarts k f x.standing.restarts)
      (save_after u s i k x h 0 (lit≤ tt) refl)

module _ (u : Setup) where
  -- a power-up and a save
  repeat_once : (i k : ℕ) (s : State) → s.firmware.form ≡ Longer → After u s i k → k < restart_limit → suc i < 2 ^ 96
      → (rest : (t : State) → List Event) → (n m : ℕ)
      → ((t : State) → t.firmware.form ≡ Longer → After u t (suc (suc i)) (suc k) → Row u t (rest t) n m)
      → Row u s (let up = to_its_end u s (powered_up (numbered_power_up u s.firmware i)) in let t = run u s up in let again = saves_on u (suc i) 1 t in up ++ (again ++ rest (run u t again))) n m
  repeat_once i k s f x few h rest n m more =
      let l : i < 2 ^ 96 = omega arith in
      let up = to_its_end u s (powered_up (numbered_power_up u s.firmware i)) in
      let t = run u s up in
      let w = power_whole u s i k x.standing l few in
      let a = power_after u s i k x.standing l few in
      let g : t.firmware.form ≡ Longer = formed w.passed.firmware ∙ f in
      let one = one_save u t (suc i) (suc k) a h in
      let v = save_whole u t (suc i) (suc k) a h 0 (lit≤ tt) in
      row_more u s up (saves_on u (suc i) 1 t ++ rest (run u t (saves_on u (suc i) 1 t))) n m w.passed
      (subst (λ (events : List Event). Row u t (events ++ rest (run u t events)) n m) (sym (one_save_is u t (suc i) (suc k) a h))
      (row_more u t one (rest (run u t one)) n m v.passed (more (run u t one) (formed v.passed.firmware ∙ g) (one_save_after u t (suc i) (suc k) a h g))))

  repeats_row : (i n k : ℕ) (s : State) → s.firmware.form ≡ Longer → After u s i k → k + n ≤ restart_limit → i + 2 * n < 2 ^ 96 → Row u s (repeats_on u i n s) (i + 2 * n) (k + n)
  unfolding repeats_on run Allowed
  repeats_row i zero k s f x few h =
      let e : i ≡ i + 2 * 0 = omega arith in
      record { passed = record { allowed = tt; firmware = refl; fram_long = refl }; after = subst₂ (λ (a b : ℕ). After u s a b) e (sym (add-zero k)) x }
  repeats_row i (suc n) k s f x few h =
      let e : suc (suc i) + 2 * n ≡ i + 2 * suc n = omega arith in
      let e' : suc k + n ≡ k + suc n = omega arith in
      repeat_once i k s f x (omega arith) (omega arith) (λ t. repeats_on u (suc (suc i)) n t) (i + 2 * suc n) (k + suc n)
      (λ t g y. subst₂ (λ (a b : ℕ). Row u t (repeats_on u (suc (suc i)) n t) a b) e e' (repeats_row (suc (suc i)) n (suc k) t g y (omega arith) (omega arith)))

-- after the first save
module _ (u : Setup) (firmware : Firmware) (ring fram : List ℕ) (b : blank ring ≡ true) (f : Fits u firmware ring fram) (l : empty_length firmware.form ≤ half_length fram) where
  abbrev saved_once : State
  saved_once = run u (fresh firmware ring fram) (to_its_end u (fresh firmware ring fram) (saved (numbered_first u firmware 0)))

  form_kept : saved_once.firmware.form ≡ firmware.form
  unfolding fresh
  form_kept = formed (first_whole u firmware ring fram b f l).passed.firmware

pub stale_repeats : StaleRepeats
unfolding StaleRepeats repeats fresh
stale_repeats u firmware longer ring fram b f enough k few =
    let s = fresh firmware ring fram in
    let first = to_its_end u s (saved (numbered_first u firmware 0)) in
    let l : empty_length firmware.form ≤ half_length fram = rw longer enough in
    let o : 0 + k ≡ k = omega arith in
    let row = repeats_row u 1 k 0 (run u s first) (form_kept u firmware ring fram b f l ∙ longer) (first_after u firmware ring fram b f l) (omega arith) (omega arith) in
    let r = row_more u s first (repeats_on u 1 k (run u s first)) (1 + 2 * k) (0 + k) (first_whole u firmware ring fram b f l).passed row in
    (r.passed.allowed, r.after.standing.entry.restarts_are ∙ r.after.standing.restarts ∙ o, omega (arith, r.after.standing.count))

-- ---- a newer packet

-- above 0, packet 1 sets restarts to 0 and is stored
one_heard : (packet restarts : ℕ) → packet ≡ 0 → (save_restarts Longer 1 packet restarts ≡ 0) × (written_number Longer (larger packet 1) ≡ 1)
unfolding save_restarts written_number larger
one_heard packet restarts e = rw e (refl, refl)

-- a save of firmware of the longer form that has heard packet 1
module _ (u : Setup) (s : State) (n k : ℕ) (x : After u s n k) (h : n < 2 ^ 96) (f : s.firmware.form ≡ Longer) where
  abbrev hears : List Event
  hears = to_its_end u s (saved (call_here u s n k x h 1 (lit≤ tt)))

  heard : (Allowed u s hears) × ((run u s hears).journal.power_ups ≡ 0)
      × (c : Checkpoint) × ((run u s hears).journal.entry ≡ some c) × (c.restarts ≡ 0) × (c.packet ≡ 1)
  unfolding save_checkpoint number_from restarts_from
  heard =
      let w = save_whole u s n k x h 1 (lit≤ tt) in
      let c = kept u s n k x h 1 (lit≤ tt) in
      let y = one_heard x.standing.c.packet x.standing.c.restarts x.standing.no_packet in
      let r : c.restarts ≡ 0 = ap (λ (g : Form). save_restarts g 1 x.standing.c.packet x.standing.c.restarts) f ∙ y.0 in
      let p : c.packet ≡ 1 = ap (λ (g : Form). written_number g (larger x.standing.c.packet 1)) f ∙ y.1 in
      let e = recorded_entry u (run u s hears) c w.holds w.ended.entry in
      (w.passed.allowed, e.restarts_are ∙ r, c, w.ended.entry, r, p)

fresh_form : (firmware : Firmware) (ring fram : List ℕ) → (fresh firmware ring fram).firmware.form ≡ firmware.form
unfolding fresh
fresh_form firmware ring fram = refl

pub newer_packet : NewerPacket
unfolding NewerPacket newer with_session
newer_packet u firmware longer ring fram b f enough k few =
    subst (λ (events : List Event). Allowed u s events × ((run u s events).journal.power_ups ≡ 0)
    × (c : Checkpoint) × ((run u s events).journal.entry ≡ some c) × (c.restarts ≡ 0) × (c.packet ≡ 1)) (sym is) all
  where
    s : State
    s = fresh firmware ring fram

    row : Row u s (history u s 0 k) (0 + 1 + k) k
    row = history_row u firmware ring fram b f (rw longer enough) 0 k few (omega arith)

    t : State
    t = run u s (history u s 0 k)

    x : After u t (k + 1) k
    x = let e : 0 + 1 + k ≡ k + 1 = omega arith in subst (λ (n : ℕ). After u t n k) e row.after

    small : k + 1 < 2 ^ 96
    small = omega arith

    more : List Event
    more = hears u t (k + 1) k x small (formed row.passed.firmware ∙ fresh_form firmware ring fram ∙ longer)

    is : newer u s k ≡ history u s 0 k ++ more
    is = ap (λ (zs : List Session). history u s 0 k ++ with_session zs (λ z. to_its_end u t (saved (numbered_save u t.firmware (k + 1) 1 z)))) x.ended.session

    end : (Allowed u t more) × ((run u t more).journal.power_ups ≡ 0) × (c : Checkpoint) × ((run u t more).journal.entry ≡ some c) × (c.restarts ≡ 0) × (c.packet ≡ 1)
    end = heard u t (k + 1) k x small (formed row.passed.firmware ∙ fresh_form firmware ring fram ∙ longer)

    after_all : run u s (history u s 0 k ++ more) ≡ run u t more
    after_all = run_append u (history u s 0 k) more s

    all : Allowed u s (history u s 0 k ++ more) × ((run u s (history u s 0 k ++ more)).journal.power_ups ≡ 0)
        × (c : Checkpoint) × ((run u s (history u s 0 k ++ more)).journal.entry ≡ some c) × (c.restarts ≡ 0) × (c.packet ≡ 1)
    all = (
      allowed_append u (history u s 0 k) more s row.passed.allowed end.0,
      ap (λ (y : State). y.journal.power_ups) after_all ∙ end.1,
      end.2,
      ap (λ (y : State). y.journal.entry) after_all ∙ end.3,
      end.4,
      end.5,
    )

-- ---- an update

pub in_order : InOrder
unfolding InOrder
in_order = (record { heads = tt; parts = lit≤ tt }, record { heads = tt; parts = lit≤ tt }, record { heads = tt; parts = lit≤ tt }, record { heads = tt; parts = lit≤ tt })

-- what stands before it stands after it, where the next firmware takes the FRAM and the key and halves have room for its form
updated_standing : (u : Setup) (s : State) (next : Firmware) (n k : ℕ) → Standing u s n k → Succeeds s.firmware next
    → fram_wrong next.largest_fram s.fram ≡ false → key_wrong next.key_lengths (length u.key) ≡ false
    → empty_length next.form ≤ half_length s.fram → Standing u (step u s (updated_to next)) n k
unfolding step left_by entered dropped
updated_standing u s next n k x g fr ky l = record {
  c = x.c;
  holds = hold_updated u s x.holds next g;
  entry = x.entry;
  count = x.count;
  restarts = x.restarts;
  no_packet = x.no_packet;
  no_open = x.no_open;
  no_secret = x.no_secret;
  framed = fr;
  keyed = ky;
  enough = l;
  numbers = x.numbers;
}

run_updated : (u : Setup) (next : Firmware) (xs ys : List Event) (s : State) → run u s (xs ++ updated_to next ∷ ys) ≡ run u (step u (run u s xs) (updated_to next)) ys
unfolding run
run_updated u next xs ys s = run_append u xs (updated_to next ∷ ys) s

allowed_updated : (u : Setup) (next : Firmware) (xs ys : List Event) (s : State) → Allowed u s xs → Succeeds (run u s xs).firmware next
    → Allowed u (step u (run u s xs) (updated_to next)) ys → Allowed u s (xs ++ updated_to next ∷ ys)
unfolding Allowed Keeps
allowed_updated u next xs ys s a g b = allowed_append u xs (updated_to next ∷ ys) s a (inr g, b)

no_events : (u : Setup) (s : State) → Allowed u s [] × (run u s [] ≡ s)
unfolding Allowed run
no_events u s = (tt, refl)

updated_firmware : (u : Setup) (s : State) (next : Firmware) → (step u s (updated_to next)).firmware ≡ next
unfolding step left_by
updated_firmware u s _ = refl

pub updates : Updates
unfolding Updates updating power_ups_on fresh
updates u firmware next g ring fram b f f' l l' m k few = (allowed, counted, after.standing.c, after.standing.entry.entry_is, after.made_in ∙ formed now)
  where
    s : State
    s = fresh firmware ring fram

    older : List Event
    older = history u s 0 m

    row : Row u s older (0 + 1 + m) m
    row = history_row u firmware ring fram b f l 0 m (omega arith) (omega arith)

    t : State
    t = step u (run u s older) (updated_to next)

    one : ℕ
    one = 0 + 1 + m

    up : List Event
    up = to_its_end u t (powered_up (numbered_power_up u t.firmware (m + 1)))

    enough : empty_length next.form ≤ half_length (run u s older).fram
    enough = rw (half_kept fram (run u s older).fram row.passed.fram_long) l'

    succeeds : Succeeds (run u s older).firmware next
    succeeds = rw row.passed.firmware g

    framed : fram_wrong next.largest_fram (run u s older).fram ≡ false
    framed = fram_kept next.largest_fram fram (run u s older).fram row.passed.fram_long f'.fram_right

    stands : Standing u t (m + 1) m
    stands = let e : 0 + 1 + m ≡ m + 1 = omega arith in subst (λ (n : ℕ). Standing u t n m) e (updated_standing u (run u s older) next (0 + 1 + m) m row.after.standing succeeds framed f'.key_right enough)

    first : After u (run u t up) (suc (m + 1)) (suc m)
    first = power_after u t (m + 1) m stands (omega arith) (omega arith)

    rest : Row u (run u t up) (power_ups_on u (suc (m + 1)) k (run u t up)) (suc (m + 1) + k) (suc m + k)
    rest = power_ups_row u (suc (m + 1)) k (suc m) (run u t up) first (omega arith) (omega arith)

    all : Row u t (power_ups_on u (m + 1) (suc k) t) (suc (m + 1) + k) (suc m + k)
    all = row_more u t up (power_ups_on u (suc (m + 1)) k (run u t up)) (suc (m + 1) + k) (suc m + k) (power_whole u t (m + 1) m stands (omega arith) (omega arith)).passed rest

    is : run u s (updating u s next m (suc k)) ≡ run u t (power_ups_on u (m + 1) (suc k) t)
    is = run_updated u next older (power_ups_on u (m + 1) (suc k) t) s

    allowed : Allowed u s (updating u s next m (suc k))
    allowed = allowed_updated u next older (power_ups_on u (m + 1) (suc k) t) s row.passed.allowed succeeds all.passed.allowed

    after : After u (run u s (updating u s next m (suc k))) (suc (m + 1) + k) (suc m + k)
    after = subst (λ (y : State). After u y (suc (m + 1) + k) (suc m + k)) (sym is) all.after

    counted : (run u s (updating u s next m (suc k))).journal.power_ups ≡ m + k + 1
    counted = after.standing.entry.restarts_are ∙ after.standing.restarts ∙ omega arith

    now : (run u s (updating u s next m (suc k))).firmware ≡ next
    now = ap (λ (y : State). y.firmware) is ∙ all.passed.firmware ∙ updated_firmware u (run u s older) next

-- firmware that takes so small a FRAM, and a key of 32 bytes
abbrev Takes : Firmware → Form → Type 0
Takes firmware room = (2 * empty_length room ≤ firmware.largest_fram) × (key_wrong firmware.key_lengths long_key ≡ false)

smallest_fits : (firmware : Firmware) (room : Form) → Takes firmware room → Fits smallest firmware (erased (slot_length * 6)) (bench_fram room)
unfolding smallest ring_wrong fram_wrong
smallest_fits firmware Older l = record { ring_right = refl; fram_right = rw (le-ltb firmware.largest_fram 88 (omega arith)); key_right = l.1 }
smallest_fits firmware Longer l = record { ring_right = refl; fram_right = rw (le-ltb firmware.largest_fram 96 (omega arith)); key_right = l.1 }

smallest_room : (form : Form) → empty_length form ≤ half_length (bench_fram form)
unfolding half_length
smallest_room Older = lit≤ tt
smallest_room Longer = lit≤ tt

older_room : empty_length Older ≤ half_length (bench_fram Longer)
unfolding half_length
older_room = lit≤ tt

-- ---- a power loss

abbrev smallest_ring : List ℕ
smallest_ring = erased (slot_length * 6)

abbrev two : Firmware → Form → List Event
two firmware room = history smallest (bench_state firmware room) 1 0

abbrev zeros : List ℕ
zeros = replicate (slot_length * slots_least) 0

module _ (firmware : Firmware) (room : Form) (takes : Takes firmware room) (enough : empty_length firmware.form ≤ half_length (bench_fram room)) where
  -- a first save and a save
  two_row : Row smallest (bench_state firmware room) (two firmware room) 2 0
  unfolding bench_state
  two_row = history_row smallest firmware smallest_ring (bench_fram room) (blank_erased (slot_length * 6)) (smallest_fits firmware room takes) enough 1 0 (lit≤ tt) (lit< tt)

  abbrev resting : State
  resting = run smallest (bench_state firmware room) (two firmware room)

  abbrev third : Saves
  third = call_here smallest resting 2 0 two_row.after (lit< tt) 0 (lit≤ tt)

  abbrev losing : List Event
  losing = but_the_last smallest resting (saved third) zeros

  page_opens : ltb 0 resting.journal.count && eqb (resting.journal.count % smallest.sizes.slots) 0 ≡ true
  unfolding smallest
  page_opens = ap (λ (m : ℕ). ltb 0 m && eqb (m % slots_least) 0) two_row.after.standing.count

  page_long : length zeros ≡ slot_length * smallest.sizes.slots
  unfolding smallest
  page_long = refl

  page_used : blank zeros ≡ false
  unfolding blank
  page_used = refl

  lost_there : Allowed smallest resting losing
      × Owing smallest resting (run smallest resting losing) (kept smallest resting 2 0 two_row.after (lit< tt) 0 (lit≤ tt)) (bytes nonce_length 2)
  lost_there = save_lost smallest resting 2 0 two_row.after (lit< tt) 0 (lit≤ tt) zeros page_opens page_long page_used

  standing_there : Standing smallest (run smallest resting losing) 3 0
  standing_there = subst (λ (k : ℕ). Standing smallest (run smallest resting losing) 3 k) (carries_zero resting.firmware.form two_row.after.standing.c.packet two_row.after.standing.c.restarts two_row.after.standing.restarts)
      (standing_lost smallest resting 2 0 two_row.after (lit< tt) 0 (lit≤ tt) zeros page_opens page_long page_used refl)

  interrupted_is : interrupted firmware room ≡ two firmware room ++ losing
  unfolding interrupted with_session
  interrupted_is =
      ap (λ (zs : List Session). two firmware room ++ with_session zs (λ z. but_the_last smallest resting (saved (numbered_save smallest resting.firmware 2 0 z)) zeros)) two_row.after.ended.session

  lost_state : run smallest (bench_state firmware room) (interrupted firmware room) ≡ run smallest resting losing
  lost_state = ap (λ (events : List Event). run smallest (bench_state firmware room) events) interrupted_is ∙ run_append smallest (two firmware room) losing (bench_state firmware room)

  interrupted_allowed : Allowed smallest (bench_state firmware room) (interrupted firmware room)
  interrupted_allowed = subst (λ (events : List Event). Allowed smallest (bench_state firmware room) events) (sym interrupted_is)
      (allowed_append smallest (two firmware room) losing (bench_state firmware room) two_row.passed.allowed lost_there.0)

-- a state that stands so, with an erase owed
module _ (s : State) (x : Standing smallest s 3 0) (o : s.journal.owed ≡ true) where
  found_pending : found smallest.sizes.pages smallest.sizes.slots s.journal.count s.journal.owed ≡ AtPending 1 0
  unfolding smallest page_before
  found_pending = λ i. found pages_least slots_least (x.count i) (o i)

  reads_pending : read_ring s.ring pages_least slots_least ≡ AtPending 1 0
  unfolding smallest
  reads_pending = reads x.holds.fram_right x.entry ∙ found_pending

  power_up_erases : (power_up s.firmware s.ring s.fram (numbered_power_up smallest s.firmware 3)).job.phase ≡ EraseFirst 0
  unfolding job_of first_phase
  power_up_erases =
      ap (λ (b : Begin). b.job.phase)
      (power_up_begins smallest s x.holds (numbered_power_up smallest s.firmware 3) x.keyed x.framed (last_here smallest s 3 0 x (lit< tt)) x.c x.entry
      (fewer smallest s 3 0 x (lit< tt) (lit< tt)) (fits smallest s 3 0 x (lit< tt) (lit< tt)))
      ∙ ap first_phase found_pending

  abbrev resumes : List Event
  resumes = to_its_end smallest s (powered_up (numbered_power_up smallest s.firmware 3))

  resumes_allowed : Allowed smallest s resumes
  resumes_allowed = (power_whole smallest s 3 0 x (lit< tt) (lit< tt)).passed.allowed

  resumes_newest : read_ring (run smallest s resumes).ring pages_least slots_least ≡ At 1 1
  unfolding smallest
  resumes_newest = newest_found smallest (run smallest s resumes) 3 4 1 (power_after smallest s 3 0 x (lit< tt) (lit< tt)) refl

-- after that loss
module _ (firmware : Firmware) (room : Form) (takes : Takes firmware room) (enough : empty_length firmware.form ≤ half_length (bench_fram room)) where
  abbrev lost : State
  lost = run smallest (bench_state firmware room) (interrupted firmware room)

  lost_standing : Standing smallest lost 3 0
  lost_standing = subst (λ (t : State). Standing smallest t 3 0) (sym (lost_state firmware room takes enough)) (standing_there firmware room takes enough)

  lost_owed : lost.journal.owed ≡ true
  lost_owed = ap (λ (t : State). t.journal.owed) (lost_state firmware room takes enough) ∙ (lost_there firmware room takes enough).1.owed

  interrupted_example : Interrupted firmware room
  interrupted_example = record {
    pending = reads_pending lost lost_standing lost_owed;
    erases_first = power_up_erases lost lost_standing lost_owed;
    allowed = allowed_append smallest (interrupted firmware room) (resumes lost lost_standing lost_owed) (bench_state firmware room) (interrupted_allowed firmware room takes enough)
        (resumes_allowed lost lost_standing lost_owed);
    newest = ap (λ (t : State). read_ring t.ring pages_least slots_least) (run_append smallest (interrupted firmware room) (resumes lost lost_standing lost_owed) (bench_state firmware room))
        ∙ resumes_newest lost lost_standing lost_owed;
  }

pub examples : Examples
unfolding Examples bench_state Reachable
examples firmware room takes_key = (
  reachable smallest firmware smallest_ring (bench_fram form) (blank_erased (slot_length * 6)) (smallest_fits firmware form takes) (smallest_room form) 0 8 (lit≤ tt) (lit< tt),
  reachable smallest firmware smallest_ring (bench_fram form) (blank_erased (slot_length * 6)) (smallest_fits firmware form takes) (smallest_room form) 6 0 (lit≤ tt) (lit< tt),
  interrupted_example firmware form takes (smallest_room form),
)
  where
    form : Form
    form = firmware.form

    takes : Takes firmware form
    takes = (room, takes_key)

-- ---- the same power loss, with an update

-- from a state of the longer form that stands so: the power-up, and a save
module _ (s : State) (x : Standing smallest s 3 0) (f : s.firmware.form ≡ Longer) where
  abbrev up : List Event
  up = to_its_end smallest s (powered_up (numbered_power_up smallest s.firmware 3))

  up_after : After smallest (run smallest s up) 4 1
  up_after = power_after smallest s 3 0 x (lit< tt) (lit< tt)

  up_passed : Passed smallest s up
  up_passed = (power_whole smallest s 3 0 x (lit< tt) (lit< tt)).passed

  up_and_save : Row smallest s (up ++ saves_on smallest 4 1 (run smallest s up)) 5 1
  up_and_save =
      let t = run smallest s up in
      let g = formed up_passed.firmware ∙ f in
      row_more smallest s up (saves_on smallest 4 1 t) 5 1 up_passed
      (subst (λ (events : List Event). Row smallest t events 5 1) (sym (one_save_is smallest t 4 1 up_after (lit< tt)))
      (record {
        passed = (save_whole smallest t 4 1 up_after (lit< tt) 0 (lit≤ tt)).passed;
        after = one_save_after smallest t 4 1 up_after (lit< tt) g;
      }))

fifth_place : (s : State) → After smallest s 5 1 → read_ring s.ring pages_least slots_least ≡ At 2 0
unfolding smallest
fifth_place s x = newest_found smallest s 4 5 1 x refl

updated_owed : (u : Setup) (s : State) (next : Firmware) → (step u s (updated_to next)).journal.owed ≡ s.journal.owed
unfolding step left_by entered dropped
updated_owed u s _ = refl

lost_long : (firmware : Firmware) (room : Form) (takes : Takes firmware room) (enough : empty_length firmware.form ≤ half_length (bench_fram room))
    → length (run smallest (bench_state firmware room) (interrupted firmware room)).fram ≡ length (bench_fram room)
unfolding bench_state fresh
lost_long firmware room takes enough =
    ap (λ (t : State). length t.fram) (lost_state firmware room takes enough) ∙ (lost_there firmware room takes enough).1.fram_long ∙ (two_row firmware room takes enough).passed.fram_long

-- document 01's firmware takes the FRAM of 96 bytes, and this one succeeds it
first_takes : (room : Form) → Takes first_firmware room
first_takes Older = (lit≤ tt, one_length long_key long_key)
first_takes Longer = (lit≤ tt, one_length long_key long_key)

this_takes : (room : Form) → Takes this_firmware room
this_takes Older = (lit≤ tt, long_taken)
this_takes Longer = (lit≤ tt, long_taken)

smallest_keyed : key_wrong this_firmware.key_lengths (length smallest.key) ≡ false
smallest_keyed = (smallest_fits this_firmware Longer (this_takes Longer)).key_right

succeeds_first : Succeeds first_firmware this_firmware
succeeds_first = record { heads = tt; parts = lit≤ tt }

fresh_firmware : (firmware : Firmware) (room : Form) → (bench_state firmware room).firmware ≡ firmware
unfolding bench_state fresh
fresh_firmware firmware room = refl

fresh_fram : (firmware : Firmware) (room : Form) → length (bench_state firmware room).fram ≡ length (bench_fram room)
unfolding bench_state fresh
fresh_fram firmware room = refl

lost_firmware : (firmware : Firmware) (room : Form) (takes : Takes firmware room) (enough : empty_length firmware.form ≤ half_length (bench_fram room))
    → (interrupted_unit firmware room).firmware ≡ firmware
lost_firmware firmware room takes enough =
    ap (λ (t : State). t.firmware) (lost_state firmware room takes enough) ∙ (lost_there firmware room takes enough).1.firmware ∙ (two_row firmware room takes enough).passed.firmware
    ∙ fresh_firmware firmware room

pub updated_in_erase : UpdatedInErase
updated_in_erase = record {
  erases_first = power_up_erases t x (updated_owed smallest s this_firmware ∙ lost_owed first_firmware Longer takes older_room);
  allowed = allowed_updated smallest this_firmware (interrupted first_firmware Longer) (up t x longer ++ saves_on smallest 4 1 (run smallest t (up t x longer))) (bench_state first_firmware Longer)
      (interrupted_allowed first_firmware Longer takes older_room) succeeds row.passed.allowed;
  newest = ap (λ (y : State). read_ring y.ring pages_least slots_least) is ∙ fifth_place (run smallest t events) row.after;
  power_ups = ap (λ (y : State). y.journal.power_ups) is ∙ row.after.standing.entry.restarts_are ∙ row.after.standing.restarts;
}
  where
    takes : Takes first_firmware Longer
    takes = first_takes Longer

    s : State
    s = interrupted_unit first_firmware Longer

    t : State
    t = step smallest s (updated_to this_firmware)

    long : length s.fram ≡ length (bench_fram Longer)
    long = lost_long first_firmware Longer takes older_room

    enough : empty_length Longer ≤ half_length s.fram
    enough = rw (half_kept (bench_fram Longer) s.fram long) (smallest_room Longer)

    succeeds : Succeeds s.firmware this_firmware
    succeeds = rw (lost_firmware first_firmware Longer takes older_room) succeeds_first

    framed : fram_wrong this_firmware.largest_fram s.fram ≡ false
    framed = fram_kept this_firmware.largest_fram (bench_fram Longer) s.fram long (smallest_fits this_firmware Longer (this_takes Longer)).fram_right

    x : Standing smallest t 3 0
    x = updated_standing smallest s this_firmware 3 0 (lost_standing first_firmware Longer takes older_room) succeeds framed smallest_keyed enough

    longer : t.firmware.form ≡ Longer
    longer = formed (updated_firmware smallest s this_firmware)

    events : List Event
    events = up t x longer ++ saves_on smallest 4 1 (run smallest t (up t x longer))

    row : Row smallest t events 5 1
    row = up_and_save t x longer

    is : run smallest (bench_state first_firmware Longer) (interrupted first_firmware Longer ++ updated_to this_firmware ∷ events) ≡ run smallest t events
    is = run_updated smallest this_firmware (interrupted first_firmware Longer) events (bench_state first_firmware Longer)

-- ---- too small a FRAM for the longer form

-- document 01's firmware with 88 bytes, after its first save
first_row : Row smallest (bench_state first_firmware Older) (history smallest (bench_state first_firmware Older) 0 0) 1 0
unfolding bench_state
first_row = history_row smallest first_firmware smallest_ring (bench_fram Older) (blank_erased (slot_length * 6)) (smallest_fits first_firmware Older (first_takes Older)) (smallest_room Older) 0 0 (lit≤ tt) (lit< tt)

-- a state whose FRAM has 88 bytes, after the update
outgrown_at : (s : State) (n k : ℕ) → Standing smallest s n k → Succeeds s.firmware this_firmware → n < 2 ^ 96 → k < restart_limit → length s.fram ≡ length (bench_fram Older)
    → let t = step smallest s (updated_to this_firmware) in (power_up t.firmware t.ring t.fram (numbered_power_up smallest t.firmware n)).answer ≡ Stopped 4
unfolding step left_by entered dropped half_length
outgrown_at s n k x g h few long =
    let t = step smallest s (updated_to this_firmware) in
    let inv = hold_updated smallest s x.holds this_firmware g in
    let framed : fram_wrong this_firmware.largest_fram s.fram ≡ false = fram_kept this_firmware.largest_fram (bench_fram Older) s.fram long (smallest_fits this_firmware Older (this_takes Older)).fram_right in
    let new : Memᴰ (bytes nonce_length n) s.nonces → ⊥ = below_new n s.nonces h x.numbers in
    let l : Last smallest t (numbered_power_up smallest this_firmware n) = record {
      sizes = refl;
      key = refl;
      nonce_long = length_bytes nonce_length n;
      nonce_new = new;
      staging = room this_firmware s.fram framed;
      state = rw (length_state this_firmware) (omega arith);
    } in
    let o = outcome smallest t inv (numbered_power_up smallest this_firmware n) smallest_keyed framed l in
    o.outgrown.1 (x.c, x.entry.entry_is, (λ q. omega (arith, x.entry.restarts_are, x.restarts)), rw (resealed_long smallest t (numbered_power_up smallest this_firmware n) x.c, x.no_open, x.no_secret) (omega (arith, long)))

pub outgrown_example : OutgrownExample
unfolding OutgrownExample
outgrown_example = (allowed, subst (λ (t : State). (power_up t.firmware t.ring t.fram (numbered_power_up smallest t.firmware 1)).answer ≡ Stopped 4) (sym is) stopped)
  where
    s : State
    s = bench_state first_firmware Older

    older : List Event
    older = history smallest s 0 0

    t : State
    t = step smallest (run smallest s older) (updated_to this_firmware)

    succeeds : Succeeds (run smallest s older).firmware this_firmware
    succeeds = rw (first_row.passed.firmware ∙ fresh_firmware first_firmware Older) succeeds_first

    is : run smallest s (older ++ updated_to this_firmware ∷ []) ≡ t
    is = run_updated smallest this_firmware older [] s ∙ (no_events smallest t).1

    allowed : Allowed smallest s (older ++ updated_to this_firmware ∷ [])
    allowed = allowed_updated smallest this_firmware older [] s first_row.passed.allowed succeeds (no_events smallest t).0

    long : length (run smallest s older).fram ≡ length (bench_fram Older)
    long = first_row.passed.fram_long ∙ fresh_fram first_firmware Older

    stopped : (power_up t.firmware t.ring t.fram (numbered_power_up smallest t.firmware 1)).answer ≡ Stopped 4
    stopped = outgrown_at (run smallest s older) 1 0 first_row.after.standing succeeds (lit< tt) (lit< tt) long
