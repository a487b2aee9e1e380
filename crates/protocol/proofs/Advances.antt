-- An advance of the job handed out last is not refused, and makes the store of its phase.
use Prim.Native.Nat.{ℕ, zero, suc, ◌+◌, ◌*◌, ◌%◌, ◌≤◌, ◌<◌}
use mathlib.Core.Path.{◌≡◌, refl, sym, ap, subst, ◌∙◌}
use mathlib.Core.Bool.{Bool, true, false, not, cond}
use mathlib.Core.Logic.{◌⊎◌, inl, inr}
use mathlib.Core.Option.{Option, none, some}
use mathlib.Core.List.{List, [], ◌∷◌, ◌++◌}
use native.Mathlib.Omega.{arith}
use native.Mathlib.Nat.{mod-lt, zero-add}
use lib.ListN.{length, replicate, get_or, length-replicate}
use lib.Dec.{eqb, leb, ltb}
use borrow.Author.Tests.{eq-eqb, ne_eqb, lt-leb, le-ltb}
use Rattle.octets.specs.Octets.{erased, part, put, blank}
use Rattle.octets.specs.Limits.{slot_length}
use Rattle.octets.proofs.Laws.{blank_erased, Written, length_put, length_part, get_or_part, written_elsewhere, written_on}
use Rattle.stops.specs.Stops.{first_of}
use Rattle.ring.proofs.StoreLaws.{erased_is}
use Rattle.ring.specs.Ring.{page_put, ring_wrong, page_before, page_erased}
use Rattle.ring.proofs.RingLaws.{erase_pending}
use Rattle.ring.proofs.TurnLaws.{before_laws}
use Rattle.ring.proofs.SizeLaws.{sized}
use Rattle.checkpoint.specs.Checkpoint.{Form, Checkpoint, empty_length, sealed_length, sealed}
use Rattle.checkpoint.specs.Fram.{fram_wrong, half_length}
use Rattle.checkpoint.proofs.FramLaws.{Image, image_kept, fram_kept, half_kept, half_within, halves_apart}
use Rattle.protocol.specs.Types.{Firmware, Origin, Save, PowerUp, Session, Phase, EraseFirst, Words, Record, Done, Progress, GoingOn}
use Rattle.protocol.specs.Calls.{Advances, Setup, advanced_by}
use Rattle.protocol.specs.Operations.{staging_wrong, session_of, in_phase, phase_wrong, job_wrong, advance_stop, going_on, finished, ended, stored_word, store, advance_by, advance}
use Rattle.protocol.specs.Journal.{entered, Journal, Draft, Store, erase, word, record_slot, made, advanced}
use Rattle.protocol.specs.History.{State, Handed, moved, step, left_by, refused, is_stopped}
use Rattle.protocol.proofs.Facts.{no_fact}
use Rattle.protocol.proofs.Invariant.{Small, draft_of, length_good, sealed_fits, half_of, page_in, owed_page, DurableAt, Durable, Working, Before, last_erase, Stored, ErasingFirst, Writing, Doing, Holds, answer_of, Moving}

-- the call of an advance with the job handed out
abbrev pub call : Setup → Handed → Advances
call u h = record { sizes = u.sizes; job = h.job; staging = h.staging }

-- what that advance leaves, and its answer: `rest` is to come of the draft of c
abbrev pub Moves : Setup → State → Handed → Checkpoint → Origin → List Store → Type 0
Moves u s h c origin rest = Moving u (step u s (advanced_by (call u h))) (advance s.firmware s.ring s.fram (call u h)).progress c origin rest

module _ {u : Setup} {s : State} {h : Handed} {n : ℕ} {stores : List Store} (inv : Holds u s) (w : Working u s h n stores) where
  pub job_right : phase_wrong h.job.phase h.job u.sizes s.ring ≡ false → job_wrong s.firmware.form h.job u.sizes s.ring s.fram ≡ false
  unfolding job_wrong
  job_right e =
      let z = (sized u.sizes.pages u.sizes.slots s.ring inv.ring_right).numbers in
      let l = length_good u.key w.good in
      let g = w.good in
      let l4 : h.job.length % 4 ≡ 0 = rw (w.length_is, l) (omega (arith, g.range)) in
      let least : empty_length s.firmware.form ≤ h.job.length =
      rw (w.length_is, l) (subst (λ (f : Form). empty_length f ≤ sealed_length w.c.form (length w.c.open_part) (length w.c.secret)) w.form_is (omega arith)) in
      let l44 : ltb h.job.length (empty_length s.firmware.form) ≡ false = le-ltb h.job.length (empty_length s.firmware.form) least in
      let lh : ltb (half_length s.fram) h.job.length ≡ false = le-ltb (half_length s.fram) h.job.length (rw (w.length_is, l) g.fits) in
      let p : leb u.sizes.pages h.job.page ≡ false = lt-leb u.sizes.pages h.job.page (rw w.page_is (mod-lt _ (omega arith))) in
      let q : leb u.sizes.slots h.job.slot ≡ false = lt-leb u.sizes.slots h.job.slot (rw w.slot_is (mod-lt _ (omega arith))) in
      let r : ltb 1 h.job.half ≡ false = le-ltb 1 h.job.half (rw w.half_is (omega arith)) in
      rw (eq-eqb (h.job.length % 4) 0 l4, l44, lh, p, q, r) e

  pub advance_passes : phase_wrong h.job.phase h.job u.sizes s.ring ≡ false → advance_stop s.firmware s.ring s.fram (call u h) ≡ none
  unfolding advance_stop first_of staging_wrong
  advance_passes e = rw (inv.ring_right, w.fram_fits, le-ltb (length h.staging) (half_length s.fram) w.staging_long, job_right e)

  pub advance_stores : (p : Phase) → h.job.phase ≡ p → phase_wrong p h.job u.sizes s.ring ≡ false
      → advance s.firmware s.ring s.fram (call u h) ≡ store p s.ring s.fram (call u h)
  unfolding advance advance_by
  advance_stores p e f =
      rw (advance_passes (subst (λ (q : Phase). phase_wrong q h.job u.sizes s.ring ≡ false) (sym e) f))
      (ap (λ (q : Phase). store q s.ring s.fram (call u h)) e)

-- ---- the state after an advance

abbrev pub after : State → Handed → Phase → List ℕ → List ℕ → List Session → Journal → State
after s h p ring fram sessions j = record {
  ring = ring;
  fram = fram;
  handed = some (record { job = in_phase h.job p; staging = h.staging });
  sessions = sessions;
  nonces = s.nonces;
  journal = j;
  firmware = s.firmware;
}

module _ (u : Setup) (s : State) (h : Handed) (P : State → Progress → Type 0) where
  pub after_going : (p : Phase) (ring fram : List ℕ) (j : Journal)
      → advance s.firmware s.ring s.fram (call u h) ≡ going_on h.job p ring fram → advanced s.journal s.journal.draft ≡ j
      → P (after s h p ring fram s.sessions j) GoingOn → P (step u s (advanced_by (call u h))) (advance s.firmware s.ring s.fram (call u h)).progress
  unfolding step left_by entered refused is_stopped moved going_on
  after_going p ring fram j e f x = rw (e, f) x

  pub after_ended : (o : Origin) (ring fram : List ℕ) (j : Journal) → h.job.origin ≡ o
      → advance s.firmware s.ring s.fram (call u h) ≡ ended h.job ring fram → advanced s.journal s.journal.draft ≡ j
      → P (after s h Done ring fram (session_of h.job ∷ s.sessions) j) (finished o)
      → P (step u s (advanced_by (call u h))) (advance s.firmware s.ring s.fram (call u h)).progress
  unfolding step left_by entered refused is_stopped moved ended finished
  after_ended Save ring fram j o e f x =
      rw e (subst (λ (q : Origin). P (moved s (finished q) (ended h.job ring fram) h.staging
      (cond (is_stopped (finished q)) s.journal (advanced s.journal s.journal.draft))) (finished q)) (sym o) (rw f x))
  after_ended PowerUp ring fram j o e f x =
      rw e (subst (λ (q : Origin). P (moved s (finished q) (ended h.job ring fram) h.staging
      (cond (is_stopped (finished q)) s.journal (advanced s.journal s.journal.draft))) (finished q)) (sym o) (rw f x))

-- a job in its next phase
unfoldable pub working_on : {u : Setup} {s : State} {h : Handed} {n : ℕ} {stores : List Store} (t : State) (rest : List Store) (p : Phase) (w : Working u s h n stores)
    → t.journal.draft ≡ some (draft_of w.c w.origin rest)
    → length t.fram ≡ length s.fram → t.nonces ≡ s.nonces → s.firmware ≡ t.firmware
    → Working u t (record { job = in_phase h.job p; staging = h.staging }) n rest
unfolding in_phase
working_on {s = s} t rest p w d l m f = record {
  c = w.c;
  origin = w.origin;
  form_is = w.form_is ∙ ap (λ (x : Firmware). x.form) f;
  small = subst (λ (x : Firmware). Small x w.c) f w.small;
  fram_fits = subst (λ (x : Firmware). fram_wrong x.largest_fram t.fram ≡ false) f (fram_kept s.firmware.largest_fram s.fram t.fram l w.fram_fits);
  draft_is = d;
  good = rw (half_kept s.fram t.fram l) w.good;
  nonce_known = rw m w.nonce_known;
  length_is = w.length_is;
  origin_is = w.origin_is;
  half_is = w.half_is;
  page_is = w.page_is;
  slot_is = w.slot_is;
  nonce_is = w.nonce_is;
  tag_is = w.tag_is;
  restarts_is = w.restarts_is;
  packet_is = w.packet_is;
  staging_long = rw (half_kept s.fram t.fram l) w.staging_long;
  staged = w.staged;
}

pub doing_of : (u : Setup) (t : State) (h : Handed) → t.handed ≡ some h → Doing u t h h.job.phase → (k : Handed) → t.handed ≡ some k → Doing u t k k.job.phase
doing_of u t h e d k f = let q : h ≡ k = cc in subst (λ (x : Handed). Doing u t x x.job.phase) q d

-- an erase of the page that awaits it, whole or interrupted
pub erase_durable : {u : Setup} {ring fram : List ℕ} {nonces : List (List ℕ)} {entry : Option Checkpoint} {count power_ups : ℕ}
    (left : List ℕ) → length left ≡ slot_length * u.sizes.slots
    → Durable u ring fram nonces entry count true power_ups
    → (ring_wrong u.sizes.pages u.sizes.slots (page_put ring u.sizes.slots (page_before u.sizes.pages (page_in u count)) left) ≡ false)
    × Durable u (page_put ring u.sizes.slots (page_before u.sizes.pages (page_in u count)) left) fram nonces entry count (not (blank left)) power_ups
erase_durable left l (inl x) = no_fact x.none_owed
erase_durable {u} {ring} {count = count} left l (inr (c, r)) =
    let x = erase_pending u.sizes.pages u.sizes.slots ring count r.recs left r.ringed l in (
      x.sizes,
      inr (
        c,
        record {
          entry_is = r.entry_is;
          recs = r.recs;
          ringed = x;
          latest = r.latest;
          good = r.good;
          restarts_are = r.restarts_are;
          there = r.there;
          known = r.known;
        },
      ),
    )

pub erased_durable : (u : Setup) (s : State) (p : ℕ) → Holds u s → s.journal.owed ≡ true
    → p ≡ owed_page u s
    → (ring_wrong u.sizes.pages u.sizes.slots (page_erased s.ring u.sizes.slots p) ≡ false)
    × DurableAt u s (page_erased s.ring u.sizes.slots p) s.fram false
erased_durable u s p inv o e =
    let d = subst (λ (b : Bool). DurableAt u s s.ring s.fram b) o inv.durable in
    let x = erase_durable (erased (slot_length * u.sizes.slots)) (length-replicate (slot_length * u.sizes.slots) 0xFF) d in
    rw (erased_is, e) (rw (blank_erased (slot_length * u.sizes.slots)) at x)

pub page_right : (u : Setup) (s : State) (p : ℕ) → Holds u s → p ≡ owed_page u s
    → leb u.sizes.pages p ≡ false
page_right u s p inv e =
    let z = (sized u.sizes.pages u.sizes.slots s.ring inv.ring_right).numbers in
    lt-leb u.sizes.pages p (rw e (before_laws u.sizes.pages (page_in u s.journal.count) z.some_pages (mod-lt _ (omega arith))).in_ring)

module _ (u : Setup) (s : State) (h : Handed) (inv : Holds u s) where
  pub erasing_first : (p : ℕ) → h.job.phase ≡ EraseFirst p → (x : ErasingFirst u s h p)
      → Moves u s h
      x.before.working.c x.before.working.origin (word ∷ (replicate x.left word ++ record_slot ∷ last_erase u s))
  unfolding in_phase advanced made store phase_wrong working_on
  erasing_first p e x =
      after_going u s h (λ t a. Moving u t a w.c w.origin rest) (Words 0) ring s.fram j moves (ap (λ (d : Option Draft). advanced s.journal d) w.draft_is)
      (record {
        holds = record {
          ring_right = d.0;
          fram_right = inv.fram_right;
          durable = d.1;
          sessions_known = inv.sessions_known;
          sessions_match = inv.sessions_match;
          reads_entry = inv.reads_entry;
          doing = doing_of u t k refl writing;
        };
        answered = refl;
        draft_is = refl;
        handed = k;
        handed_is = refl;
        ended = λ q. absurd (let z : ◌≡◌ {A = ℕ} 0 1 = cc in omega arith);
      })
    where
      w : Working u s h (s.journal.count + 1) (erase ∷ word ∷ (replicate x.left word ++ record_slot ∷ last_erase u s))
      w = x.before.working

      rest : List Store
      rest = word ∷ (replicate x.left word ++ record_slot ∷ last_erase u s)

      ring : List ℕ
      ring = page_erased s.ring u.sizes.slots p

      j : Journal
      j = record {
        entry = s.journal.entry;
        count = s.journal.count;
        owed = false;
        power_ups = s.journal.power_ups;
        draft = some (draft_of w.c w.origin rest);
      }

      moves : advance s.firmware s.ring s.fram (call u h) ≡ going_on h.job (Words 0) ring s.fram
      moves = advance_stores inv w (EraseFirst p) e (page_right u s p inv x.page_is)

      k : Handed
      k = record { job = in_phase h.job (Words 0); staging = h.staging }

      t : State
      t = after s h (Words 0) ring s.fram s.sessions j

      d : (ring_wrong u.sizes.pages u.sizes.slots ring ≡ false)
          × DurableAt u s ring s.fram false
      d = erased_durable u s p inv x.owed x.page_is

      writing : Writing u t k 0
      writing = record {
        left = x.left;
        left_is = omega (arith, x.left_is);
        before = record {
          working = working_on t rest (Words 0) w refl refl refl refl;
          unlike = x.before.unlike;
        };
        owed = refl;
        stored = λ i l. absurd (omega arith);
      }

-- ---- a word

pub halves_differ : (count : ℕ) → 0 < count → half_of count ≡ half_of (count + 1) → ⊥
halves_differ count l e = omega arith

-- bytes put into the half of the next record leave the entry's half as it is
pub fram_durable : {u : Setup} {ring fram : List ℕ} {nonces : List (List ℕ)} {entry : Option Checkpoint} {count : ℕ} {owed : Bool} {power_ups : ℕ} (zs : List ℕ) (i : ℕ)
    → Image fram → half_of (count + 1) * half_length fram ≤ i → i + length zs ≤ half_of (count + 1) * half_length fram + half_length fram
    → Durable u ring fram nonces entry count owed power_ups → Durable u ring (put fram i zs) nonces entry count owed power_ups
fram_durable zs i f low high (inl x) = inl x
fram_durable {u} {ring} {fram} {count = count} zs i f low high (inr (c, r)) =
    inr (
      c,
      record {
        entry_is = r.entry_is;
        recs = r.recs;
        ringed = r.ringed;
        latest = r.latest;
        good = rw same_half r.good;
        restarts_are = r.restarts_are;
        there = rw same_half (written_elsewhere fram (sealed u.key c) zs (half_of count * half_length fram) (length (sealed u.key c)) i within (apart sides) r.there);
        known = r.known;
      },
    )
  where
    within : i + length zs ≤ length fram
    within = omega (arith, half_within fram (half_of (count + 1)) f (omega arith))

    same_half : half_length (put fram i zs) ≡ half_length fram
    same_half = half_kept fram (put fram i zs) (length_put fram i zs within)

    sides : (half_of count * half_length fram + half_length fram ≤ half_of (count + 1) * half_length fram)
        ⊎ (half_of (count + 1) * half_length fram + half_length fram ≤ half_of count * half_length fram)
    sides = halves_apart (half_length fram) (half_of count) (half_of (count + 1)) (omega arith) (omega arith) (halves_differ count r.ringed.some_record)

    fits : length (sealed u.key c) ≤ half_length fram
    fits = sealed_fits u.key r.good

    apart : (half_of count * half_length fram + half_length fram ≤ half_of (count + 1) * half_length fram)
        ⊎ (half_of (count + 1) * half_length fram + half_length fram ≤ half_of count * half_length fram)
        → (half_of count * half_length fram + length (sealed u.key c) ≤ i) ⊎ (i + length zs ≤ half_of count * half_length fram)
    apart (inl a) = inl (omega (arith, fits))
    apart (inr a) = inr (omega arith)

-- a word of staging goes to the half
pub word_stored : {u : Setup} {s : State} {h : Handed} {n : ℕ} {stores : List Store} (x : Working u s h n stores) (w : ℕ)
    → Image s.fram → 4 * w + 4 ≤ h.job.length → Stored u s h (4 * w) x.c
    → Written (put s.fram (h.job.half * half_length s.fram + 4 * w) (part h.staging (4 * w) 4)) (h.job.half * half_length s.fram) (4 * (w + 1)) (sealed u.key x.c)
word_stored {u} {s} {h} x w f l z =
    subst (λ (m : ℕ). Written (put s.fram (base + 4 * w) new) base m (sealed u.key x.c)) long
    (written_on s.fram (sealed u.key x.c) new base (4 * w) 4 new_long within z bytes)
  where
    base : ℕ
    base = h.job.half * half_length s.fram

    new : List ℕ
    new = part h.staging (4 * w) 4

    long : 4 * w + 4 ≡ 4 * (w + 1)
    long = omega arith

    sealed_long : length (sealed u.key x.c) ≤ half_length s.fram
    sealed_long = sealed_fits u.key x.good

    in_sealed : 4 * w + 4 ≤ length (sealed u.key x.c)
    in_sealed = rw x.length_is at l

    new_long : length new ≡ 4
    new_long = length_part h.staging (4 * w) 4 (omega (arith, in_sealed, sealed_long, x.staging_long))

    within : base + 4 * w + 4 ≤ length s.fram
    within = omega (arith, in_sealed, sealed_long, half_within s.fram h.job.half f (rw x.half_is (omega arith)))

    bytes : (k : ℕ) → k < 4 → get_or new k 0 ≡ get_or (sealed u.key x.c) (4 * w + k) 0
    bytes k b = get_or_part h.staging (4 * w) 4 k b ∙ (rw (zero-add (4 * w + k)) at (x.staged (4 * w + k) (omega (arith, in_sealed))))

abbrev next_job : Handed → Phase → Handed
next_job h p = record { job = in_phase h.job p; staging = h.staging }

-- the state after word `w`, with the job in phase `p` and `rest` to come
abbrev word_state : State → Handed → ℕ → Phase → Checkpoint → Origin → List Store → State
word_state s h w p c origin rest = after s h p s.ring (stored_word s.fram h.staging h.job w) s.sessions
    (record {
      entry = s.journal.entry;
      count = s.journal.count;
      owed = s.journal.owed;
      power_ups = s.journal.power_ups;
      draft = some (draft_of c origin rest);
    })

module _ {u : Setup} {s : State} {h : Handed} {rest : List Store} (inv : Holds u s) (w left : ℕ) (long : 4 * (w + suc left) ≡ h.job.length) (x : Before u s h (word ∷ rest)) where
  sealed_within : h.job.length ≤ half_length s.fram
  sealed_within = rw x.working.length_is (sealed_fits u.key x.working.good)

  word_long : length (part h.staging (4 * w) 4) ≡ 4
  word_long = length_part h.staging (4 * w) 4 (omega (arith, sealed_within, x.working.staging_long))

  pub word_kept : length (stored_word s.fram h.staging h.job w) ≡ length s.fram
  unfolding stored_word
  word_kept = length_put s.fram (h.job.half * half_length s.fram + 4 * w) (part h.staging (4 * w) 4)
      (omega (arith, word_long, sealed_within, half_within s.fram h.job.half inv.fram_right (rw x.working.half_is (omega arith))))

  word_durable : DurableAt u s s.ring (stored_word s.fram h.staging h.job w) s.journal.owed
  unfolding stored_word
  word_durable =
      let e = x.working.half_is in
      let f : h.job.half * half_length s.fram ≡ half_of (s.journal.count + 1) * half_length s.fram = ap (λ (y : ℕ). y * half_length s.fram) e in
      fram_durable (part h.staging (4 * w) 4) (h.job.half * half_length s.fram + 4 * w) inv.fram_right (omega arith) (omega (arith, word_long, sealed_within)) inv.durable

  word_before : (p : Phase) → Before u (word_state s h w p x.working.c x.working.origin rest) (next_job h p) rest
  unfolding working_on
  word_before p = record {
    working = working_on (word_state s h w p x.working.c x.working.origin rest) rest p x.working refl word_kept refl refl;
    unlike = x.unlike;
  }

  word_there : (p : Phase) → Stored u s h (4 * w) x.working.c → Stored u (word_state s h w p x.working.c x.working.origin rest) (next_job h p) (4 * (w + 1)) x.working.c
  unfolding in_phase stored_word
  word_there p z =
      rw (half_kept s.fram (stored_word s.fram h.staging h.job w) word_kept)
      (word_stored x.working w inv.fram_right (omega arith) z)

  word_moving : (p : Phase) → h.job.phase ≡ Words w → cond (eqb (4 * (w + 1)) h.job.length) Record (Words (w + 1)) ≡ p → (rest ≡ [] → ⊥)
      → Doing u (word_state s h w p x.working.c x.working.origin rest) (next_job h p) p
      → Moves u s h x.working.c x.working.origin rest
  unfolding in_phase advanced made store phase_wrong
  word_moving p e next more doing =
      after_going u s h (λ t a. Moving u t a x.working.c x.working.origin rest) p s.ring fram t.journal moves
      (ap (λ (d : Option Draft). advanced s.journal d) x.working.draft_is)
      (record {
        holds = record {
          ring_right = inv.ring_right;
          fram_right = image_kept s.fram fram word_kept inv.fram_right;
          durable = word_durable;
          sessions_known = inv.sessions_known;
          sessions_match = inv.sessions_match;
          reads_entry = inv.reads_entry;
          doing = doing_of u t (next_job h p) refl doing;
        };
        answered = answer rest more;
        draft_is = refl;
        handed = next_job h p;
        handed_is = refl;
        ended = λ q. absurd (more q);
      })
    where
      fram : List ℕ
      fram = stored_word s.fram h.staging h.job w

      t : State
      t = word_state s h w p x.working.c x.working.origin rest

      answer : (r : List Store) → (r ≡ [] → ⊥) → GoingOn ≡ answer_of x.working.origin r
      answer [] f = absurd (f refl)
      answer (y ∷ r) f = refl

      moves : advance s.firmware s.ring s.fram (call u h) ≡ going_on h.job p s.ring fram
      moves = advance_stores inv x.working (Words w) e (lt-leb h.job.length (4 * w) (omega arith))
          ∙ ap (λ (q : Phase). going_on h.job q s.ring fram) next

module _ (u : Setup) (s : State) (h : Handed) (inv : Holds u s) where
  words_on : (w : ℕ) → h.job.phase ≡ Words w → (left : ℕ) → 4 * (w + suc left) ≡ h.job.length
      → (x : Before u s h (word ∷ (replicate left word ++ record_slot ∷ last_erase u s))) → s.journal.owed ≡ false → Stored u s h (4 * w) x.working.c
      → Moves u s h
      x.working.c x.working.origin (replicate left word ++ record_slot ∷ last_erase u s)
  unfolding word_before in_phase working_on
  words_on w e zero long x o z =
      word_moving inv w 0 long x Record e (rw (eq-eqb (4 * (w + 1)) h.job.length (omega arith))) (λ q. absurd (let z : ◌≡◌ {A = ℕ} 0 1 = cc in omega arith))
      (record {
        before = word_before inv w 0 long x Record;
        owed = o;
        stored = λ i l. word_there inv w 0 long x Record z i (omega arith);
      })
  words_on w e (suc left) long x o z =
      word_moving inv w (suc left) long x (Words (w + 1)) e
      (rw (ne_eqb (4 * (w + 1)) h.job.length (λ q. omega arith))) (λ q. absurd (let z : ◌≡◌ {A = ℕ} 0 1 = cc in omega arith))
      (record {
        left = left;
        left_is = omega arith;
        before = word_before inv w (suc left) long x (Words (w + 1));
        owed = o;
        stored = word_there inv w (suc left) long x (Words (w + 1)) z;
      })

  pub writing : (w : ℕ) → h.job.phase ≡ Words w → (x : Writing u s h w)
      → Moves u s h
      x.before.working.c x.before.working.origin (replicate x.left word ++ record_slot ∷ last_erase u s)
  writing w e x = words_on w e x.left x.left_is x.before x.owed x.stored
