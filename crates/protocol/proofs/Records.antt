-- What the record of a draft leaves: the draft's checkpoint is the newest.
use Prim.Native.Nat.{ℕ, ◌+◌, ◌-◌, ◌*◌, ◌%◌}
use mathlib.Core.Path.{◌≡◌, refl, sym, ap, subst, ◌∙◌}
use mathlib.Core.Bool.{Bool, true, false, not, cond, ◌&&◌}
use mathlib.Core.Logic.{◌⊎◌, inl, inr}
use mathlib.Core.Option.{Option, some}
use mathlib.Core.List.Memᴰ
use mathlib.Core.List.{List, [], ◌∷◌, ◌++◌, Memᴰ}
use native.Mathlib.Omega.{arith}
use native.Mathlib.Nat.{zero-div, zero-mod, add-sub_cancel}
use lib.ListN.{length, take, get_or}
use lib.Dec.{eqb, ltb}
use borrow.Author.Tests.{lt-ltb}
use Rattle.octets.specs.Limits.{slot_length, nonce_length}
use Rattle.octets.specs.Octets.{blank}
use Rattle.octets.proofs.Laws.{Written}
use Rattle.ring.proofs.StoreLaws.{slot_blank, before_first}
use Rattle.ring.specs.Ring.{record_put, page_at, slot_at, is_record, ring_wrong, page_before, record_of}
use Rattle.ring.proofs.RingLaws.{Ringed, page_of, slot_of, last, joined, target_is_blank, record_next, record_first}
use Rattle.ring.proofs.SizeLaws.{sized}
use Rattle.ring.proofs.RecordLaws.{is_record_of, length_record, nonce_of_record}
use Rattle.checkpoint.specs.Checkpoint.{Form, Checkpoint, sealed}
use Rattle.checkpoint.specs.Half.{Reads}
use Rattle.checkpoint.proofs.HalfLaws.{reads_own}
use Rattle.checkpoint.specs.Fram.{half_length}
use Rattle.protocol.specs.Types.{Session, Phase, Record, EraseAfter, Done}
use Rattle.protocol.specs.Calls.{Setup}
use Rattle.protocol.specs.Operations.{Moved, job_record, session_of, in_phase, phase_wrong, going_on, ended, recorded, erase_follows, after_record, store, advance}
use Rattle.protocol.specs.Journal.{Journal, Draft, Store, erase, erase_if, to_come, made, advanced}
use Rattle.protocol.specs.History.{State, Handed}
use Rattle.protocol.proofs.Facts.{no_fact}
use Rattle.protocol.proofs.Invariant.{ReadBy, draft_of, Good, session_in, half_of, page_in, slot_in, DurableAt, Recorded, Durable, Working, last_erase, Recording, Matches, Holds, Moving}
use Rattle.protocol.proofs.Advances.{Moves, call, after, advance_stores, after_going, after_ended, working_on, doing_of}

last_snoc : (rs : List (List ℕ)) (r : List ℕ) → last (rs ++ r ∷ []) ≡ r
last_snoc [] r = refl
last_snoc (q ∷ []) r = refl
last_snoc (q ∷ p ∷ rs) r = last_snoc (p ∷ rs) r

last_joined : (b : Bool) (rs : List (List ℕ)) (r : List ℕ) → last (joined b rs r) ≡ r
last_joined true rs r = refl
last_joined false rs r = last_snoc rs r

known_joined : (P : List ℕ → Type 0) (b : Bool) (rs : List (List ℕ)) (r : List ℕ) → ((q : List ℕ) → Memᴰ q rs → P q) → P r
    → (q : List ℕ) → Memᴰ q (joined b rs r) → P q
known_joined P true rs r f x q m = subst P (sym (Memᴰ.eq_of_singleton m)) x
known_joined P false rs r f x q m = go (Memᴰ.append_cases rs m)
  where
    go : Memᴰ q rs ⊎ Memᴰ q (r ∷ []) → P q
    go (inl n) = f q n
    go (inr n) = subst P (sym (Memᴰ.eq_of_singleton n)) x

abbrev pub record_at : ℕ → ℕ → List ℕ → ℕ → List ℕ → List ℕ
record_at pages slots ring count r = record_put ring slots (page_of pages slots (count + 1)) (slot_of slots (count + 1)) r

-- whether the page before is to be erased after the record
abbrev pub full : ℕ → ℕ → Bool
full slots count = ltb 0 count && eqb (count % slots) 0

-- the test that an advance makes after the record
abbrev pub erase_test : ℕ → ℕ → List ℕ → ℕ → Bool
erase_test pages slots ring count =
    eqb (slot_of slots (count + 1)) 0 && not (blank (page_at ring slots (page_before pages (page_of pages slots (count + 1)))))

pub record NewRing (pages slots : ℕ) (ring : List ℕ) (count : ℕ) (r : List ℕ) (P : List ℕ → Type 0) : Type 0 where
  pub recs : List (List ℕ)
  pub ringed : Ringed pages slots (record_at pages slots ring count r) (count + 1) (full slots count) recs
  pub latest : last recs ≡ r
  pub known : (q : List ℕ) → Memᴰ q recs → P q
  pub test : erase_test pages slots (record_at pages slots ring count r) count ≡ full slots count

and_test : (a b c : Bool) → a ≡ b → (b ≡ true → c ≡ false) → a && not c ≡ b
and_test true b c e f = rw (f (sym e)) e
and_test false b c e f = e

module _ (pages slots : ℕ) (ring : List ℕ) (count : ℕ) (r : List ℕ) (P : List ℕ → Type 0) (long : length r ≡ slot_length) (is : is_record r ≡ true) (p : P r) where
  pub next_ring : (recs : List (List ℕ)) → Ringed pages slots ring count false recs → ((q : List ℕ) → Memᴰ q recs → P q) → NewRing pages slots ring count r P
  next_ring recs h f =
      let some_before : ltb 0 count ≡ true = lt-ltb 0 count h.some_record in
      let x = record_next pages slots ring count recs r h long is in
      record {
        recs = joined (eqb (count % slots) 0) recs r;
        ringed = rw some_before x;
        latest = last_joined (eqb (count % slots) 0) recs r;
        known = known_joined P (eqb (count % slots) 0) recs r f p;
        test = rw some_before (and_test (eqb (slot_of slots (count + 1)) 0) (eqb (count % slots) 0)
            (blank (page_at (record_at pages slots ring count r) slots (page_before pages (page_of pages slots (count + 1)))))
            (ap (λ (n : ℕ). eqb (n % slots) 0) (add-sub_cancel count 1)) (λ e. (x.pending e).1));
      }

first_ring_at : (pages slots : ℕ) (ring r : List ℕ) (P : List ℕ → Type 0) → length r ≡ slot_length → is_record r ≡ true → P r
    → ring_wrong pages slots ring ≡ false → blank ring ≡ true → NewRing pages slots ring 0 r P
first_ring_at pages slots ring r P long is p w b =
    record {
      recs = r ∷ [];
      ringed = rw (page_0, slot_0) x;
      latest = refl;
      known = λ q m. subst P (sym (Memᴰ.eq_of_singleton m)) p;
      test = rw (page_0, slot_0, before_first pages, last_page);
    }
  where
    page_0 : page_of pages slots 1 ≡ 0
    page_0 = rw (zero-div slots) (zero-mod pages)

    slot_0 : slot_of slots 1 ≡ 0
    slot_0 = zero-mod slots

    x : Ringed pages slots (record_put ring slots 0 0 r) 1 false (r ∷ [])
    x = record_first pages slots ring r w b long is

    last_page : blank (page_at (record_put ring slots 0 0 r) slots (pages - 1)) ≡ true
    last_page =
        let z = (sized pages slots ring w).numbers in
        x.others (pages - 1) (omega arith) (λ e. omega (arith, e, page_0)) (λ y. no_fact (sym y.1))

pub first_ring : (pages slots : ℕ) (ring : List ℕ) (count : ℕ) (r : List ℕ) (P : List ℕ → Type 0) → length r ≡ slot_length → is_record r ≡ true → P r
    → count ≡ 0 → ring_wrong pages slots ring ≡ false → blank ring ≡ true → NewRing pages slots ring count r P
first_ring pages slots ring count r P long is p e w b = subst (λ (n : ℕ). NewRing pages slots ring n r P) (sym e) (first_ring_at pages slots ring r P long is p w b)

-- ---- the draft's record

module _ {u : Setup} {ring fram : List ℕ} {nonces : List (List ℕ)} {entry : Option Checkpoint} {count power_ups : ℕ} {c : Checkpoint}
    (right : ring_wrong u.sizes.pages u.sizes.slots ring ≡ false) (good : Good c (half_length fram)) (mine : Memᴰ c.nonce nonces) where
  new_ring : Durable u ring fram nonces entry count false power_ups
      → NewRing u.sizes.pages u.sizes.slots ring count (record_of c.nonce (half_of (count + 1))) (λ (r : List ℕ). Memᴰ (take nonce_length r) nonces)
  new_ring (inl x) = first_ring u.sizes.pages u.sizes.slots ring count (record_of c.nonce (half_of (count + 1))) (λ (r : List ℕ). Memᴰ (take nonce_length r) nonces)
      (length_record c.nonce (half_of (count + 1)) good.nonce_long) (is_record_of c.nonce (half_of (count + 1)) good.nonce_long (omega arith))
      (rw (nonce_of_record c.nonce (half_of (count + 1)) good.nonce_long) mine) x.no_record right x.ring_blank
  new_ring (inr (d, x)) = next_ring u.sizes.pages u.sizes.slots ring count (record_of c.nonce (half_of (count + 1))) (λ (r : List ℕ). Memᴰ (take nonce_length r) nonces)
      (length_record c.nonce (half_of (count + 1)) good.nonce_long) (is_record_of c.nonce (half_of (count + 1)) good.nonce_long (omega arith))
      (rw (nonce_of_record c.nonce (half_of (count + 1)) good.nonce_long) mine) x.recs x.ringed x.known

  pub record_durable : {power_ups' : ℕ} → Durable u ring fram nonces entry count false power_ups
      → Written fram (half_of (count + 1) * half_length fram) (length (sealed u.key c)) (sealed u.key c) → power_ups' ≡ c.restarts
      → Recorded u (record_at u.sizes.pages u.sizes.slots ring count (record_of c.nonce (half_of (count + 1)))) fram nonces
      (some c) (count + 1) (full u.sizes.slots count) power_ups' c
  record_durable d w r =
      let x = new_ring d in
      record { entry_is = refl; recs = x.recs; ringed = x.ringed; latest = x.latest; good = good; restarts_are = r; there = w; known = x.known }

  pub record_test : Durable u ring fram nonces entry count false power_ups
      → erase_test u.sizes.pages u.sizes.slots (record_at u.sizes.pages u.sizes.slots ring count (record_of c.nonce (half_of (count + 1)))) count ≡ full u.sizes.slots count
  record_test d = (new_ring d).test

-- the slot of the next record is blank
pub next_slot_blank : {u : Setup} {ring fram : List ℕ} {nonces : List (List ℕ)} {entry : Option Checkpoint} {count power_ups : ℕ} → Durable u ring fram nonces entry count false power_ups
    → blank (slot_at ring u.sizes.slots (page_in u (count + 1)) (slot_in u (count + 1))) ≡ true
next_slot_blank {u} {ring} {count = count} (inl x) =
    slot_blank ring u.sizes.slots (page_in u (count + 1)) (slot_in u (count + 1)) x.ring_blank
next_slot_blank {u} {ring} {count = count} (inr (c, x)) = target_is_blank u.sizes.pages u.sizes.slots ring count x.recs x.ringed

-- ---- the sessions with the one handed out at the end

pub session_nonce : {u : Setup} {s : State} {h : Handed} {n : ℕ} {stores : List Store} (w : Working u s h n stores) → take nonce_length (session_of h.job).latest ≡ w.c.nonce
unfolding session_of job_record
session_nonce {h = h} w = rw w.nonce_is (nonce_of_record w.c.nonce h.job.half w.good.nonce_long)

module _ {u : Setup} {s : State} {h : Handed} {n : ℕ} {stores : List Store} (w : Working u s h n stores) where
  pub session_is : session_of h.job ≡ session_in u n w.c
  unfolding session_of job_record
  session_is = λ i. record { page = w.page_is i; slot = w.slot_is i; latest = record_of (w.nonce_is i) (w.half_is i); tag = w.tag_is i; restarts = w.restarts_is i; packet = w.packet_is i }

  pub more_known : ((z : Session) → Memᴰ z s.sessions → Memᴰ (take nonce_length z.latest) s.nonces)
      → (z : Session) → Memᴰ z (session_of h.job ∷ s.sessions) → Memᴰ (take nonce_length z.latest) s.nonces
  more_known f z m = go (Memᴰ.cases_cons m)
    where
      go : (z ≡ session_of h.job) ⊎ Memᴰ z s.sessions → Memᴰ (take nonce_length z.latest) s.nonces
      go (inl e) = subst (λ (y : Session). Memᴰ (take nonce_length y.latest) s.nonces) (sym e) (rw (session_nonce w) w.nonce_known)
      go (inr k) = f z k

  pub more_match : ((z : Session) → Memᴰ z s.sessions → take nonce_length z.latest ≡ w.c.nonce → Matches u z w.c)
      → (z : Session) → Memᴰ z (session_of h.job ∷ s.sessions) → (c : Checkpoint) → ◌≡◌ {A = Option Checkpoint} (some w.c) (some c)
      → take nonce_length z.latest ≡ c.nonce → Matches u z c
  unfolding session_of
  more_match f z m c e = let q : w.c ≡ c = cc in subst (λ (y : Checkpoint). take nonce_length z.latest ≡ y.nonce → Matches u z y) q (go (Memᴰ.cases_cons m))
    where
      go : (z ≡ session_of h.job) ⊎ Memᴰ z s.sessions → take nonce_length z.latest ≡ w.c.nonce → Matches u z w.c
      go (inl e) l = (ap (λ (y : Session). y.tag) e ∙ w.tag_is, ap (λ (y : Session). y.restarts) e ∙ w.restarts_is, ap (λ (y : Session). y.packet) e ∙ w.packet_is)
      go (inr k) l = f z k l

-- ---- the advance

pub recorded_is : {u : Setup} {s : State} {h : Handed} {stores : List Store} (w : Working u s h (s.journal.count + 1) stores)
    → recorded s.ring u.sizes.slots h.job ≡ record_at u.sizes.pages u.sizes.slots s.ring s.journal.count (record_of w.c.nonce (half_of (s.journal.count + 1)))
unfolding recorded job_record
recorded_is w = rw (w.page_is, w.slot_is, w.nonce_is, w.half_is)

module _ {u : Setup} {s : State} {h : Handed} (inv : Holds u s) (x : Recording u s h) where
  abbrev new : List ℕ
  new = record_at u.sizes.pages u.sizes.slots s.ring s.journal.count (record_of x.before.working.c.nonce (half_of (s.journal.count + 1)))

  pub owing : DurableAt u s s.ring s.fram false
  owing = subst (λ (b : Bool). DurableAt u s s.ring s.fram b) x.owed inv.durable

  pub recorded_durable : Recorded u new s.fram s.nonces (some x.before.working.c) (s.journal.count + 1) (full u.sizes.slots s.journal.count)
      x.before.working.c.restarts x.before.working.c
  recorded_durable =
      record_durable inv.ring_right x.before.working.good x.before.working.nonce_known owing there refl
    where
      there : Written s.fram (half_of (s.journal.count + 1) * half_length s.fram) (length (sealed u.key x.before.working.c)) (sealed u.key x.before.working.c)
      there k l =
          subst (λ (y : ℕ). get_or s.fram (y * half_length s.fram + k) 0 ≡ get_or (sealed u.key x.before.working.c) k 0) x.before.working.half_is
          (x.stored k (rw x.before.working.length_is l))

  after_record_is : after_record s.ring s.fram u.sizes h.job
      ≡ cond (full u.sizes.slots s.journal.count)
      (going_on h.job (EraseAfter (page_before u.sizes.pages (page_in u (s.journal.count + 1)))) new s.fram) (ended h.job new s.fram)
  unfolding after_record erase_follows
  after_record_is = (λ i. F (p i) (q i) (r i)) ∙ ap (λ (b : Bool). cond b going stop) test
    where
      F : List ℕ → ℕ → ℕ → Moved
      F ring page slot = cond (eqb slot 0 && not (blank (page_at ring u.sizes.slots (page_before u.sizes.pages page))))
          (going_on h.job (EraseAfter (page_before u.sizes.pages page)) ring s.fram) (ended h.job ring s.fram)

      p : recorded s.ring u.sizes.slots h.job ≡ new
      p = recorded_is x.before.working

      q : h.job.page ≡ page_in u (s.journal.count + 1)
      q = x.before.working.page_is

      r : h.job.slot ≡ slot_in u (s.journal.count + 1)
      r = x.before.working.slot_is

      going : Moved
      going = going_on h.job (EraseAfter (page_before u.sizes.pages (page_in u (s.journal.count + 1)))) new s.fram

      stop : Moved
      stop = ended h.job new s.fram

      test : erase_test u.sizes.pages u.sizes.slots new s.journal.count ≡ full u.sizes.slots s.journal.count
      test = record_test inv.ring_right x.before.working.good x.before.working.nonce_known owing

  -- the journal with the draft recorded
  abbrev journal_with : Bool → Journal
  journal_with b = record {
    entry = some x.before.working.c;
    count = s.journal.count + 1;
    owed = to_come (erase_if b);
    power_ups = x.before.working.c.restarts;
    draft = some (draft_of x.before.working.c x.before.working.origin (erase_if b));
  }

  journal_is : advanced s.journal s.journal.draft ≡ journal_with (full u.sizes.slots s.journal.count)
  unfolding advanced made
  journal_is = ap (λ (d : Option Draft). advanced s.journal d) x.before.working.draft_is

  target_fits : phase_wrong Record h.job u.sizes s.ring ≡ false
  unfolding phase_wrong
  target_fits = rw (
    x.before.working.page_is,
    x.before.working.slot_is,
    next_slot_blank owing,
  )

  recording_moves : h.job.phase ≡ Record → (b : Bool) → full u.sizes.slots s.journal.count ≡ b → advance s.firmware s.ring s.fram (call u h)
      ≡ cond b (going_on h.job (EraseAfter (page_before u.sizes.pages (page_in u (s.journal.count + 1)))) new s.fram) (ended h.job new s.fram)
  unfolding store
  recording_moves e b f =
      advance_stores inv x.before.working Record e target_fits
      ∙ after_record_is
      ∙ ap (λ (b : Bool). cond b (going_on h.job (EraseAfter (page_before u.sizes.pages (page_in u (s.journal.count + 1)))) new s.fram)
      (ended h.job new s.fram)) f

  recorded_now : (b : Bool) → full u.sizes.slots s.journal.count ≡ b
      → Recorded u new s.fram s.nonces (some x.before.working.c) (s.journal.count + 1) b x.before.working.c.restarts x.before.working.c
  recorded_now b f = subst (λ (b : Bool). Recorded u new s.fram s.nonces (some x.before.working.c) (s.journal.count + 1) b
      x.before.working.c.restarts x.before.working.c) f recorded_durable

  -- no session handed out before is of the record's nonce
  pub none_match : (z : Session) → Memᴰ z s.sessions → (c : Checkpoint) → ◌≡◌ {A = Option Checkpoint} (some x.before.working.c) (some c)
      → take nonce_length z.latest ≡ c.nonce → Matches u z c
  none_match z m c e l = absurd (x.before.unlike z m (let q : x.before.working.c ≡ c = cc in l ∙ ap (λ (y : Checkpoint). y.nonce) (sym q)))

  -- the firmware reads what it wrote
  pub now_reads : (c : Checkpoint) → ◌≡◌ {A = Option Checkpoint} (some x.before.working.c) (some c) → ReadBy s.firmware c
  now_reads c e =
      let q : x.before.working.c ≡ c = cc in
      subst (λ (y : Checkpoint). ReadBy s.firmware y) q (subst (λ (f : Form). Reads s.firmware.form f) (sym x.before.working.form_is) (reads_own s.firmware.form), x.before.working.small)

  recording_go : h.job.phase ≡ Record → (b : Bool) → full u.sizes.slots s.journal.count ≡ b
      → Moves u s h x.before.working.c x.before.working.origin (erase_if b)
  unfolding erase_if to_come in_phase working_on
  recording_go e true f =
      after_going u s h (λ t a. Moving u t a x.before.working.c x.before.working.origin (erase ∷ [])) phase new s.fram (journal_with true)
      (recording_moves e true f) (journal_is ∙ ap (λ (b : Bool). journal_with b) f)
      (record {
        holds = record {
          ring_right = (recorded_now true f).ringed.sizes;
          fram_right = inv.fram_right;
          durable = inr (x.before.working.c, recorded_now true f);
          sessions_known = inv.sessions_known;
          sessions_match = none_match;
          reads_entry = now_reads;
          doing = doing_of u t k refl (record {
            working = working_on t (erase ∷ []) phase x.before.working refl refl refl refl;
            recorded = refl;
            owed = refl;
            page_is = refl;
          });
        };
        answered = refl;
        draft_is = refl;
        handed = k;
        handed_is = refl;
        ended = λ q. absurd (let z : ◌≡◌ {A = ℕ} 0 1 = cc in omega arith);
      })
    where
      phase : Phase
      phase = EraseAfter (page_before u.sizes.pages (page_in u (s.journal.count + 1)))

      k : Handed
      k = record { job = in_phase h.job phase; staging = h.staging }

      t : State
      t = after s h phase new s.fram s.sessions (journal_with true)
  recording_go e false f =
      after_ended u s h (λ t a. Moving u t a x.before.working.c x.before.working.origin []) x.before.working.origin new s.fram (journal_with false) x.before.working.origin_is
      (recording_moves e false f) (journal_is ∙ ap (λ (b : Bool). journal_with b) f)
      (record {
        holds = record {
          ring_right = (recorded_now false f).ringed.sizes;
          fram_right = inv.fram_right;
          durable = inr (x.before.working.c, recorded_now false f);
          sessions_known = more_known x.before.working inv.sessions_known;
          sessions_match = more_match x.before.working (λ z m l. none_match z m x.before.working.c refl l);
          reads_entry = now_reads;
          doing = doing_of u t k refl (d, refl, refl);
        };
        answered = refl;
        draft_is = refl;
        handed = k;
        handed_is = refl;
        ended = λ q. record { entry = refl; owed = refl; earlier = s.sessions; session = λ i. session_is x.before.working i ∷ s.sessions };
      })
    where
      d : Draft
      d = draft_of x.before.working.c x.before.working.origin []

      k : Handed
      k = record { job = in_phase h.job Done; staging = h.staging }

      t : State
      t = after s h Done new s.fram (session_of h.job ∷ s.sessions) (journal_with false)

  pub recording : h.job.phase ≡ Record
      → Moves u s h x.before.working.c x.before.working.origin (last_erase u s)
  recording e = recording_go e (full u.sizes.slots s.journal.count) refl
