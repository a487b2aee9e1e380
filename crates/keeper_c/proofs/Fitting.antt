-- The numbers of every job and session that a call hands out fit words, so what the call writes reads back; the four theorems stand at the end.
-- Assumes nothing.
use Prim.Native.Nat.{ℕ, ◌+◌, ◌*◌, ◌^◌, ◌≤◌, ◌<◌}
use mathlib.Core.Path.{◌≡◌, refl, ap, ap₂, ◌∙◌}
use mathlib.Core.Bool.{Bool, true, false, cond}
use mathlib.Core.Option.{Option, none}
use mathlib.Core.List.{List}
use native.Mathlib.Omega.{arith}
use borrow.Author.Tests.{eqb-true, eq-eqb, le-ltb, not-false}
use lib.Dec.{eqb, ltb, lit<}
use lib.ListN.{length, length-append, take}
use Rattle.octets.specs.Octets.{Bytes}
use Rattle.octets.specs.Limits.{key_lengths, nonce_length, tag_length, packet_limit, part_limit, fram_limit}
use Rattle.octets.specs.Word.{word_at}
use Rattle.octets.proofs.Numbers.{length_word, number_lt}
use Rattle.stops.proofs.Laws.{passes, neither}
use Rattle.ring.specs.Ring.{ring_wrong, record_of, page_before, Newest, Blank, Unreadable, At, AtPending, read_ring, newest_page, newest_slot, next_page, newest_record, target_page, target_slot}
use Rattle.ring.proofs.SizeLaws.{Sized, sized}
use Rattle.ring.proofs.TurnLaws.{next_laws, before_laws}
use Rattle.ring.proofs.NewestLaws.{read_within, pending_before}
use Rattle.checkpoint.specs.Checkpoint.{Form, Longer, Checkpoint}
use Rattle.checkpoint.specs.Half.{form_of, stored_packet, good_head, stored}
use Rattle.checkpoint.specs.Layout.{PacketInRange}
use Rattle.checkpoint.proofs.FramLaws.{half_sizes}
use Rattle.checkpoint.proofs.SealedLaws.{head_small, length_own_tag, length_sealed}
use Rattle.checkpoint.proofs.StoredLaws.{packet_small, stored_in_range, stored_small}
use Rattle.protocol.specs.Types.{Phase, EraseFirst, Words, Record, EraseAfter, Done, Origin, Job, Session, this_firmware}
use Rattle.protocol.specs.Calls.{Sizes, from_tag, from_session, SaveArguments, saves, PowersUp, Advances}
use Rattle.protocol.specs.Operations.{key_wrong, nonce_wrong, stale, session_wrong, newest_in, written_number, larger, save_restarts, no_job, begin, job_of, packet_wrong, number_from, restarts_from, previous_tag, save_checkpoint, save_target, ring_lines, resumed, first_phase, save_stop, save, newest_half, newest_checkpoint, half_lines, power_up_stop, power_up, no_session, job_record, session_of, in_phase, Moved, going_on, ended, recorded, erase_follows, after_record, store, advance_stop, advance_by, advance}
use Rattle.protocol.proofs.Saves.{numbered, save_numbered, save_few}
use Rattle.jobs.proofs.AdvanceLaws.{Ready, ready, word_ready}
use Rattle.saves.proofs.Laws.{right_tag, buffers_passed}
use Rattle.job_bytes.specs.Bytes.{session_length, phase_place, no_job_in, job_bytes, session_bytes, job_in, session_in}
use Rattle.job_bytes.proofs.BytesLaws.{session_tag, job_lengths}
use Rattle.job_bytes.proofs.ReadBack.{FitsJob, FitsSession, job_back, session_long, session_back}
use Rattle.keeper_c.specs.Calls.{from_in, saves_in, advances_in}

-- what holds of both branches holds of the one taken
either : {A : Type 0} (P : A → Type 0) (b : Bool) (x y : A) → P x → (b ≡ false → P y) → P (cond b x y)
either P true x y p q = p
either P false x y p q = q refl

-- ---- restarts and packet numbers

small : (form : Form) (packet : ℕ) → PacketInRange form packet → packet < 2 ^ 32
small form packet n = omega (arith, packet_small form packet n)

few : (form : Form) (packet : ℕ) (z : Session) → session_wrong form z ≡ false → save_restarts form packet z.packet z.restarts < 2 ^ 32
few form packet z e = omega (arith, save_few form packet z e)

passes_18 : (packet : ℕ) → packet ≤ packet_limit → packet_wrong Longer packet ≡ false
unfolding packet_wrong
passes_18 packet l = le-ltb packet_limit packet l

word_small : (b : List ℕ) (i : ℕ) → Bytes b → word_at b i < 2 ^ 32
unfolding word_at
word_small b i h = number_lt b i 4 h

-- those of a job that is read from bytes are words
job_numbers_by : (b : List ℕ) → Bytes b → (none : Bool) → no_job_in b ≡ none → ((job_in b).restarts < 2 ^ 32) × ((job_in b).packet < 2 ^ 32)
unfolding job_in no_job
job_numbers_by b h true e = rw e (lit< tt, lit< tt)
job_numbers_by b h false e = rw e (word_small b 56 h, word_small b 60 h)

job_numbers : (b : List ℕ) → Bytes b → ((job_in b).restarts < 2 ^ 32) × ((job_in b).packet < 2 ^ 32)
job_numbers b h = job_numbers_by b h (no_job_in b) refl

-- ---- the job of a start

module _ (key : List ℕ) (c : Checkpoint) (phase : Phase) (origin : Origin) (half page slot : ℕ) where
  made_fits : length c.previous ≡ tag_length → length c.open_part ≤ part_limit → length c.secret ≤ part_limit → length c.nonce ≡ nonce_length
      → phase_place phase < 2 ^ 32 → half < 2 ^ 32 → page < 2 ^ 32 → slot < 2 ^ 32 → c.restarts < 2 ^ 32 → c.packet < 2 ^ 32 → FitsJob (job_of key c phase origin half page slot)
  unfolding job_of
  made_fits p o s n w h g t r k =
      let l = length_sealed key c p in
      let m = head_small c.form in
      record { place = w; half = h; long = omega (arith, l, m); page = g; slot = t; nonce = n; tag = length_own_tag key c; restarts = r; packet = k }

begun_fits : (S : Option ℕ) (key : List ℕ) (c : Checkpoint) (j : Job) (staging state secret : List ℕ) → S ≡ none → FitsJob j → FitsJob (begin S key c j staging state secret).job
unfolding begin
begun_fits S key c j staging state secret e f = rw e f

-- the next target, and the page that is erased first
module _ (pages slots : ℕ) (ring : List ℕ) (w : ring_wrong pages slots ring ≡ false) where
  abbrev read : Newest
  read = read_ring ring pages slots

  abbrev size : Sized pages slots ring
  size = sized pages slots ring w

  page_fits : target_page pages slots read < 2 ^ 32
  unfolding target_page
  page_fits =
      let at = read_within pages slots ring w in
      let few = size.numbers.few_pages in
      let on = (next_laws pages (newest_page read) size.numbers.some_pages at.page_in).in_ring in
      either (λ (n : ℕ). n < 2 ^ 32) (ltb (newest_slot read + 1) slots) (newest_page read) (next_page pages (newest_page read)) (omega arith) (λ _. omega arith)

  slot_fits : target_slot slots read < 2 ^ 32
  unfolding target_slot
  slot_fits =
      let at = read_within pages slots ring w in
      let few = size.numbers.few_slots in
      either (λ (n : ℕ). n < 2 ^ 32) (ltb (newest_slot read + 1) slots) (newest_slot read + 1) 0 (omega arith) (λ _. omega arith)

  phase_fits : (n : Newest) → read_ring ring pages slots ≡ n → phase_place (first_phase n) < 2 ^ 32
  unfolding first_phase
  phase_fits Blank e = lit< tt
  phase_fits Unreadable e = lit< tt
  phase_fits (At p s) e = lit< tt
  phase_fits (AtPending p q) e =
      let few = size.numbers.few_pages in
      let in_ring = (pending_before pages slots ring w p q e).0 in
      omega arith

module _ (ring fram : List ℕ) where
  first_fits : (a : SaveArguments) (tag : List ℕ) → save_stop this_firmware ring fram (saves a (from_tag tag)) ≡ none → FitsJob (save this_firmware ring fram (saves a (from_tag tag))).job
  unfolding save save_checkpoint number_from restarts_from previous_tag save_target
  first_fits a tag e =
      let b = buffers_passed ring fram a (from_tag tag) e in
      let l = b.lengths_right in
      begun_fits (save_stop this_firmware ring fram (saves a (from_tag tag))) _ _ _ _ _ _ e
      (made_fits _ _ _ _ 0 0 0 (right_tag tag b.from_right) l.open_part l.secret l.nonce (lit< tt) (lit< tt) (lit< tt) (lit< tt) (lit< tt)
      (small Longer (written_number Longer a.packet) (numbered Longer a.packet (passes_18 a.packet l.packet))))

  next_fits : (a : SaveArguments) (s : Session) → length s.tag ≡ tag_length → save_stop this_firmware ring fram (saves a (from_session s)) ≡ none
      → FitsJob (save this_firmware ring fram (saves a (from_session s))).job
  unfolding save save_checkpoint number_from restarts_from previous_tag save_target save_stop ring_lines
  next_fits a s t e =
      let z = a.sizes in
      let b = buffers_passed ring fram a (from_session s) e in
      let l = b.lengths_right in
      let y = neither (stale ring z.slots (newest_in ring z) s) (session_wrong Longer s) (passes _ e).1.1.1.1.1.1.1.0 in
      begun_fits (save_stop this_firmware ring fram (saves a (from_session s))) _ _ _ _ _ _ e
      (made_fits _ _ _ _ _ _ _ t l.open_part l.secret l.nonce (lit< tt) (omega arith)
      (page_fits z.pages z.slots ring b.ring_right) (slot_fits z.pages z.slots ring b.ring_right)
      (few Longer a.packet s y.1)
      (small Longer (written_number Longer (larger s.packet a.packet)) (save_numbered Longer a.packet s (passes_18 a.packet l.packet) y.1)))

  -- with what is read from any buffer
  save_fits : (a : SaveArguments) (b : List ℕ) (whole : Bool) → eqb (length b) session_length ≡ whole
      → (let from = cond whole (from_session (session_in b)) (from_tag b) in
      save_stop this_firmware ring fram (saves a from) ≡ none → FitsJob (save this_firmware ring fram (saves a from)).job)
  save_fits a b true f e = next_fits a (session_in b) (session_tag b (eqb-true (length b) session_length f)) e
  save_fits a b false f e = first_fits a b e

  power_up_fits : (a : PowersUp) → power_up_stop this_firmware ring fram a ≡ none → FitsJob (power_up this_firmware ring fram a).job
  unfolding power_up newest_checkpoint resumed half_lines power_up_stop stored
  power_up_fits a e =
      let z = a.sizes in
      let n = read_ring ring z.pages z.slots in
      let half = newest_half ring fram z.slots n in
      let p = passes _ e in
      let k = neither (key_wrong key_lengths (length a.key)) (nonce_wrong (length a.nonce)) p.1.1.0 in
      let good = not-false (good_head part_limit (form_of half) half) p.1.1.1.1.1.1.0 in
      let old = stored_in_range part_limit (form_of half) a.key (take nonce_length (newest_record ring z.slots n)) half good in
      let parts = stored_small part_limit (form_of half) a.key (take nonce_length (newest_record ring z.slots n)) half good in
      begun_fits (power_up_stop this_firmware ring fram a) _ _ _ _ _ _ e
      (made_fits _ _ _ _ _ _ _ (length_own_tag a.key _) parts.0 parts.1 (eqb-true (length a.nonce) nonce_length (not-false _ k.1))
      (phase_fits z.pages z.slots ring p.0 n refl) (omega arith) (page_fits z.pages z.slots ring p.0) (slot_fits z.pages z.slots ring p.0)
      (omega (arith, old.restarts_small)) (small (form_of half) (stored_packet (form_of half) half) old.packet_small))

-- ---- the job and the session of an advance

abbrev Fits : Moved → Type 0
Fits m = FitsJob m.job × FitsSession m.session

no_session_fits : FitsSession no_session
unfolding no_session
no_session_fits = record { page = lit< tt; slot = lit< tt; latest = refl; tag = refl; restarts = lit< tt; packet = lit< tt }

module _ (ring fram : List ℕ) (a : Advances) (nonce : length a.job.nonce ≡ nonce_length) (tag : length a.job.tag ≡ tag_length)
    (restarts : a.job.restarts < 2 ^ 32) (packet : a.job.packet < 2 ^ 32) (e : advance_stop this_firmware ring fram a ≡ none) where
  abbrev r : Ready a.job a.sizes ring fram a.staging
  r = ready ring fram a e

  abbrev ringed : Sized a.sizes.pages a.sizes.slots ring
  ringed = sized a.sizes.pages a.sizes.slots ring r.ring_right

  moved_fits : (p : Phase) → phase_place p < 2 ^ 32 → FitsJob (in_phase a.job p)
  unfolding in_phase
  moved_fits p w =
      let n = r.numbers in
      let z = ringed.numbers in
      let h = half_sizes fram_limit fram r.fram_right in
      record { place = w; half = omega arith; long = omega arith; page = omega arith; slot = omega arith; nonce = nonce; tag = tag; restarts = restarts; packet = packet }

  new_session_fits : FitsSession (session_of a.job)
  unfolding session_of job_record record_of
  new_session_fits =
      let n = r.numbers in
      let z = ringed.numbers in
      record {
        page = omega arith;
        slot = omega arith;
        latest = length-append a.job.nonce _ ∙ ap₂ (λ (x y : ℕ). x + y) nonce (length_word 1 a.job.half);
        tag = tag;
        restarts = restarts;
        packet = packet;
      }

  goes_on : (p : Phase) (ring' fram' : List ℕ) → phase_place p < 2 ^ 32 → Fits (going_on a.job p ring' fram')
  unfolding going_on
  goes_on p ring' fram' w = (moved_fits p w, no_session_fits)

  ends : (ring' fram' : List ℕ) → Fits (ended a.job ring' fram')
  unfolding ended
  ends ring' fram' = (moved_fits Done (lit< tt), new_session_fits)

  store_fits : (p : Phase) → a.job.phase ≡ p → Fits (store p ring fram a)
  unfolding store after_record
  store_fits (EraseFirst p) t = goes_on (Words 0) _ _ (lit< tt)
  store_fits (Words w) t =
      let n = r.numbers in
      let h = half_sizes fram_limit fram r.fram_right in
      let l = word_ready r w t in
      goes_on _ _ _ (either (λ (p : Phase). phase_place p < 2 ^ 32) (eqb (4 * (w + 1)) a.job.length) Record (Words (w + 1)) (lit< tt) (λ _. omega arith))
  store_fits Record t =
      let z = ringed.numbers in
      let new = recorded ring a.sizes.slots a.job in
      let before = (before_laws a.sizes.pages a.job.page z.some_pages r.numbers.page).in_ring in
      either Fits (erase_follows new a.sizes a.job) (going_on a.job (EraseAfter (page_before a.sizes.pages a.job.page)) new fram) (ended a.job new fram)
      (goes_on _ new fram (omega arith)) (λ _. ends new fram)
  store_fits (EraseAfter p) t = ends _ fram
  store_fits Done t = ends ring fram

  advance_fits : Fits (advance this_firmware ring fram a)
  unfolding advance advance_by
  advance_fits = rw e (store_fits a.job.phase refl)

-- ---- what the calls write reads back

module _ (ring fram : List ℕ) where
  -- the bytes of the job that a save hands out are read as that job, whatever buffer it was given to follow
  pub save_back : (a : SaveArguments) (from : List ℕ) → save_stop this_firmware ring fram (saves_in a from) ≡ none
      → job_in (job_bytes (save this_firmware ring fram (saves_in a from)).job) ≡ (save this_firmware ring fram (saves_in a from)).job
  unfolding from_in
  save_back a from e = job_back _ (save_fits ring fram a from (eqb (length from) session_length) refl e)

  -- those of a power-up's job
  pub power_up_back : (a : PowersUp) → power_up_stop this_firmware ring fram a ≡ none → job_in (job_bytes (power_up this_firmware ring fram a).job) ≡ (power_up this_firmware ring fram a).job
  power_up_back a e = job_back _ (power_up_fits ring fram a e)

  -- a job buffer holds bytes
  module _ (z : Sizes) (job staging : List ℕ) (b : Bytes job) (e : advance_stop this_firmware ring fram (advances_in z job staging) ≡ none) where
    both_fit : Fits (advance this_firmware ring fram (advances_in z job staging))
    both_fit = let l = job_lengths job in let k = job_numbers job b in advance_fits ring fram (advances_in z job staging) l.0 l.1 k.0 k.1 e

    -- those of the job that an advance has moved on, read from any buffer
    pub advance_job_back : job_in (job_bytes (advance this_firmware ring fram (advances_in z job staging)).job) ≡ (advance this_firmware ring fram (advances_in z job staging)).job
    advance_job_back = job_back _ both_fit.0

    -- a save that is given the bytes of the session which it answers follows that session; at 'going on' they are not written
    pub advance_session_back : from_in (session_bytes (advance this_firmware ring fram (advances_in z job staging)).session) ≡ from_session (advance this_firmware ring fram (advances_in z job staging)).session
    unfolding from_in
    advance_session_back = rw (eq-eqb _ session_length (session_long _ both_fit.1)) (ap from_session (session_back _ both_fit.1))
