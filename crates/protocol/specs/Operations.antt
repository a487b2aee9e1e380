-- What each operation answers and leaves in the lent buffers (document 01, "What the unit calls" and "Stops, by the place of checking", and document 02, A.2 and A.5 to A.8).
-- A stop is the number of the first condition that holds, in a list with a line for each row of the papers that names the operation: rising, but
-- 18 comes right after 4, and a power-up's second 4 last (A.2), from A.6 on right after 10, which then goes behind 13.
-- `firmware` is the unit's, and `form` that of the heads which it writes: at `first_firmware` these are document 01's operations (Older.antt), and the
-- code's promises are at `this_firmware`. Save is A.7's one; that it is both of the entries before it is in Entries.antt.
use Rattle.std.specs.Prelude.{ℕ, ◌+◌, ◌-◌, ◌*◌, ◌%◌, Bool, true, false, not, cond, ◌&&◌, ◌||◌, List, [], ◌∷◌, ◌++◌, length, take, replicate, eqb, leb, ltb}
use Rattle.std.proofs.Math.Option.{Option, none, some}
use Rattle.octets.specs.Limits.{slot_length, restart_limit, packet_limit, nonce_length, tag_length}
use Rattle.octets.specs.Octets.{part, put, blank}
use Rattle.stops.specs.Stops.{first_of}
pub use Rattle.gcm.specs.Calls.{key_wrong, nonce_wrong, tag_wrong}
use Rattle.ring.specs.Ring.{Newest, Blank, Unreadable, At, AtPending, ring_wrong, slot_at, page_at, record_of, half_named, page_before, read_ring, is_blank, is_unreadable, is_pending, newest_record, not_newest, nonce_used, target_page, target_slot, page_erased, record_put}
use Rattle.checkpoint.specs.Fram.{fram_wrong, half_length, half_at}
use Rattle.checkpoint.specs.Checkpoint.{Form, Older, Longer, Checkpoint, head_length, empty_length, sealed_length, part_wrong, own_tag, sealed}
use Rattle.checkpoint.specs.Half.{read_as, open_length, secret_length, stored_restarts, good_head, good_tag, stored}
use Rattle.protocol.specs.Types.{Order, NonceFirst, HalfFirst, Firmware, Phase, EraseFirst, Words, Record, EraseAfter, Done, Origin, Save, PowerUp, Job, Session, Progress, GoingOn, Saved, Restored, Refused, Start, Begun, Stopped, Looked, Restarts, Unseen, Stretch}
use Rattle.protocol.specs.Calls.{Sizes, From, from_tag, from_session, SaveArguments, Saves, PowersUp, Looks, Advances}

-- what reading a ring of these sizes finds
abbrev pub newest_in : List ℕ → Sizes → Newest
newest_in ring z = read_ring ring z.pages z.slots

-- ---- conditions of the papers' tables

-- stop 3, of a starting tag
unfoldable pub from_wrong : From → Bool
from_wrong (from_tag tag) = tag_wrong (length tag)
from_wrong (from_session s) = false

-- stop 4, of a staging buffer and of a state buffer
unfoldable pub staging_wrong : List ℕ → List ℕ → Bool
staging_wrong staging fram = ltb (length staging) (half_length fram)

unfoldable pub state_wrong : Firmware → List ℕ → Bool
state_wrong firmware state = ltb (length state) firmware.longest_part

-- stop 4, of both parts
unfoldable pub parts_wrong : Firmware → List ℕ → List ℕ → List ℕ → Bool
parts_wrong firmware open_part secret fram =
    part_wrong firmware.longest_part open_part || part_wrong firmware.longest_part secret ||
    ltb (half_length fram) (sealed_length firmware.form (length open_part) (length secret))

-- stop 4, of a half whose checkpoint, sealed anew in a form, outgrows it; only one of the older form sealed anew in the longer one does
unfoldable pub outgrows : Form → List ℕ → Bool
outgrows form half =
    let read = read_as form half in
    ltb (length half) (sealed_length form (open_length read half) (secret_length read half))

-- stop 18
unfoldable pub packet_wrong : Form → ℕ → Bool
packet_wrong Older packet = false
packet_wrong Longer packet = ltb packet_limit packet

-- stop 8, of the record, and of the restarts and the packet number
unfoldable pub stale : List ℕ → ℕ → Newest → Session → Bool
stale ring slots n s = not_newest ring slots n s.page s.slot s.latest

unfoldable pub session_wrong : Form → Session → Bool
session_wrong Older s = false
session_wrong Longer s = ltb restart_limit s.restarts || ltb packet_limit s.packet

-- ---- starts

-- what a start answers and leaves; `secret_length` is the restored secret part's length, 0 for a save
pub record Begin : Type 0 where
  pub answer : Start
  pub job : Job
  pub secret_length : ℕ
  pub staging : List ℕ
  pub state : List ℕ

-- the job beside a stop of a start, which document 01 leaves free, as it does the length 0; an advance of it always stops (proofs/FreeResults.antt)
unfoldable pub no_job : Job
no_job = record {
  phase = Done;
  origin = Save;
  half = 0;
  length = 0;
  page = 0;
  slot = 0;
  nonce = replicate nonce_length 0;
  tag = replicate tag_length 0;
  restarts = 0;
  packet = 0;
}

unfoldable pub job_of : List ℕ → Checkpoint → Phase → Origin → ℕ → ℕ → ℕ → Job
job_of key c phase origin half page slot = record {
  phase = phase;
  origin = origin;
  half = half;
  length = length (sealed key c);
  page = page;
  slot = slot;
  nonce = c.nonce;
  tag = own_tag key c;
  restarts = c.restarts;
  packet = c.packet;
}

-- a stop leaves every buffer as it was; else the sealed checkpoint stands at the front of staging
unfoldable pub begin : Option ℕ → List ℕ → Checkpoint → Job → List ℕ → List ℕ → List ℕ → Begin
begin (some s) key c job staging state secret = record { answer = Stopped s; job = no_job; secret_length = 0; staging = staging; state = state }
begin none key c job staging state secret = record {
  answer = Begun;
  job = job;
  secret_length = length secret;
  staging = put staging 0 (sealed key c);
  state = put state 0 secret;
}

-- ---- the checkpoints they make

-- the packet number that is written: the older form has none
unfoldable pub written_number : Form → ℕ → ℕ
written_number Older packet = 0
written_number Longer packet = packet

-- a save that has heard a packet number above the session's sets restarts to 0, else the session's carry over; every save of the older form sets them to 0
unfoldable pub save_restarts : Form → (heard known restarts : ℕ) → ℕ
save_restarts Older heard known restarts = 0
save_restarts Longer heard known restarts = cond (ltb known heard) 0 restarts

unfoldable pub larger : ℕ → ℕ → ℕ
larger a b = cond (ltb a b) b a

-- with a starting tag the number heard, and no restarts; with a session the larger number, and its restarts as said
unfoldable pub number_from : From → ℕ → ℕ
number_from (from_tag tag) heard = heard
number_from (from_session s) heard = larger s.packet heard

unfoldable pub restarts_from : Form → From → ℕ → ℕ
restarts_from form (from_tag tag) heard = 0
restarts_from form (from_session s) heard = save_restarts form heard s.packet s.restarts

unfoldable pub previous_tag : From → List ℕ
previous_tag (from_tag tag) = tag
previous_tag (from_session s) = s.tag

unfoldable pub save_checkpoint : Form → Saves → Checkpoint
save_checkpoint form a = record {
  form = form;
  packet = written_number form (number_from a.from a.arguments.packet);
  open_part = a.arguments.open_part;
  secret = a.arguments.secret;
  restarts = restarts_from form a.from a.arguments.packet;
  previous = previous_tag a.from;
  nonce = a.arguments.nonce;
}

-- c's parts and packet number (an older head is read with 0), one restart more, and c's own tag as the previous one
unfoldable pub resumed : Form → List ℕ → List ℕ → Checkpoint → Checkpoint
resumed form key nonce c = record {
  form = form;
  packet = c.packet;
  open_part = c.open_part;
  secret = c.secret;
  restarts = c.restarts + 1;
  previous = own_tag key c;
  nonce = nonce;
}

unfoldable pub first_phase : Newest → Phase
first_phase Blank = Words 0
first_phase Unreadable = Words 0
first_phase (At p s) = Words 0
first_phase (AtPending p q) = EraseFirst q

-- the half that the newest record names
unfoldable pub newest_half : (ring fram : List ℕ) → ℕ → Newest → List ℕ
newest_half ring fram slots n = half_at fram (half_named (newest_record ring slots n))

-- where a start's checkpoint goes
pub record Target : Type 0 where
  pub half : ℕ
  pub page : ℕ
  pub slot : ℕ

-- the half that the newest record does not name, and the place on the ring behind that record
abbrev pub next_target : List ℕ → Sizes → Target
next_target ring z =
    let n = newest_in ring z in
    record { half = 1 - half_named (newest_record ring z.slots n); page = target_page z.pages z.slots n; slot = target_slot z.slots n }

-- with a starting tag half A, page 0, slot 0
unfoldable pub save_target : List ℕ → Sizes → From → Target
save_target ring z (from_tag tag) = record { half = 0; page = 0; slot = 0 }
save_target ring z (from_session s) = next_target ring z

-- the stop of a used nonce and those about the half, in a power-up's order
abbrev pub in_turn : Order → ℕ × Bool → List (ℕ × Bool) → List (ℕ × Bool)
in_turn NonceFirst nonce half = nonce ∷ half
in_turn HalfFirst nonce half = half ++ nonce ∷ []

module _ (firmware : Firmware) (ring fram : List ℕ) where
  -- with a starting tag a ring that is not blank is refused; with a session one that is blank or unreadable, a session that is not the newest
  -- record's, a pending page and a used nonce
  unfoldable pub ring_lines : SaveArguments → From → List (ℕ × Bool)
  ring_lines a (from_tag tag) = (5, not (blank ring)) ∷ []
  ring_lines a (from_session s) =
      let n = newest_in ring a.sizes in
      (6, is_blank n) ∷
      (7, is_unreadable n) ∷
      (8, stale ring a.sizes.slots n s || session_wrong firmware.form s) ∷
      (9, is_pending n) ∷
      (10, nonce_used ring a.sizes.slots n a.nonce) ∷ []

  unfoldable pub save_stop : Saves → Option ℕ
  save_stop a = first_of (
      (1, ring_wrong a.arguments.sizes.pages a.arguments.sizes.slots ring) ∷
      (2, fram_wrong firmware.largest_fram fram) ∷
      (3, key_wrong firmware.key_lengths (length a.arguments.key) || nonce_wrong (length a.arguments.nonce) || from_wrong a.from) ∷
      (4, parts_wrong firmware a.arguments.open_part a.arguments.secret fram || staging_wrong a.arguments.staging fram) ∷
      (18, packet_wrong firmware.form a.arguments.packet) ∷
      ring_lines a.arguments a.from)

  unfoldable pub save : Saves → Begin
  save a =
      let c = save_checkpoint firmware.form a in
      let t = save_target ring a.arguments.sizes a.from in
      begin (save_stop a) a.arguments.key c (job_of a.arguments.key c (Words 0) Save t.half t.page t.slot) a.arguments.staging [] []

  -- 11, 12 and 13: what is wrong with the half that the newest record names
  unfoldable pub half_lines : PowersUp → List (ℕ × Bool)
  half_lines a =
      let n = newest_in ring a.sizes in
      let half = newest_half ring fram a.sizes.slots n in
      (11, not (good_head firmware.longest_part (read_as firmware.form half) half)) ∷
      (12, not (good_tag (read_as firmware.form half) a.key (take nonce_length (newest_record ring a.sizes.slots n)) half)) ∷
      (13, eqb (stored_restarts (read_as firmware.form half) half) restart_limit) ∷ []

  unfoldable pub power_up_stop : PowersUp → Option ℕ
  power_up_stop a =
      let n = newest_in ring a.sizes in
      first_of (
      (1, ring_wrong a.sizes.pages a.sizes.slots ring) ∷
      (2, fram_wrong firmware.largest_fram fram) ∷
      (3, key_wrong firmware.key_lengths (length a.key) || nonce_wrong (length a.nonce)) ∷
      (4, staging_wrong a.staging fram || state_wrong firmware a.state) ∷
      (6, is_blank n) ∷
      (7, is_unreadable n) ∷
      in_turn firmware.order (10, nonce_used ring a.sizes.slots n a.nonce) (half_lines a) ++
      (4, outgrows firmware.form (newest_half ring fram a.sizes.slots n)) ∷ [])

  -- the checkpoint that the newest record names
  unfoldable pub newest_checkpoint : PowersUp → Checkpoint
  newest_checkpoint a =
      let n = newest_in ring a.sizes in
      let half = newest_half ring fram a.sizes.slots n in
      stored (read_as firmware.form half) a.key (take nonce_length (newest_record ring a.sizes.slots n)) half

  unfoldable pub power_up : PowersUp → Begin
  power_up a =
      let n = newest_in ring a.sizes in
      let old = newest_checkpoint a in
      let new = resumed firmware.form a.key a.nonce old in
      let t = next_target ring a.sizes in
      begin (power_up_stop a) a.key new (job_of a.key new (first_phase n) PowerUp t.half t.page t.slot) a.staging a.state old.secret

  -- ---- look and its companion

  unfoldable pub look_stop : Looks → Option ℕ
  look_stop a =
      let n = newest_in ring a.sizes in
      let half = newest_half ring fram a.sizes.slots n in
      first_of (
      (1, ring_wrong a.sizes.pages a.sizes.slots ring) ∷
      (2, fram_wrong firmware.largest_fram fram) ∷
      (3, key_wrong firmware.key_lengths (length a.key)) ∷
      (6, is_blank n) ∷
      (7, is_unreadable n) ∷
      (11, not (good_head firmware.longest_part (read_as firmware.form half) half)) ∷
      (12, not (good_tag (read_as firmware.form half) a.key (take nonce_length (newest_record ring a.sizes.slots n)) half)) ∷ [])

-- look stores nothing
unfoldable pub look_by : Option ℕ → ℕ → Looked
look_by (some s) restarts = Unseen s
look_by none restarts = Restarts restarts

unfoldable pub look : Firmware → List ℕ → List ℕ → Looks → Looked
look firmware ring fram a =
    let half = newest_half ring fram a.sizes.slots (newest_in ring a.sizes) in
    look_by (look_stop firmware ring fram a) (stored_restarts (read_as firmware.form half) half)

-- the open part as a stretch of the FRAM image; an empty one, which document 01 leaves open, stands at 0
unfoldable pub stretch_by : Option ℕ → ℕ → ℕ → Stretch
stretch_by (some s) offset length = record { offset = 0; length = 0 }
stretch_by none offset length = record { offset = offset; length = length }

unfoldable pub open_stretch : Firmware → List ℕ → List ℕ → Looks → Stretch
open_stretch firmware ring fram a =
    let n = newest_in ring a.sizes in
    let half = newest_half ring fram a.sizes.slots n in
    stretch_by (look_stop firmware ring fram a) (half_named (newest_record ring a.sizes.slots n) * half_length fram + head_length (read_as firmware.form half))
    (open_length (read_as firmware.form half) half)

unfoldable pub stretch_of : List ℕ → Stretch → List ℕ
stretch_of fram z = part fram z.offset z.length

-- ---- wipe

unfoldable pub wipe : List ℕ → List ℕ
wipe buffer = replicate (length buffer) 0

-- ---- advance

-- the record that a job writes
unfoldable pub job_record : Job → List ℕ
job_record j = record_of j.nonce j.half

unfoldable pub session_of : Job → Session
session_of j = record { page = j.page; slot = j.slot; latest = job_record j; tag = j.tag; restarts = j.restarts; packet = j.packet }

-- the session beside 'going on' or a refusal, which document 01 leaves free; a save with it always stops (proofs/FreeResults.antt)
unfoldable pub no_session : Session
no_session = record { page = 0; slot = 0; latest = replicate slot_length 0; tag = replicate tag_length 0; restarts = 0; packet = 0 }

unfoldable pub in_phase : Job → Phase → Job
in_phase j phase = record {
  phase = phase;
  origin = j.origin;
  half = j.half;
  length = j.length;
  page = j.page;
  slot = j.slot;
  nonce = j.nonce;
  tag = j.tag;
  restarts = j.restarts;
  packet = j.packet;
}

unfoldable pub phase_wrong : Phase → Job → Sizes → List ℕ → Bool
phase_wrong (EraseFirst p) j z ring = leb z.pages p
phase_wrong (Words w) j z ring = leb j.length (4 * w)
phase_wrong Record j z ring = not (blank (slot_at ring z.slots j.page j.slot))
phase_wrong (EraseAfter p) j z ring = leb z.pages p
phase_wrong Done j z ring = true

unfoldable pub job_wrong : Form → Job → Sizes → List ℕ → List ℕ → Bool
job_wrong form j z ring fram =
    not (eqb (j.length % 4) 0) || ltb j.length (empty_length form) || ltb (half_length fram) j.length ||
    leb z.pages j.page || leb z.slots j.slot || ltb 1 j.half || phase_wrong j.phase j z ring

unfoldable pub advance_stop : Firmware → List ℕ → List ℕ → Advances → Option ℕ
advance_stop firmware ring fram a = first_of (
    (1, ring_wrong a.sizes.pages a.sizes.slots ring) ∷
    (2, fram_wrong firmware.largest_fram fram) ∷
    (4, staging_wrong a.staging fram) ∷
    (14, job_wrong firmware.form a.job a.sizes ring fram) ∷ [])

-- what an advance answers, and the memories it leaves
pub record Moved : Type 0 where
  pub progress : Progress
  pub job : Job
  pub session : Session
  pub ring : List ℕ
  pub fram : List ℕ

unfoldable pub going_on : Job → Phase → List ℕ → List ℕ → Moved
going_on j phase ring fram = record { progress = GoingOn; job = in_phase j phase; session = no_session; ring = ring; fram = fram }

unfoldable pub finished : Origin → Progress
finished Save = Saved
finished PowerUp = Restored

unfoldable pub ended : Job → List ℕ → List ℕ → Moved
ended j ring fram = record { progress = finished j.origin; job = in_phase j Done; session = session_of j; ring = ring; fram = fram }

unfoldable pub stored_word : List ℕ → List ℕ → Job → ℕ → List ℕ
stored_word fram staging j w = put fram (j.half * half_length fram + 4 * w) (part staging (4 * w) 4)

unfoldable pub recorded : List ℕ → ℕ → Job → List ℕ
recorded ring slots j = record_put ring slots j.page j.slot (job_record j)

-- the page before the target, on a ring with the record, awaits erasing
unfoldable pub erase_follows : List ℕ → Sizes → Job → Bool
erase_follows ring z j = eqb j.slot 0 && not (blank (page_at ring z.slots (page_before z.pages j.page)))

unfoldable pub after_record : List ℕ → List ℕ → Sizes → Job → Moved
after_record ring fram z j =
    let new = recorded ring z.slots j in
    cond (erase_follows new z j) (going_on j (EraseAfter (page_before z.pages j.page)) new fram) (ended j new fram)

unfoldable pub store : Phase → List ℕ → List ℕ → Advances → Moved
store (EraseFirst p) ring fram a = going_on a.job (Words 0) (page_erased ring a.sizes.slots p) fram
store (Words w) ring fram a =
    going_on a.job (cond (eqb (4 * (w + 1)) a.job.length) Record (Words (w + 1))) ring (stored_word fram a.staging a.job w)
store Record ring fram a = after_record ring fram a.sizes a.job
store (EraseAfter p) ring fram a = ended a.job (page_erased ring a.sizes.slots p) fram
store Done ring fram a = ended a.job ring fram

unfoldable pub advance_by : Option ℕ → List ℕ → List ℕ → Advances → Moved
advance_by (some s) ring fram a = record { progress = Refused s; job = a.job; session = no_session; ring = ring; fram = fram }
advance_by none ring fram a = store a.job.phase ring fram a

unfoldable pub advance : Firmware → List ℕ → List ℕ → Advances → Moved
advance firmware ring fram a = advance_by (advance_stop firmware ring fram a) ring fram a
