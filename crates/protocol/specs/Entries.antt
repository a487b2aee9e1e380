-- The two entries for saving that firmware had before document 02's A.7, first save and save (document 01, "What the unit calls", and A.2), and
-- that the one save answers and leaves what they do.
use Rattle.std.specs.Prelude.{ℕ, ◌-◌, ◌≡◌, Bool, not, cond, ◌||◌, ◌↔◌, ◌⊎◌, length}
use Rattle.std.proofs.Math.Option.{Option}
use mathlib.Core.List.{List, [], ◌∷◌, Memᴰ}
use Rattle.octets.specs.Octets.{blank}
use Rattle.stops.specs.Stops.{first_of}
use Rattle.ring.specs.Ring.{ring_wrong, half_named, is_blank, is_unreadable, is_pending, newest_record, nonce_used, target_page, target_slot}
use Rattle.checkpoint.specs.Fram.{fram_wrong}
use Rattle.checkpoint.specs.Checkpoint.{Form, Checkpoint}
use Rattle.protocol.specs.Types.{Firmware, Words, Save, Session}
use Rattle.protocol.specs.Calls.{from_tag, from_session, SaveArguments, Saves, saves, Setup, saved}
use Rattle.protocol.specs.Operations.{key_wrong, nonce_wrong, tag_wrong, newest_in, parts_wrong, staging_wrong, packet_wrong, stale, session_wrong, Begin, begin, job_of, written_number, save_restarts, larger, save}
use Rattle.protocol.specs.Journal.{Journal, first_draft, drafted, saved_entry, entered}
use Rattle.protocol.specs.History.{State, is_stop, refused, begun, left_by, Keeps}

-- ---- the entries

pub record FirstSave : Type 0 where
  pub arguments : SaveArguments
  pub starting_tag : List ℕ

-- document 01's save: there is a checkpoint before it
pub record NextSave : Type 0 where
  pub arguments : SaveArguments
  pub session : Session

unfoldable pub first_checkpoint : Form → FirstSave → Checkpoint
first_checkpoint form a = record {
  form = form;
  packet = written_number form a.arguments.packet;
  open_part = a.arguments.open_part;
  secret = a.arguments.secret;
  restarts = 0;
  previous = a.starting_tag;
  nonce = a.arguments.nonce;
}

unfoldable pub next_checkpoint : Form → NextSave → Checkpoint
next_checkpoint form a = record {
  form = form;
  packet = written_number form (larger a.session.packet a.arguments.packet);
  open_part = a.arguments.open_part;
  secret = a.arguments.secret;
  restarts = save_restarts form a.arguments.packet a.session.packet a.session.restarts;
  previous = a.session.tag;
  nonce = a.arguments.nonce;
}

module _ (firmware : Firmware) (ring fram : List ℕ) where
  unfoldable pub first_save_stop : FirstSave → Option ℕ
  first_save_stop a = first_of (
      (1, ring_wrong a.arguments.sizes.pages a.arguments.sizes.slots ring) ∷
      (2, fram_wrong firmware.largest_fram fram) ∷
      (3, key_wrong firmware.key_lengths (length a.arguments.key) || nonce_wrong (length a.arguments.nonce) || tag_wrong (length a.starting_tag)) ∷
      (4, parts_wrong firmware a.arguments.open_part a.arguments.secret fram || staging_wrong a.arguments.staging fram) ∷
      (18, packet_wrong firmware.form a.arguments.packet) ∷
      (5, not (blank ring)) ∷ [])

  unfoldable pub first_save : FirstSave → Begin
  first_save a =
      let c = first_checkpoint firmware.form a in
      begin (first_save_stop a) a.arguments.key c (job_of a.arguments.key c (Words 0) Save 0 0 0) a.arguments.staging [] []

  unfoldable pub next_save_stop : NextSave → Option ℕ
  next_save_stop a =
      let n = newest_in ring a.arguments.sizes in
      first_of (
      (1, ring_wrong a.arguments.sizes.pages a.arguments.sizes.slots ring) ∷
      (2, fram_wrong firmware.largest_fram fram) ∷
      (3, key_wrong firmware.key_lengths (length a.arguments.key) || nonce_wrong (length a.arguments.nonce)) ∷
      (4, parts_wrong firmware a.arguments.open_part a.arguments.secret fram || staging_wrong a.arguments.staging fram) ∷
      (18, packet_wrong firmware.form a.arguments.packet) ∷
      (6, is_blank n) ∷
      (7, is_unreadable n) ∷
      (8, stale ring a.arguments.sizes.slots n a.session || session_wrong firmware.form a.session) ∷
      (9, is_pending n) ∷
      (10, nonce_used ring a.arguments.sizes.slots n a.arguments.nonce) ∷ [])

  unfoldable pub next_save : NextSave → Begin
  next_save a =
      let n = newest_in ring a.arguments.sizes in
      let c = next_checkpoint firmware.form a in
      begin (next_save_stop a) a.arguments.key c
      (job_of a.arguments.key c (Words 0) Save (1 - half_named (newest_record ring a.arguments.sizes.slots n))
      (target_page a.arguments.sizes.pages a.arguments.sizes.slots n) (target_slot a.arguments.sizes.slots n))
      a.arguments.staging [] []

-- ---- the same inputs for the one save

abbrev pub as_first : FirstSave → Saves
as_first a = saves a.arguments (from_tag a.starting_tag)

abbrev pub as_next : NextSave → Saves
as_next a = saves a.arguments (from_session a.session)

-- each entry's stop or job, and the bytes that it leaves in staging, are the one save's
pub record Same (firmware : Firmware) (ring fram : List ℕ) : Type 0 where
  pub first : (a : FirstSave) → save firmware ring fram (as_first a) ≡ first_save firmware ring fram a
  pub next : (a : NextSave) → save firmware ring fram (as_next a) ≡ next_save firmware ring fram a
  -- and there is no other save
  pub either : (a : Saves) → ((b : FirstSave) × (a ≡ as_first b)) ⊎ ((b : NextSave) × (a ≡ as_next b))

-- document 01's rules for them, in a list of calls and power losses
abbrev pub FirstKeeps : Setup → State → FirstSave → Type 0
FirstKeeps u s a = (a.arguments.sizes ≡ u.sizes) × (a.arguments.key ≡ u.key) × (Memᴰ a.arguments.nonce s.nonces → ⊥)

abbrev pub NextKeeps : Setup → State → NextSave → Type 0
NextKeeps u s a =
    (a.arguments.sizes ≡ u.sizes) × (a.arguments.key ≡ u.key) × (Memᴰ a.arguments.nonce s.nonces → ⊥)
    × (Memᴰ a.session s.sessions)

-- a list of the theorem Recovery in which older firmware saves: each of its saves is refused exactly where its entry stops, keeps the rules exactly
-- where that does, leaves what that leaves, and the journal sees it as document 01's book does
pub record InLists (u : Setup) (s : State) : Type 0 where
  pub first_refused : (a : FirstSave) → refused s (saved (as_first a)) ≡ is_stop (first_save s.firmware s.ring s.fram a).answer
  pub first_leaves : (a : FirstSave) (j : Journal) → left_by u s (saved (as_first a)) j
      ≡ (let b = first_save s.firmware s.ring s.fram a in begun s b.answer b a.arguments.nonce j)
  pub first_keeps : (a : FirstSave) → Keeps u s (saved (as_first a)) ↔ FirstKeeps u s a
  pub first_entered : (a : FirstSave) (form : Form) (j : Journal) (stopped : Bool)
      → entered u form j (saved (as_first a)) stopped ≡ cond stopped j (drafted u.key u.sizes.slots Save (first_draft form a.arguments a.starting_tag) 0 j)
  pub next_refused : (a : NextSave) → refused s (saved (as_next a)) ≡ is_stop (next_save s.firmware s.ring s.fram a).answer
  pub next_leaves : (a : NextSave) (j : Journal) → left_by u s (saved (as_next a)) j
      ≡ (let b = next_save s.firmware s.ring s.fram a in begun s b.answer b a.arguments.nonce j)
  pub next_keeps : (a : NextSave) → Keeps u s (saved (as_next a)) ↔ NextKeeps u s a
  pub next_entered : (a : NextSave) (form : Form) (j : Journal) (stopped : Bool)
      → entered u form j (saved (as_next a)) stopped ≡ cond stopped j (saved_entry form u.key a.arguments j.entry j u.sizes.slots)

-- any firmware, with any memories
unfoldable pub OneSave : Type 0
OneSave = ((firmware : Firmware) (ring fram : List ℕ) → Same firmware ring fram) × ((u : Setup) (s : State) → InLists u s)
