-- What each call answers and leaves behind its pointers (hosts/c/keeper.h). A stop leaves all as it was.
use Rattle.std.specs.Prelude.{ℕ, not, cond, ◌||◌, List, [], ◌∷◌, eqb, length}
use Rattle.std.proofs.Math.Option.{Option, none, some}
use Rattle.octets.specs.Octets.{put}
use Rattle.stops.specs.Stops.{first_of, then_stop}
use Rattle.gcm.specs.Gcm.{encrypted, tag}
use Rattle.octets.specs.Limits.{key_lengths}
use Rattle.gcm.specs.Calls.{key_wrong, nonce_wrong, tag_wrong, buffers_wrong}
use Rattle.ring.specs.Ring.{ring_wrong}
use Rattle.checkpoint.specs.Fram.{fram_wrong}
use Rattle.protocol.specs.Types.{Session, Stretch, Looked, Restarts, Unseen, Progress, GoingOn, Saved, Restored, Refused, this_firmware}
use Rattle.protocol.specs.Calls.{Sizes, From, from_tag, from_session, SaveArguments, Saves, saves, PowersUp, Looks, Advances}
use Rattle.protocol.specs.Operations.{Begin, Moved, staging_wrong, save_stop, save, power_up_stop, power_up, look, open_stretch, job_wrong, advance}
use Rattle.intel_hex.specs.Export.{Export, export}
use Rattle.settings.specs.Settings.{Reading, Volume_delay, Stopped, settings_read}
use Rattle.job_bytes.specs.Bytes.{job_length, session_length, job_bytes, session_bytes, job_in, session_in}

-- 0, or the number of a stop
abbrev pub answer : Option ℕ → ℕ
answer none = 0
answer (some n) = n

-- ---- sealing alone, with a buffer for the tag

pub record Sealing : Type 0 where
  pub answer : ℕ
  pub out : List ℕ
  pub tag : List ℕ

abbrev pub sealing_left : ℕ → List ℕ → List ℕ → Sealing
sealing_left r out tag = record { answer = r; out = out; tag = tag }

unfoldable pub sealing_stop : (key nonce aad text out tag : List ℕ) → Option ℕ
sealing_stop key nonce aad text out tag_buffer = first_of (
    (3, key_wrong key_lengths (length key) || nonce_wrong (length nonce) || tag_wrong (length tag_buffer)) ∷
    (4, buffers_wrong (length aad) (length text) (length out)) ∷ [])

unfoldable pub sealing_by : Option ℕ → (key nonce aad text out tag : List ℕ) → Sealing
sealing_by (some n) key nonce aad text out tag_buffer = sealing_left n out tag_buffer
sealing_by none key nonce aad text out tag_buffer =
    let cipher = encrypted key nonce text in
    sealing_left 0 (put out 0 cipher) (tag key nonce aad cipher)

unfoldable pub sealing_call : (key nonce aad text out tag : List ℕ) → Sealing
sealing_call key nonce aad text out tag_buffer = sealing_by (sealing_stop key nonce aad text out tag_buffer) key nonce aad text out tag_buffer

-- ---- starts: the job goes to a buffer

pub record Starting : Type 0 where
  pub answer : ℕ
  pub staging : List ℕ
  pub state : List ℕ
  pub job : List ℕ
  pub secret_length : ℕ

abbrev pub starting_left : ℕ → (staging state job : List ℕ) → ℕ → Starting
starting_left r staging state job secret_length = record { answer = r; staging = staging; state = state; job = job; secret_length = secret_length }

-- a save has no state buffer, and restores nothing
abbrev pub saving_left : ℕ → (staging job : List ℕ) → Starting
saving_left r staging job = starting_left r staging [] job 0

-- 14 of the buffer for the job is tried after all other stops
abbrev pub with_job : Option ℕ → List ℕ → Option ℕ
with_job stop job = then_stop stop 14 (not (eqb (length job) job_length))

-- from the stop, what the operation answers and leaves, and what stood behind the pointers
abbrev pub starting_by : Option ℕ → Begin → (staging state job : List ℕ) → ℕ → Starting
starting_by (some n) b staging state job secret_length = starting_left n staging state job secret_length
starting_by none b staging state job secret_length = starting_left 0 b.staging b.state (job_bytes b.job) b.secret_length

-- what a save follows is read from its buffer: 48 bytes are a session, and any others a starting tag, which 3 refuses if they are not 16
-- (proofs/InPlace.antt)
unfoldable pub from_in : List ℕ → From
from_in b = cond (eqb (length b) session_length) (from_session (session_in b)) (from_tag b)

abbrev pub saves_in : SaveArguments → List ℕ → Saves
saves_in a from = saves a (from_in from)

module _ (ring fram : List ℕ) where
  unfoldable pub save_call : Saves → (job : List ℕ) → Starting
  save_call a job = starting_by (with_job (save_stop this_firmware ring fram a) job) (save this_firmware ring fram a) a.arguments.staging [] job 0

  unfoldable pub power_up_call : PowersUp → (job : List ℕ) → ℕ → Starting
  power_up_call a job secret_length = starting_by (with_job (power_up_stop this_firmware ring fram a) job) (power_up this_firmware ring fram a) a.staging a.state job secret_length

-- ---- look

pub record Looking : Type 0 where
  pub answer : ℕ
  pub restarts : ℕ
  pub open_start : ℕ
  pub open_length : ℕ

abbrev pub looking_left : ℕ → ℕ → ℕ → ℕ → Looking
looking_left r restarts start long = record { answer = r; restarts = restarts; open_start = start; open_length = long }

-- from what look answers, where the open part lies, and what stood behind the pointers
abbrev pub looking_by : Looked → Stretch → ℕ → ℕ → ℕ → Looking
looking_by (Unseen n) z restarts start long = looking_left n restarts start long
looking_by (Restarts k) z restarts start long = looking_left 0 k z.offset z.length

unfoldable pub look_call : List ℕ → List ℕ → Looks → ℕ → ℕ → ℕ → Looking
look_call ring fram a restarts start long = looking_by (look this_firmware ring fram a) (open_stretch this_firmware ring fram a) restarts start long

-- ---- advance

pub record Advancing : Type 0 where
  pub answer : ℕ
  pub ring : List ℕ
  pub fram : List ℕ
  pub job : List ℕ
  pub session : List ℕ

abbrev pub advancing_left : ℕ → (ring fram job session : List ℕ) → Advancing
advancing_left r ring fram job session = record { answer = r; ring = ring; fram = fram; job = job; session = session }

abbrev pub progress_number : Progress → ℕ
progress_number GoingOn = 256
progress_number Saved = 257
progress_number Restored = 258
progress_number (Refused n) = n

-- the session is written where the job is done
abbrev pub session_after : Progress → Session → List ℕ → List ℕ
session_after GoingOn s buffer = buffer
session_after Saved s buffer = session_bytes s
session_after Restored s buffer = session_bytes s
session_after (Refused n) s buffer = buffer

-- stop 4 is also that of a session buffer of another length
unfoldable pub advance_call_stop : (ring fram : List ℕ) → Advances → List ℕ → Option ℕ
advance_call_stop ring fram a session = first_of (
    (1, ring_wrong a.sizes.pages a.sizes.slots ring) ∷
    (2, fram_wrong this_firmware.largest_fram fram) ∷
    (4, staging_wrong a.staging fram || not (eqb (length session) session_length)) ∷
    (14, job_wrong this_firmware.form a.job a.sizes ring fram) ∷ [])

abbrev pub advancing_by : Option ℕ → Moved → (ring fram job session : List ℕ) → Advancing
advancing_by (some n) m ring fram job session = advancing_left n ring fram job session
advancing_by none m ring fram job session =
    advancing_left (progress_number m.progress) m.ring m.fram (job_bytes m.job) (session_after m.progress m.session session)

-- the job is read from its buffer
abbrev pub advances_in : Sizes → (job staging : List ℕ) → Advances
advances_in z job staging = record { sizes = z; job = job_in job; staging = staging }

unfoldable pub advance_call : (ring fram : List ℕ) → Sizes → (staging job session : List ℕ) → Advancing
advance_call ring fram z staging job session =
    let a = advances_in z job staging in
    advancing_by (advance_call_stop ring fram a session) (advance this_firmware ring fram a) ring fram job session

-- ---- images as Intel HEX (document 02, A.1)

pub record Exporting : Type 0 where
  pub answer : ℕ
  pub text : List ℕ
  pub written : ℕ

abbrev pub exporting_left : ℕ → List ℕ → ℕ → Exporting
exporting_left r text written = record { answer = r; text = text; written = written }

-- from the stop, what the export leaves, and what stood behind the pointer
abbrev pub exporting_by : Option ℕ → Export → ℕ → Exporting
exporting_by (some n) e written = exporting_left n e.text written
exporting_by none e written = exporting_left 0 e.text e.written

unfoldable pub export_call : (image text : List ℕ) → ℕ → Exporting
export_call image text written = let e = export image text in exporting_by e.stop e written

-- ---- settings (document 02, A.12)

pub record SettingsLeft : Type 0 where
  pub answer : ℕ
  pub volume : ℕ
  pub delay : ℕ

abbrev pub settings_left : ℕ → ℕ → ℕ → SettingsLeft
settings_left r volume delay = record { answer = r; volume = volume; delay = delay }

-- from what the reader answers, and what stood behind the pointers
abbrev pub settings_by : Reading → ℕ → ℕ → SettingsLeft
settings_by (Stopped n) volume delay = settings_left n volume delay
settings_by (Volume_delay v d) volume delay = settings_left 0 v d

unfoldable pub settings_call : List ℕ → ℕ → ℕ → SettingsLeft
settings_call L volume delay = settings_by (settings_read L) volume delay
