-- Lists of calls and power losses (document 01, "Runs, cuts and the book"; a cut is a power loss): what they leave, and the rules that the papers set for them.
-- At a power loss the unit may get other firmware that reads what its own wrote (document 02, A.2, A.5, A.6 and A.8), as often as one likes:
-- `updated_to` is that loss. Where it fell into a store, `lost_in_store` comes right before it.
use Rattle.std.specs.Prelude.{ℕ, ◌+◌, ◌*◌, ◌≤◌, ◌≡◌, ◌⊎◌, Bool, true, false, length, T}
use Rattle.std.proofs.Math.Option.{Option, none, some}
use mathlib.Core.List.{List, [], ◌∷◌, Memᴰ}
use Rattle.octets.specs.Limits.{slot_length}
use Rattle.octets.specs.Octets.{part, put, erased}
use Rattle.ring.specs.Ring.{page_put, record_put}
use Rattle.checkpoint.specs.Fram.{half_length}
use Rattle.checkpoint.specs.Half.{Reads}
use Rattle.protocol.specs.Types.{Firmware, Phase, EraseFirst, Words, Record, EraseAfter, Done, Job, Session, Progress, GoingOn, Saved, Restored, Refused, Start, Begun, Stopped}
use Rattle.protocol.specs.Calls.{From, from_tag, from_session, Setup, Event, saved, powered_up, advanced_by, PowerLoss, updated_to, lost_in_store}
use Rattle.protocol.specs.Operations.{Begin, Moved, save, power_up, advance, job_record}
use Rattle.protocol.specs.Journal.{entered, Journal, empty}

-- a job that was handed out, with its start's staging buffer
pub record Handed : Type 0 where
  pub job : Job
  pub staging : List ℕ

-- the memories, the job handed out last, the sessions handed out, the nonces of starts that did not stop, the journal,
-- and the unit's firmware
pub record State : Type 0 where
  pub ring : List ℕ
  pub fram : List ℕ
  pub handed : Option Handed
  pub sessions : List Session
  pub nonces : List (List ℕ)
  pub journal : Journal
  pub firmware : Firmware

-- the memories as they were given, with nothing handed out
unfoldable pub fresh : Firmware → List ℕ → List ℕ → State
fresh firmware ring fram = record { ring = ring; fram = fram; handed = none; sessions = []; nonces = []; journal = empty; firmware = firmware }

-- ---- whether a call stops

unfoldable pub is_stop : Start → Bool
is_stop Begun = false
is_stop (Stopped stop) = true

unfoldable pub is_stopped : Progress → Bool
is_stopped GoingOn = false
is_stopped Saved = false
is_stopped Restored = false
is_stopped (Refused stop) = true

-- the call stops
unfoldable pub refused : State → Event → Bool
refused s (saved a) = is_stop (save s.firmware s.ring s.fram a).answer
refused s (powered_up a) = is_stop (power_up s.firmware s.ring s.fram a).answer
refused s (advanced_by a) = is_stopped (advance s.firmware s.ring s.fram a).progress
refused s PowerLoss = false
refused s (updated_to firmware) = false
refused s (lost_in_store left) = false

-- ---- what an event leaves, with the journal after it

unfoldable pub begun : State → Start → Begin → List ℕ → Journal → State
begun s Begun b nonce j = record {
  ring = s.ring;
  fram = s.fram;
  handed = some (record { job = b.job; staging = b.staging });
  sessions = s.sessions;
  nonces = nonce ∷ s.nonces;
  journal = j;
  firmware = s.firmware;
}
begun s (Stopped stop) b nonce j = record {
  ring = s.ring;
  fram = s.fram;
  handed = s.handed;
  sessions = s.sessions;
  nonces = s.nonces;
  journal = j;
  firmware = s.firmware;
}

unfoldable pub moved : State → Progress → Moved → List ℕ → Journal → State
moved s GoingOn m staging j = record {
  ring = m.ring;
  fram = m.fram;
  handed = some (record { job = m.job; staging = staging });
  sessions = s.sessions;
  nonces = s.nonces;
  journal = j;
  firmware = s.firmware;
}
moved s Saved m staging j = record {
  ring = m.ring;
  fram = m.fram;
  handed = some (record { job = m.job; staging = staging });
  sessions = m.session ∷ s.sessions;
  nonces = s.nonces;
  journal = j;
  firmware = s.firmware;
}
moved s Restored m staging j = record {
  ring = m.ring;
  fram = m.fram;
  handed = some (record { job = m.job; staging = staging });
  sessions = m.session ∷ s.sessions;
  nonces = s.nonces;
  journal = j;
  firmware = s.firmware;
}
moved s (Refused stop) m staging j = record {
  ring = m.ring;
  fram = m.fram;
  handed = s.handed;
  sessions = s.sessions;
  nonces = s.nonces;
  journal = j;
  firmware = s.firmware;
}

-- the store of a job's phase, with `left` in the place of what it would have written
unfoldable pub broken_ring : Phase → List ℕ → ℕ → Job → List ℕ → List ℕ
broken_ring (EraseFirst p) ring slots j left = page_put ring slots p left
broken_ring (Words w) ring slots j left = ring
broken_ring Record ring slots j left = record_put ring slots j.page j.slot left
broken_ring (EraseAfter p) ring slots j left = page_put ring slots p left
broken_ring Done ring slots j left = ring

unfoldable pub broken_fram : Phase → List ℕ → Job → List ℕ → List ℕ
broken_fram (EraseFirst p) fram j left = fram
broken_fram (Words w) fram j left = put fram (j.half * half_length fram + 4 * w) left
broken_fram Record fram j left = fram
broken_fram (EraseAfter p) fram j left = fram
broken_fram Done fram j left = fram

-- the bytes that the store of a job's phase writes
unfoldable pub bytes_of : Phase → Job → ℕ → List ℕ → List ℕ
bytes_of (EraseFirst p) j slots staging = erased (slot_length * slots)
bytes_of (Words w) j slots staging = part staging (4 * w) 4
bytes_of Record j slots staging = job_record j
bytes_of (EraseAfter p) j slots staging = erased (slot_length * slots)
bytes_of Done j slots staging = []

unfoldable pub broken : Setup → State → Option Handed → List ℕ → Journal → State
broken u s none left j = record {
  ring = s.ring;
  fram = s.fram;
  handed = none;
  sessions = s.sessions;
  nonces = s.nonces;
  journal = j;
  firmware = s.firmware;
}
broken u s (some h) left j = record {
  ring = broken_ring h.job.phase s.ring u.sizes.slots h.job left;
  fram = broken_fram h.job.phase s.fram h.job left;
  handed = none;
  sessions = s.sessions;
  nonces = s.nonces;
  journal = j;
  firmware = s.firmware;
}

unfoldable pub left_by : Setup → State → Event → Journal → State
left_by u s (saved a) j = let b = save s.firmware s.ring s.fram a in begun s b.answer b a.arguments.nonce j
left_by u s (powered_up a) j = let b = power_up s.firmware s.ring s.fram a in begun s b.answer b a.nonce j
left_by u s (advanced_by a) j = let m = advance s.firmware s.ring s.fram a in moved s m.progress m a.staging j
left_by u s PowerLoss j = record {
  ring = s.ring;
  fram = s.fram;
  handed = none;
  sessions = s.sessions;
  nonces = s.nonces;
  journal = j;
  firmware = s.firmware;
}
-- the sessions handed out before are not used after it
left_by u s (updated_to firmware) j = record {
  ring = s.ring;
  fram = s.fram;
  handed = none;
  sessions = [];
  nonces = s.nonces;
  journal = j;
  firmware = firmware;
}
left_by u s (lost_in_store left) j = broken u s s.handed left j

-- the journal changes by `entered` alone
unfoldable pub step : Setup → State → Event → State
step u s e = left_by u s e (entered u s.firmware.form s.journal e (refused s e))

unfoldable pub run : Setup → State → List Event → State
run u s [] = s
run u s (e ∷ more) = run u (step u s e) more

-- ---- the rules of a list

-- what the store interrupted by a power loss may hold: a word or a page any bytes, a slot the whole record or still blank
unfoldable pub Left : Phase → Job → ℕ → List ℕ → Type 0
Left (EraseFirst p) j slots left = length left ≡ slot_length * slots
Left (Words w) j slots left = length left ≡ 4
Left Record j slots left = (left ≡ job_record j) ⊎ (left ≡ erased slot_length)
Left (EraseAfter p) j slots left = length left ≡ slot_length * slots
Left Done j slots left = ⊥

-- the firmware `next` reads what `firmware` wrote: heads of that form, and parts as long as its longest; of FRAM and key nothing is asked here
pub record Succeeds (firmware next : Firmware) : Type 0 where
  pub heads : Reads next.form firmware.form
  pub parts : firmware.longest_part ≤ next.longest_part

-- a session is one that the list handed out; a starting tag may be any
unfoldable pub HandedOut : From → List Session → Type 0
HandedOut (from_tag tag) sessions = Unit {0}
HandedOut (from_session s) sessions = Memᴰ s sessions

-- document 01's rules for a call that does not stop: the unit's sizes and key, a nonce that no start which began had, a session that the list handed out,
-- the job handed out last with its start's staging; and for an update and a power loss in a store
unfoldable pub Keeps : Setup → State → Event → Type 0
Keeps u s (saved a) =
    (a.arguments.sizes ≡ u.sizes) × (a.arguments.key ≡ u.key) × (Memᴰ a.arguments.nonce s.nonces → ⊥)
    × HandedOut a.from s.sessions
Keeps u s (powered_up a) = (a.sizes ≡ u.sizes) × (a.key ≡ u.key) × (Memᴰ a.nonce s.nonces → ⊥)
Keeps u s (advanced_by a) = (a.sizes ≡ u.sizes) × (s.handed ≡ some (record { job = a.job; staging = a.staging }))
Keeps u s PowerLoss = Unit {0}
Keeps u s (updated_to firmware) = Succeeds s.firmware firmware
Keeps u s (lost_in_store left) = (h : Handed) × (s.handed ≡ some h) × Left h.job.phase h.job u.sizes.slots left

-- a refused call may be given anything besides the memories
unfoldable pub Allowed : Setup → State → List Event → Type 0
Allowed u s [] = Unit {0}
Allowed u s (e ∷ more) = ((T (refused s e)) ⊎ Keeps u s e) × Allowed u (step u s e) more
