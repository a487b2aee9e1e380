-- The theorem Recovery (demand 3; documents 01 and 02 call it the cut rule): what every call of a list of calls and power losses answers and leaves,
-- and what a power-up after the list finds.
use Rattle.std.specs.Prelude.{ℕ, zero, suc, ◌-◌, ◌≤◌, ◌<◌, ◌≡◌, Bool, true, false, not, cond, ◌↔◌, ◌⊎◌, length, replicate, take, T}
use Rattle.std.proofs.Math.Option.{Option, none, some}
use mathlib.Core.List.{List, [], ◌∷◌, ◌++◌, Memᴰ}
use Rattle.octets.specs.Limits.{restart_limit, nonce_length}
use Rattle.octets.specs.Octets.{put, blank}
use Rattle.ring.specs.Ring.{At, ring_wrong, slot_at, half_named, read_ring}
use Rattle.checkpoint.specs.Fram.{fram_wrong, half_length, half_at}
use Rattle.checkpoint.specs.Checkpoint.{Checkpoint, own_tag, sealed}
use Rattle.protocol.specs.Types.{Firmware, Restarts, Unseen, Session, Origin, Save, PowerUp, Progress, GoingOn, Restored, Saved, Refused, Start, Begun, Stopped}
use Rattle.protocol.specs.Calls.{PowersUp, Looks, Advances, Setup, Event, saved, powered_up, advanced_by, PowerLoss, updated_to, lost_in_store}
use Rattle.protocol.specs.Operations.{key_wrong, Begin, Moved, no_job, save_stop, save, power_up_stop, power_up, look, open_stretch, stretch_of, advance_stop, advance, no_session, session_of}
use Rattle.protocol.specs.Journal.{Draft, to_come, power_up_draft, stores_of}
use Rattle.protocol.specs.History.{State, Handed, broken_ring, broken_fram, bytes_of, fresh, run, step, is_stop, is_stopped, refused, Keeps, Allowed}

-- ---- each call of a list

unfoldable pub start_answer : Option ℕ → Start
start_answer none = Begun
start_answer (some x) = Stopped x

-- an advance leaves its phase's store whole, and all else as it was: what a power loss in it would leave, with the whole store in its place
pub record OneStore (s : State) (a : Advances) : Type 0 where
  pub ring : (advance s.firmware s.ring s.fram a).ring
      ≡ broken_ring a.job.phase s.ring a.sizes.slots a.job (bytes_of a.job.phase a.job a.sizes.slots a.staging)
  pub fram : (advance s.firmware s.ring s.fram a).fram
      ≡ broken_fram a.job.phase s.fram a.job (bytes_of a.job.phase a.job a.sizes.slots a.staging)

unfoldable pub is_going : Progress → Bool
is_going GoingOn = true
is_going Saved = false
is_going Restored = false
is_going (Refused stop) = false

-- a start answers `stop`, if it is a number, with no job, and then leaves staging and state as they were
abbrev pub Started : Option ℕ → Begin → List ℕ → List ℕ → Type 0
Started stop b staging state =
    (b.answer ≡ start_answer stop)
    × (T (is_stop b.answer) → (b.job ≡ no_job) × (b.secret_length ≡ 0) × (b.staging ≡ staging) × (b.state ≡ state))

-- an advance answers `stop`, if it is a number, with its job and no session, and then leaves the memories as they were;
-- else it does not stop, hands out the job's session where it is not going on, and makes one store
abbrev pub Advanced : State → Advances → Option ℕ → Moved → Type 0
Advanced s a stop m =
    ((x : ℕ) → stop ≡ some x → (m.progress ≡ Refused x) × (m.ring ≡ s.ring) × (m.fram ≡ s.fram) × (m.job ≡ a.job) × (m.session ≡ no_session))
    × (stop ≡ none → (is_stopped m.progress ≡ false) × (m.session ≡ cond (is_going m.progress) no_session (session_of a.job)) × OneStore s a)

-- the call answers the first stop of its list that applies, and what a stop leaves is as it was
unfoldable pub Exact : State → Event → Type 0
Exact s (saved a) = Started (save_stop s.firmware s.ring s.fram a) (save s.firmware s.ring s.fram a) a.arguments.staging []
Exact s (powered_up a) = Started (power_up_stop s.firmware s.ring s.fram a) (power_up s.firmware s.ring s.fram a) a.staging a.state
Exact s (advanced_by a) = Advanced s a (advance_stop s.firmware s.ring s.fram a) (advance s.firmware s.ring s.fram a)
Exact s PowerLoss = Unit {0}
Exact s (updated_to firmware) = Unit {0}
Exact s (lost_in_store left) = Unit {0}

-- what the last advance of a job says
unfoldable pub ending : Origin → Progress
ending Save = Saved
ending PowerUp = Restored

-- what the draft that an advance leaves makes it say: 'going on' while a store is to come, then 'saved' or 'restored'
unfoldable pub said : Option Draft → Progress
said none = GoingOn
said (some d) = cond (to_come d.stores) GoingOn (ending d.origin)

unfoldable pub store_left : Option Draft → Bool
store_left none = false
store_left (some d) = to_come d.stores

-- an advance of the job handed out last stops exactly if no store is to come, and else says what the draft makes it say
abbrev pub Told : Setup → State → Advances → Type 0
Told u s a =
    (refused s (advanced_by a) ≡ not (store_left s.journal.draft))
    × (store_left s.journal.draft ≡ true → (advance s.firmware s.ring s.fram a).progress ≡ said (step u s (advanced_by a)).journal.draft)

unfoldable pub Follows : Setup → State → Event → Type 0
Follows u s (saved a) = Unit {0}
Follows u s (powered_up a) = Unit {0}
Follows u s (advanced_by a) = Keeps u s (advanced_by a) → Told u s a
Follows u s PowerLoss = Unit {0}
Follows u s (updated_to firmware) = Unit {0}
Follows u s (lost_in_store left) = Unit {0}

unfoldable pub Exactly : Setup → State → List Event → Type 0
Exactly u s [] = Unit {0}
Exactly u s (e ∷ more) = Exact s e × Follows u s e × Exactly u (step u s e) more

-- ---- the last power-up

-- a unit's sizes pass and its ring fits them, and the firmware takes its FRAM and its key
pub record Fits (u : Setup) (firmware : Firmware) (ring fram : List ℕ) : Type 0 where
  pub ring_right : ring_wrong u.sizes.pages u.sizes.slots ring ≡ false
  pub fram_right : fram_wrong firmware.largest_fram fram ≡ false
  pub key_right : key_wrong firmware.key_lengths (length u.key) ≡ false

-- the last power-up: the unit's sizes and key, a nonce that no start which began had, and buffers that pass 1 to 4
pub record Last (u : Setup) (s : State) (a : PowersUp) : Type 0 where
  pub sizes : a.sizes ≡ u.sizes
  pub key : a.key ≡ u.key
  pub nonce_long : length a.nonce ≡ nonce_length
  pub nonce_new : Memᴰ a.nonce s.nonces → ⊥
  pub staging : half_length s.fram ≤ length a.staging
  pub state : s.firmware.longest_part ≤ length a.state

unfoldable pub is_advance : Event → Bool
is_advance (saved a) = false
is_advance (powered_up a) = false
is_advance (advanced_by a) = true
is_advance PowerLoss = false
is_advance (updated_to firmware) = false
is_advance (lost_in_store left) = false

-- from state s the events are refused calls and advances of the job handed out last, and no power loss
unfoldable pub Uninterrupted : Setup → State → List Event → Type 0
Uninterrupted u s [] = Unit {0}
Uninterrupted u s (e ∷ more) = (T (refused s e) ⊎ (T (is_advance e) × Keeps u s e)) × Uninterrupted u (step u s e) more

-- what an advance answers, before what later ones answer
unfoldable pub answered : State → Event → List Progress → List Progress
answered s (saved a) later = later
answered s (powered_up a) later = later
answered s (advanced_by a) later = (advance s.firmware s.ring s.fram a).progress ∷ later
answered s PowerLoss later = later
answered s (updated_to firmware) later = later
answered s (lost_in_store left) later = later

-- what the advances among the events answer, without those that are refused
unfoldable pub answers : Setup → List Event → State → List Progress
answers u [] s = []
answers u (e ∷ more) s = let later = answers u more (step u s e) in cond (refused s e) later (answered s e later)

unfoldable pub with_handed : Option Handed → (Handed → List Event) → List Event
with_handed none f = []
with_handed (some h) f = f h

-- n advances, each of the job handed out last
unfoldable pub advances_of : Setup → ℕ → State → List Event
advances_of u zero s = []
advances_of u (suc n) s = with_handed s.handed (λ h.
    let e = advanced_by (record { sizes = u.sizes; job = h.job; staging = h.staging }) in e ∷ advances_of u n (step u s e))

-- in state t the checkpoint new is the journal's entry, the newest record has its nonce, the half which that record names begins with it,
-- and the session handed out last is of that record
pub record Stands (u : Setup) (t : State) (new : Checkpoint) : Type 0 where
  pub entry : t.journal.entry ≡ some new
  pub page : ℕ
  pub slot : ℕ
  pub readable : read_ring t.ring u.sizes.pages u.sizes.slots ≡ At page slot
  pub nonce : take nonce_length (slot_at t.ring u.sizes.slots page slot) ≡ new.nonce
  pub there : take (length (sealed u.key new)) (half_at t.fram (half_named (slot_at t.ring u.sizes.slots page slot))) ≡ sealed u.key new
  pub earlier : List Session
  pub session : t.sessions
      ≡ record { page = page; slot = slot; latest = slot_at t.ring u.sizes.slots page slot; tag = own_tag u.key new; restarts = new.restarts; packet = new.packet } ∷ earlier

-- from state s the power-up a resumes the entry c
pub record Resumes (u : Setup) (s : State) (a : PowersUp) (c : Checkpoint) : Type 0 where
  pub begins : (power_up s.firmware s.ring s.fram a).answer ≡ Begun
  pub length_answered : (power_up s.firmware s.ring s.fram a).secret_length ≡ length c.secret
  -- no call of a list but a power-up is lent a state buffer, and one that stops leaves its own as it was: this still holds at 'restored'
  pub restored : (power_up s.firmware s.ring s.fram a).state ≡ put a.state 0 c.secret
  -- one advance for each store to come, with only refused calls between, runs it to its end, and every such run ends so;
  -- each of its calls stops exactly where demand 1 says, a stop leaves every buffer, and an advance makes one store
  pub runs :
      let t = step u s (powered_up a) in
      let n = length (stores_of u.key u.sizes.slots s.journal (power_up_draft s.firmware.form u.key a.nonce c)) in
      Uninterrupted u t (advances_of u n t) × (length (answers u (advances_of u n t) t) ≡ n)
  pub ends :
      let t = step u s (powered_up a) in
      let n = length (stores_of u.key u.sizes.slots s.journal (power_up_draft s.firmware.form u.key a.nonce c)) in
      (events : List Event) → Uninterrupted u t events → length (answers u events t) ≡ n
      → (answers u events t ≡ replicate (n - 1) GoingOn ++ Restored ∷ []) × Exactly u t events
      × Stands u (run u t events) (power_up_draft s.firmware.form u.key a.nonce c)

-- the checkpoint that the power-up a would seal anew of the entry c is longer than a half
abbrev pub Outgrown : Setup → State → PowersUp → Checkpoint → Type 0
Outgrown u s a c = half_length s.fram < length (sealed u.key (power_up_draft s.firmware.form u.key a.nonce c))

-- 6 exactly if nothing was recorded; 13 exactly if 8 power-ups were recorded since the last record that set restarts to 0;
-- 4 exactly if there is an entry, the power-ups are not 8, and the entry sealed anew outgrows the half; and else it resumes the entry
pub record Outcome (u : Setup) (s : State) (a : PowersUp) : Type 0 where
  pub nothing : ((power_up s.firmware s.ring s.fram a).answer ≡ Stopped 6) ↔ (s.journal.entry ≡ none)
  pub worn : ((power_up s.firmware s.ring s.fram a).answer ≡ Stopped 13) ↔ (s.journal.power_ups ≡ restart_limit)
  pub outgrown : ((power_up s.firmware s.ring s.fram a).answer ≡ Stopped 4)
      ↔ ((c : Checkpoint) × (s.journal.entry ≡ some c) × (s.journal.power_ups ≡ restart_limit → ⊥) × Outgrown u s a c)
  pub resumes : (c : Checkpoint) → s.journal.entry ≡ some c → (s.journal.power_ups ≡ restart_limit → ⊥) → (Outgrown u s a c → ⊥) → Resumes u s a c

-- ---- look and its companion after the list

abbrev pub looks : Setup → Looks
looks u = record { sizes = u.sizes; key = u.key }

-- look gives 6 if nothing was recorded, else the entry's restarts, and its companion the entry's open part
pub record Seen (u : Setup) (s : State) : Type 0 where
  pub nothing : s.journal.entry ≡ none → look s.firmware s.ring s.fram (looks u) ≡ Unseen 6
  pub restarts : (c : Checkpoint) → s.journal.entry ≡ some c → look s.firmware s.ring s.fram (looks u) ≡ Restarts c.restarts
  pub open_part : (c : Checkpoint) → s.journal.entry ≡ some c → stretch_of s.fram (open_stretch s.firmware s.ring s.fram (looks u)) ≡ c.open_part

-- `firmware` is what the unit begins with, whatever its limits and the keys that it takes; memories and key are to fit what it has after the list
unfoldable pub Recovery : Type 0
Recovery =
    (u : Setup) (firmware : Firmware) (ring fram : List ℕ) → blank ring ≡ true
    → (events : List Event) → Allowed u (fresh firmware ring fram) events
    → Exactly u (fresh firmware ring fram) events
    × (let s = run u (fresh firmware ring fram) events in Fits u s.firmware ring fram → Seen u s × ((a : PowersUp) → Last u s a → Outcome u s a))
