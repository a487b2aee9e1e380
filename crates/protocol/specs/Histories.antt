-- The theorem's premises can be met: every unit, with any firmware, has lists that record as many checkpoints as one likes, and up to
-- eight power-ups in a row; there are lists of stale repeats and of a newer packet, with a power loss in an erase, and with an update.
use Rattle.std.specs.Prelude.{ℕ, zero, suc, ◌+◌, ◌-◌, ◌*◌, ◌/◌, ◌%◌, ◌^◌, ◌≤◌, ◌<◌, ◌≡◌, true, false, List, [], ◌∷◌, ◌++◌, length, replicate}
use Rattle.std.proofs.Math.Option.{Option, none, some}
use Rattle.octets.specs.Limits.{pages_least, slots_least, slot_length, long_key, restart_limit, nonce_length, tag_length}
use Rattle.octets.specs.Octets.{blank, erased, bytes}
use Rattle.ring.specs.Ring.{At, AtPending, read_ring}
use Rattle.checkpoint.specs.Checkpoint.{Form, Older, Longer, Checkpoint, empty_length}
use Rattle.checkpoint.specs.Fram.{half_length}
use Rattle.protocol.specs.Types.{Firmware, first_firmware, packet_firmware, larger_firmware, half_first_firmware, this_firmware, Session, EraseFirst, Stopped}
use Rattle.protocol.specs.Calls.{sizes, from_tag, from_session, SaveArguments, Saves, saves, PowersUp, Setup, Event, saved, powered_up, updated_to, lost_in_store}
use Rattle.protocol.specs.Operations.{key_wrong, power_up}
use Rattle.protocol.specs.Journal.{Draft}
use Rattle.protocol.specs.History.{State, fresh, step, run, Succeeds, Allowed}
use Rattle.protocol.specs.Recovery.{advances_of, Fits}

-- ---- a start run to its end

unfoldable pub stores_left : Option Draft → ℕ
stores_left none = 0
stores_left (some d) = length d.stores

-- a start, and then one advance for each store to come
unfoldable pub to_its_end : Setup → State → Event → List Event
to_its_end u s e = let t = step u s e in e ∷ advances_of u (stores_left t.journal.draft) t

-- ---- starts with empty parts and numbered nonces

-- a staging buffer for any FRAM that the firmware takes, and a state buffer
unfoldable pub staging_room : Firmware → List ℕ
staging_room firmware = replicate (firmware.largest_fram / 2) 0

unfoldable pub state_room : Firmware → List ℕ
state_room firmware = replicate firmware.longest_part 0

abbrev pub numbered_arguments : Setup → Firmware → ℕ → ℕ → SaveArguments
numbered_arguments u firmware i packet =
    record { sizes = u.sizes; key = u.key; nonce = bytes nonce_length i; packet = packet; open_part = []; secret = []; staging = staging_room firmware }

abbrev pub numbered_first : Setup → Firmware → ℕ → Saves
numbered_first u firmware i = saves (numbered_arguments u firmware i 0) (from_tag (replicate tag_length 0))

abbrev pub numbered_save : Setup → Firmware → ℕ → ℕ → Session → Saves
numbered_save u firmware i packet z = saves (numbered_arguments u firmware i packet) (from_session z)

abbrev pub numbered_power_up : Setup → Firmware → ℕ → PowersUp
numbered_power_up u firmware i = record { sizes = u.sizes; key = u.key; nonce = bytes nonce_length i; staging = staging_room firmware; state = state_room firmware }

-- ---- lists of them

unfoldable pub with_session : List Session → (Session → List Event) → List Event
with_session [] f = []
with_session (z ∷ earlier) f = f z

-- n saves, each with the session handed out last and packet number 0, numbered from i on
unfoldable pub saves_on : Setup → ℕ → ℕ → State → List Event
saves_on u i zero s = []
saves_on u i (suc n) s = with_session s.sessions (λ z.
    let events = to_its_end u s (saved (numbered_save u s.firmware i 0 z)) in events ++ saves_on u (suc i) n (run u s events))

-- n power-ups, numbered from i on
unfoldable pub power_ups_on : Setup → ℕ → ℕ → State → List Event
power_ups_on u i zero s = []
power_ups_on u i (suc n) s =
    let events = to_its_end u s (powered_up (numbered_power_up u s.firmware i)) in events ++ power_ups_on u (suc i) n (run u s events)

-- a first save, then n saves, then k power-ups
unfoldable pub history : Setup → State → ℕ → ℕ → List Event
history u s n k =
    let first = to_its_end u s (saved (numbered_first u s.firmware 0)) in
    let saves = saves_on u 1 n (run u s first) in
    first ++ (saves ++ power_ups_on u (n + 1) k (run u (run u s first) saves))

-- the list is allowed, and after it the newest record is the (n + k + 1)-th, in its place on the ring, and k power-ups are recorded in a row
pub record Reached (u : Setup) (s : State) (events : List Event) (n k : ℕ) : Type 0 where
  pub allowed : Allowed u s events
  pub count : (run u s events).journal.count ≡ n + k + 1
  pub power_ups : (run u s events).journal.power_ups ≡ k
  pub newest : read_ring (run u s events).ring u.sizes.pages u.sizes.slots ≡ At ((n + k) / u.sizes.slots % u.sizes.pages) ((n + k) % u.sizes.slots)

-- for every unit whose halves have room; the bound is that of a 12-byte number, since no nonce repeats
unfoldable pub Reachable : Type 0
Reachable =
    (u : Setup) (firmware : Firmware) (ring fram : List ℕ) → blank ring ≡ true → Fits u firmware ring fram → empty_length firmware.form ≤ half_length fram
    → (n k : ℕ) → k ≤ restart_limit → n + k + 1 < 2 ^ 96 → Reached u (fresh firmware ring fram) (history u (fresh firmware ring fram) n k) n k

-- ---- stale repeats

-- n times a power-up and a save with the session that it hands out, numbered from i on
unfoldable pub repeats_on : Setup → ℕ → ℕ → State → List Event
repeats_on u i zero s = []
repeats_on u i (suc n) s =
    let up = to_its_end u s (powered_up (numbered_power_up u s.firmware i)) in
    let t = run u s up in
    let again = saves_on u (suc i) 1 t in
    up ++ (again ++ repeats_on u (suc (suc i)) n (run u t again))

-- a first save, then k such repeats: in the longer form no save sets restarts to 0, since each brings packet number 0 again, and so k power-ups are counted
unfoldable pub repeats : Setup → State → ℕ → List Event
repeats u s k = let first = to_its_end u s (saved (numbered_first u s.firmware 0)) in first ++ repeats_on u 1 k (run u s first)

unfoldable pub StaleRepeats : Type 0
StaleRepeats =
    (u : Setup) (firmware : Firmware) → firmware.form ≡ Longer
    → (ring fram : List ℕ) → blank ring ≡ true → Fits u firmware ring fram → empty_length Longer ≤ half_length fram → (k : ℕ) → k ≤ restart_limit
    → let events = repeats u (fresh firmware ring fram) k in
    let s = run u (fresh firmware ring fram) events in
    Allowed u (fresh firmware ring fram) events × (s.journal.power_ups ≡ k) × (s.journal.count ≡ 2 * k + 1)

-- ---- a newer packet

-- a first save, k power-ups, and a save that has heard packet 1
unfoldable pub newer : Setup → State → ℕ → List Event
newer u s k =
    let before = history u s 0 k in
    let t = run u s before in
    before ++ with_session t.sessions (λ z. to_its_end u t (saved (numbered_save u t.firmware (k + 1) 1 z)))

-- it sets restarts to 0, and its packet number is stored
unfoldable pub NewerPacket : Type 0
NewerPacket =
    (u : Setup) (firmware : Firmware) → firmware.form ≡ Longer
    → (ring fram : List ℕ) → blank ring ≡ true → Fits u firmware ring fram → empty_length Longer ≤ half_length fram → (k : ℕ) → k ≤ restart_limit
    → let events = newer u (fresh firmware ring fram) k in
    let s = run u (fresh firmware ring fram) events in
    Allowed u (fresh firmware ring fram) events × (s.journal.power_ups ≡ 0)
    × (c : Checkpoint) × (s.journal.entry ≡ some c) × (c.restarts ≡ 0) × (c.packet ≡ 1)

-- ---- an update

-- the papers' firmwares follow on each other
unfoldable pub InOrder : Type 0
InOrder = Succeeds first_firmware packet_firmware × Succeeds packet_firmware larger_firmware × Succeeds larger_firmware half_first_firmware × Succeeds half_first_firmware this_firmware

-- a first save and m power-ups, the update to the next firmware, and k power-ups of that one
unfoldable pub updating : Setup → State → Firmware → ℕ → ℕ → List Event
updating u s next m k =
    let older = history u s 0 m in
    older ++ updated_to next ∷ power_ups_on u (m + 1) k (step u (run u s older) (updated_to next))

-- where halves have room for either firmware's form, k + 1 power-ups after the update are counted with those before it, and the entry is of the next one's form
unfoldable pub Updates : Type 0
Updates =
    (u : Setup) (firmware next : Firmware) → Succeeds firmware next
    → (ring fram : List ℕ) → blank ring ≡ true → Fits u firmware ring fram → Fits u next ring fram
    → empty_length firmware.form ≤ half_length fram → empty_length next.form ≤ half_length fram → (m k : ℕ) → m + k < restart_limit
    → let events = updating u (fresh firmware ring fram) next m (suc k) in
    let s = run u (fresh firmware ring fram) events in
    Allowed u (fresh firmware ring fram) events × (s.journal.power_ups ≡ m + k + 1)
    × (c : Checkpoint) × (s.journal.entry ≡ some c) × (c.form ≡ next.form)

-- ---- lists of the smallest unit

unfoldable pub smallest : Setup
smallest = record { sizes = sizes pages_least slots_least; key = replicate long_key 0 }

-- the smallest FRAM that holds checkpoints of a form: 88 bytes or 96
abbrev pub bench_fram : Form → List ℕ
bench_fram room = replicate (2 * empty_length room) 0

-- firmware with a blank ring of 6 slots and a FRAM that holds checkpoints of the form `room`
unfoldable pub bench_state : Firmware → Form → State
bench_state firmware room = fresh firmware (erased (slot_length * 6)) (bench_fram room)

-- a start, and then an advance for each store to come but the last, in which the power fails and leaves `left`
unfoldable pub but_the_last : Setup → State → Event → List ℕ → List Event
but_the_last u s e left = let t = step u s e in (e ∷ advances_of u (stores_left t.journal.draft - 1) t) ++ lost_in_store left ∷ []

-- a first save and two saves; the third record is the first of page 1, and the power fails in the erase of page 0 after it, which leaves zeros
unfoldable pub interrupted : Firmware → Form → List Event
interrupted firmware room =
    let two = history smallest (bench_state firmware room) 1 0 in
    let s = run smallest (bench_state firmware room) two in
    two ++ with_session s.sessions (λ z. but_the_last smallest s (saved (numbered_save smallest s.firmware 2 0 z)) (replicate (slot_length * slots_least) 0))

abbrev pub interrupted_unit : Firmware → Form → State
interrupted_unit firmware room = run smallest (bench_state firmware room) (interrupted firmware room)

-- page 0 is then pending; a power-up erases it first, and run to its end leaves its own record behind the third
pub record Interrupted (firmware : Firmware) (room : Form) : Type 0 where
  pub pending : read_ring (interrupted_unit firmware room).ring pages_least slots_least ≡ AtPending 1 0
  pub erases_first : let s = interrupted_unit firmware room in (power_up s.firmware s.ring s.fram (numbered_power_up smallest s.firmware 3)).job.phase ≡ EraseFirst 0
  pub allowed :
      let s = interrupted_unit firmware room in
      Allowed smallest (bench_state firmware room) (interrupted firmware room ++ to_its_end smallest s (powered_up (numbered_power_up smallest s.firmware 3)))
  pub newest :
      let s = interrupted_unit firmware room in
      let events = to_its_end smallest s (powered_up (numbered_power_up smallest s.firmware 3)) in
      read_ring (run smallest (bench_state firmware room) (interrupted firmware room ++ events)).ring pages_least slots_least ≡ At 1 1

-- eight power-ups in a row after the first save; six saves after it, so that the seventh record is the first of the second round; and a power loss;
-- for all firmware that takes so small a FRAM and a key of 32 bytes
unfoldable pub Examples : Type 0
Examples =
    (firmware : Firmware) → 2 * empty_length firmware.form ≤ firmware.largest_fram → key_wrong firmware.key_lengths long_key ≡ false
    → let s = bench_state firmware firmware.form in
    Reached smallest s (history smallest s 0 restart_limit) 0 restart_limit × Reached smallest s (history smallest s 6 0) 6 0 × Interrupted firmware firmware.form

-- document 01's firmware, whose power failed in the erase, and which was updated then
abbrev pub updated_unit : State
updated_unit = step smallest (interrupted_unit first_firmware Longer) (updated_to this_firmware)

-- all of that, a power-up and a save
abbrev pub updated_events : List Event
updated_events =
    let up = to_its_end smallest updated_unit (powered_up (numbered_power_up smallest updated_unit.firmware 3)) in
    interrupted first_firmware Longer ++ updated_to this_firmware ∷ (up ++ saves_on smallest 4 1 (run smallest updated_unit up))

-- the power-up erases first, and its restart is kept by the save, whose record is the fifth
pub record UpdatedInErase : Type 0 where
  pub erases_first : (power_up updated_unit.firmware updated_unit.ring updated_unit.fram (numbered_power_up smallest updated_unit.firmware 3)).job.phase ≡ EraseFirst 0
  pub allowed : Allowed smallest (bench_state first_firmware Longer) updated_events
  pub newest : read_ring (run smallest (bench_state first_firmware Longer) updated_events).ring pages_least slots_least ≡ At 2 0
  pub power_ups : (run smallest (bench_state first_firmware Longer) updated_events).journal.power_ups ≡ 1

-- a unit with 88 bytes of FRAM, updated after its first save: the checkpoint sealed anew outgrows the half, and the power-up gives 4
unfoldable pub OutgrownExample : Type 0
OutgrownExample =
    let events = history smallest (bench_state first_firmware Older) 0 0 ++ updated_to this_firmware ∷ [] in
    let s = run smallest (bench_state first_firmware Older) events in
    Allowed smallest (bench_state first_firmware Older) events × ((power_up s.firmware s.ring s.fram (numbered_power_up smallest s.firmware 1)).answer ≡ Stopped 4)
