-- What firmware does with a newest checkpoint that is beyond it (document 02, A.5): one with a part above its limit, or with a head that it does not read.
-- The conditions before 11 are tried as ever, and where none of them holds it stops with 11.
use Rattle.std.specs.Prelude.{ℕ, ◌<◌, ◌≡◌, true, ◌||◌, ◌⊎◌, List, [], ◌∷◌, ◌++◌, length}
use Rattle.std.proofs.Math.Option.{Option, none, some}
use Rattle.octets.specs.Octets.{blank}
use Rattle.stops.specs.Stops.{first_of}
use Rattle.ring.specs.Ring.{ring_wrong, is_blank, is_unreadable, nonce_used}
use Rattle.checkpoint.specs.Fram.{fram_wrong}
use Rattle.checkpoint.specs.Checkpoint.{Checkpoint, sealed}
use Rattle.checkpoint.specs.Half.{read_as, Reads, open_length, secret_length}
use Rattle.checkpoint.specs.Layout.{InRange}
use Rattle.protocol.specs.Types.{Firmware}
use Rattle.protocol.specs.Calls.{Sizes, from_tag, SaveArguments, saves, PowersUp, Looks, Setup, Event, saved}
use Rattle.protocol.specs.Operations.{key_wrong, nonce_wrong, newest_in, newest_half, staging_wrong, state_wrong, in_turn, save_checkpoint, save_stop, power_up, look_by, look, stretch_by, open_stretch}
use Rattle.protocol.specs.History.{fresh, run, Allowed}
use Rattle.protocol.specs.Recovery.{Started, Fits}
use Rattle.protocol.specs.Histories.{to_its_end}

-- a part is longer than the firmware's longest
abbrev pub AboveLimit : Firmware → Checkpoint → Type 0
AboveLimit firmware c = (firmware.longest_part < length c.open_part) ⊎ (firmware.longest_part < length c.secret)

abbrev pub Beyond : Firmware → Checkpoint → Type 0
Beyond firmware c = AboveLimit firmware c ⊎ (Reads firmware.form c.form → ⊥)

-- the half that the newest record names begins with the checkpoint c, of either form, sealed under some key
pub record Held (ring fram : List ℕ) (z : Sizes) (c : Checkpoint) : Type 0 where
  pub range : InRange c
  pub key : List ℕ
  pub behind : List ℕ
  pub there : newest_half ring fram z.slots (newest_in ring z) ≡ sealed key c ++ behind

-- a power-up's list with 11 for certain, where it so ends
unfoldable pub power_up_at_11 : Firmware → (ring fram : List ℕ) → PowersUp → Option ℕ
power_up_at_11 firmware ring fram a =
    let n = newest_in ring a.sizes in
    first_of (
    (1, ring_wrong a.sizes.pages a.sizes.slots ring) ∷
    (2, fram_wrong firmware.largest_fram fram) ∷
    (3, key_wrong firmware.key_lengths (length a.key) || nonce_wrong (length a.nonce)) ∷
    (4, staging_wrong a.staging fram || state_wrong firmware a.state) ∷
    (6, is_blank n) ∷
    (7, is_unreadable n) ∷
    in_turn firmware.order (10, nonce_used ring a.sizes.slots n a.nonce) ((11, true) ∷ []))

-- and a look's
unfoldable pub look_at_11 : Firmware → (ring fram : List ℕ) → Looks → Option ℕ
look_at_11 firmware ring fram a =
    let n = newest_in ring a.sizes in
    first_of (
    (1, ring_wrong a.sizes.pages a.sizes.slots ring) ∷
    (2, fram_wrong firmware.largest_fram fram) ∷
    (3, key_wrong firmware.key_lengths (length a.key)) ∷
    (6, is_blank n) ∷
    (7, is_unreadable n) ∷
    (11, true) ∷ [])

-- the power-up stops so, without a job, and leaves staging and state as they were
pub record PowerUpRefused (firmware : Firmware) (ring fram : List ℕ) (a : PowersUp) : Type 0 where
  pub stop : (x : ℕ) × (power_up_at_11 firmware ring fram a ≡ some x)
  pub started : Started (power_up_at_11 firmware ring fram a) (power_up firmware ring fram a) a.staging a.state

-- the look stops so, and its companion hands nothing out
pub record LookRefused (firmware : Firmware) (ring fram : List ℕ) (a : Looks) : Type 0 where
  pub stop : (x : ℕ) × (look_at_11 firmware ring fram a ≡ some x)
  pub looked : look firmware ring fram a ≡ look_by (look_at_11 firmware ring fram a) 0
  pub stretch : open_stretch firmware ring fram a ≡ stretch_by (look_at_11 firmware ring fram a) 0 0

-- of a head that it reads, firmware reads both lengths whole, however long the parts are
abbrev pub LengthsWhole : Firmware → List ℕ → Checkpoint → Type 0
LengthsWhole firmware half c =
    let form = read_as firmware.form half in
    Reads firmware.form c.form → (open_length form half ≡ length c.open_part) × (secret_length form half ≡ length c.secret)

-- any firmware, with any memories
unfoldable pub BeyondRefused : Type 0
BeyondRefused =
    (firmware : Firmware) (ring fram : List ℕ) (z : Sizes) (c : Checkpoint) → Held ring fram z c
    → (Beyond firmware c
    → ((a : PowersUp) → a.sizes ≡ z → PowerUpRefused firmware ring fram a) × ((a : Looks) → a.sizes ≡ z → LookRefused firmware ring fram a))
    × LengthsWhole firmware (newest_half ring fram z.slots (newest_in ring z)) c

-- any firmware after every list of Recovery's whose entry is beyond it, whichever firmware wrote that entry; the unit's memories and key fit some firmware
unfoldable pub BeyondAfter : Type 0
BeyondAfter =
    (u : Setup) (firmware fitting : Firmware) (ring fram : List ℕ) → blank ring ≡ true → Fits u fitting ring fram
    → (events : List Event) → Allowed u (fresh firmware ring fram) events
    → (let s = run u (fresh firmware ring fram) events in
    (c : Checkpoint) → s.journal.entry ≡ some c → (older : Firmware) → Beyond older c
    → ((a : PowersUp) → a.sizes ≡ u.sizes → PowerUpRefused older s.ring s.fram a) × ((a : Looks) → a.sizes ≡ u.sizes → LookRefused older s.ring s.fram a))

-- a save with a starting tag that does not stop, run to its end, records its parts, however long: such entries can be had (bench_values has the longest)
unfoldable pub FirstSaveRecorded : Type 0
FirstSaveRecorded =
    (u : Setup) (firmware : Firmware) (ring fram : List ℕ) (a : SaveArguments) (tag : List ℕ) → a.sizes ≡ u.sizes → a.key ≡ u.key
    → save_stop firmware ring fram (saves a (from_tag tag)) ≡ none
    → (let events = to_its_end u (fresh firmware ring fram) (saved (saves a (from_tag tag))) in
    Allowed u (fresh firmware ring fram) events
    × ((run u (fresh firmware ring fram) events).journal.entry ≡ some (save_checkpoint firmware.form (saves a (from_tag tag)))))
