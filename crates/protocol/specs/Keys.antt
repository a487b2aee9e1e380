-- The lengths of keys (document 02, A.8): the code's firmware takes keys of 16 bytes and of 32, and firmware before it of 32 alone; what firmware
-- does with a key of another length; and that a unit with a key of either length fits the code's firmware, which is all that Recovery asks of a key.
use Rattle.std.specs.Prelude.{ℕ, ◌≡◌, true, false, ◌↔◌, ◌⊎◌, List, [], ◌∷◌, length}
use Rattle.std.proofs.Math.Option.{Option}
use Rattle.stops.specs.Stops.{first_of}
use Rattle.ring.specs.Ring.{ring_wrong}
use Rattle.checkpoint.specs.Fram.{fram_wrong}
use Rattle.protocol.specs.Types.{Firmware, first_firmware, packet_firmware, larger_firmware, half_first_firmware, this_firmware}
use Rattle.protocol.specs.Calls.{Sizes, Saves, PowersUp, Looks, Setup}
use Rattle.protocol.specs.Operations as operations
use Rattle.protocol.specs.Operations.{key_wrong, look_by, open_stretch, stretch_by}
use Rattle.protocol.specs.Recovery.{Started, Fits}

abbrev pub LongAlone : Firmware → Type 0
LongAlone firmware = (n : ℕ) → (key_wrong firmware.key_lengths n ≡ false) ↔ (n ≡ 32)

pub record Taken : Type 0 where
  pub now : (n : ℕ) → (key_wrong this_firmware.key_lengths n ≡ false) ↔ ((n ≡ 16) ⊎ (n ≡ 32))
  pub before : LongAlone first_firmware × LongAlone packet_firmware × LongAlone larger_firmware × LongAlone half_first_firmware

-- a list of stops with 3 for certain, where it so ends
unfoldable pub stop_at_3 : Firmware → (ring fram : List ℕ) → Sizes → Option ℕ
stop_at_3 firmware ring fram z = first_of (
    (1, ring_wrong z.pages z.slots ring) ∷
    (2, fram_wrong firmware.largest_fram fram) ∷
    (3, true) ∷ [])

-- with a key that the firmware does not take every start and look stops so; a start hands out no job and leaves its buffers as they were, and look's
-- companion hands nothing out
pub record Refused (firmware : Firmware) (ring fram : List ℕ) : Type 0 where
  pub save : (a : Saves) → key_wrong firmware.key_lengths (length a.arguments.key) ≡ true
      → Started (stop_at_3 firmware ring fram a.arguments.sizes) (operations.save firmware ring fram a) a.arguments.staging []
  pub power_up : (a : PowersUp) → key_wrong firmware.key_lengths (length a.key) ≡ true
      → Started (stop_at_3 firmware ring fram a.sizes) (operations.power_up firmware ring fram a) a.staging a.state
  pub look : (a : Looks) → key_wrong firmware.key_lengths (length a.key) ≡ true
      → (operations.look firmware ring fram a ≡ look_by (stop_at_3 firmware ring fram a.sizes) 0)
      × (open_stretch firmware ring fram a ≡ stretch_by (stop_at_3 firmware ring fram a.sizes) 0 0)

-- the key, and so its length, is one of a unit's fixed facts
abbrev pub EitherFits : Type 0
EitherFits =
    (u : Setup) (ring fram : List ℕ) → ring_wrong u.sizes.pages u.sizes.slots ring ≡ false → fram_wrong this_firmware.largest_fram fram ≡ false
    → (length u.key ≡ 16) ⊎ (length u.key ≡ 32) → Fits u this_firmware ring fram

-- any firmware, with any memories
unfoldable pub KeyLengths : Type 0
KeyLengths = Taken × ((firmware : Firmware) (ring fram : List ℕ) → Refused firmware ring fram) × EitherFits
