-- What the operations take and answer (document 01, "What the unit calls", and document 02, A.2, A.5, A.6 and A.8). A stop is one of the papers' numbers.
use Rattle.std.specs.Prelude.{ℕ, ◌≤◌, List}
use Rattle.std.proofs.Common.{lit≤}
use Rattle.octets.specs.Limits.{fram_limit, older_fram_limit, part_limit, older_part_limit, part_most, key_lengths, older_key_lengths}
use Rattle.checkpoint.specs.Checkpoint.{Form, Older, Longer}

-- which a power-up tries before the other: the stop of a used nonce, or those about the half that the newest record names
pub data Order : Type 0 where
  NonceFirst : Order
  HalfFirst : Order

-- a unit's firmware: the form of the heads that it writes, the order of its power-up's stops, and the longest part, the largest FRAM image and the
-- lengths of keys that it takes; the length of the longest part fits a word of the head
pub record Firmware : Type 0 where
  pub form : Form
  pub order : Order
  pub longest_part : ℕ
  pub largest_fram : ℕ
  pub key_lengths : List ℕ
  pub fits_word : longest_part ≤ part_most

-- document 01's, those of document 02's A.2 and A.5, that of A.6 and A.7, and that of A.8, which is the code's
abbrev pub first_firmware : Firmware
first_firmware = record { form = Older; order = NonceFirst; longest_part = older_part_limit; largest_fram = older_fram_limit; key_lengths = older_key_lengths; fits_word = lit≤ tt }

abbrev pub packet_firmware : Firmware
packet_firmware = record { form = Longer; order = NonceFirst; longest_part = older_part_limit; largest_fram = older_fram_limit; key_lengths = older_key_lengths; fits_word = lit≤ tt }

abbrev pub larger_firmware : Firmware
larger_firmware = record { form = Longer; order = NonceFirst; longest_part = part_limit; largest_fram = fram_limit; key_lengths = older_key_lengths; fits_word = lit≤ tt }

abbrev pub half_first_firmware : Firmware
half_first_firmware = record { form = Longer; order = HalfFirst; longest_part = part_limit; largest_fram = fram_limit; key_lengths = older_key_lengths; fits_word = lit≤ tt }

abbrev pub this_firmware : Firmware
this_firmware = record { form = Longer; order = HalfFirst; longest_part = part_limit; largest_fram = fram_limit; key_lengths = key_lengths; fits_word = lit≤ tt }

-- the next store of a job: the page to erase, or the number of the word to store
pub data Phase : Type 0 where
  EraseFirst : ℕ → Phase
  Words : ℕ → Phase
  Record : Phase
  EraseAfter : ℕ → Phase
  Done : Phase

-- which start a job came from
pub data Origin : Type 0 where
  Save : Origin
  PowerUp : Origin

-- half 0 is A and half 1 is B; page and slot are the target; tag, restarts and packet number are its checkpoint's (document 01's
-- firmware does not hold the last two, and at Older nothing reads them)
pub record Job : Type 0 where
  pub phase : Phase
  pub origin : Origin
  pub half : ℕ
  pub length : ℕ
  pub page : ℕ
  pub slot : ℕ
  pub nonce : List ℕ
  pub tag : List ℕ
  pub restarts : ℕ
  pub packet : ℕ

-- the newest record and where it stands, and its checkpoint's tag, restarts and packet number (the last two as in a job)
pub record Session : Type 0 where
  pub page : ℕ
  pub slot : ℕ
  pub latest : List ℕ
  pub tag : List ℕ
  pub restarts : ℕ
  pub packet : ℕ

-- what an advance answers
pub data Progress : Type 0 where
  GoingOn : Progress
  Saved : Progress
  Restored : Progress
  Refused : ℕ → Progress

-- what a start answers
pub data Start : Type 0 where
  Begun : Start
  Stopped : ℕ → Start

-- what look answers: the restarts of the newest checkpoint, or a stop
pub data Looked : Type 0 where
  Restarts : ℕ → Looked
  Unseen : ℕ → Looked

-- a stretch of a lent image
pub record Stretch : Type 0 where
  pub offset : ℕ
  pub length : ℕ
