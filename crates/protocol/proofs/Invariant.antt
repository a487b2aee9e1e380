-- What holds of memories, jobs, sessions and the journal after every list of calls and power losses.
use Prim.Native.Nat.{ℕ, suc, ◌+◌, ◌-◌, ◌*◌, ◌%◌, ◌≤◌}
use mathlib.Core.Path.{◌≡◌}
use mathlib.Core.Bool.{Bool, true, false, ◌&&◌}
use mathlib.Core.Logic.{◌⊎◌}
use mathlib.Core.Option.{Option, none, some}
use mathlib.Core.List.{List, [], ◌∷◌, ◌++◌, Memᴰ}
use lib.ListN.{length, take, replicate}
use lib.Dec.{eqb, ltb}
use Rattle.octets.specs.Limits.{nonce_length}
use Rattle.octets.specs.Octets.{blank}
use Rattle.octets.proofs.Laws.{Written}
use Rattle.ring.specs.Ring.{ring_wrong, page_before, record_of}
use Rattle.ring.proofs.RingLaws.{Ringed, page_of, slot_of, last}
use Rattle.checkpoint.proofs.FramLaws.{Image}
use Rattle.checkpoint.specs.Checkpoint.{Checkpoint, own_tag, sealed, sealed_length}
use Rattle.checkpoint.specs.Layout.{InRange}
use Rattle.checkpoint.proofs.SealedLaws.{length_sealed}
use Rattle.checkpoint.specs.Half.{Reads}
use Rattle.checkpoint.specs.Fram.{fram_wrong, half_length}
use Rattle.protocol.specs.Types.{Firmware, Origin, Session, Phase, EraseFirst, Words, Record, EraseAfter, Done, Progress, GoingOn}
use Rattle.protocol.specs.Calls.{Setup}
use Rattle.protocol.specs.Operations.{finished}
use Rattle.protocol.specs.Journal.{Draft, Store, erase, word, record_slot, erase_if}
use Rattle.protocol.specs.History.{State, Handed}

-- the half of the last of `count` records: they alternate, from half A on
abbrev pub half_of : ℕ → ℕ
half_of count = (count - 1) % 2

-- the page and the slot of the n-th record, and the page that awaits erasing where an erase is owed
abbrev pub page_in : Setup → ℕ → ℕ
page_in u n = page_of u.sizes.pages u.sizes.slots n

abbrev pub slot_in : Setup → ℕ → ℕ
slot_in u n = slot_of u.sizes.slots n

abbrev pub owed_page : Setup → State → ℕ
owed_page u s = page_before u.sizes.pages (page_in u s.journal.count)

-- a checkpoint in range, with a nonce, which fits a half of `size` bytes
pub record Good (c : Checkpoint) (size : ℕ) : Type 0 where
  pub range : InRange c
  pub nonce_long : length c.nonce ≡ nonce_length
  pub fits : sealed_length c.form (length c.open_part) (length c.secret) ≤ size

pub length_good : (key : List ℕ) {c : Checkpoint} {size : ℕ} → Good c size → length (sealed key c) ≡ sealed_length c.form (length c.open_part) (length c.secret)
length_good key {c} g = length_sealed key c g.range.previous_long

pub sealed_fits : (key : List ℕ) {c : Checkpoint} {size : ℕ} → Good c size → length (sealed key c) ≤ size
sealed_fits key g = rw (length_good key g) g.fits

-- both parts are not longer than the firmware's longest
abbrev pub Small : Firmware → Checkpoint → Type 0
Small firmware c = (length c.open_part ≤ firmware.longest_part) × (length c.secret ≤ firmware.longest_part)

-- the firmware reads a checkpoint's head and takes its parts
abbrev pub ReadBy : Firmware → Checkpoint → Type 0
ReadBy firmware c = Reads firmware.form c.form × Small firmware c

-- nothing was recorded
pub record Untouched (ring : List ℕ) (entry : Option Checkpoint) (count : ℕ) (owed : Bool) (power_ups : ℕ) : Type 0 where
  pub no_entry : entry ≡ none
  pub no_record : count ≡ 0
  pub none_owed : owed ≡ false
  pub no_power_up : power_ups ≡ 0
  pub ring_blank : blank ring ≡ true

-- the checkpoint c was recorded last
pub record Recorded (u : Setup) (ring fram : List ℕ) (nonces : List (List ℕ)) (entry : Option Checkpoint) (count : ℕ) (owed : Bool) (power_ups : ℕ)
    (c : Checkpoint) : Type 0 where
  pub entry_is : entry ≡ some c
  pub recs : List (List ℕ)
  pub ringed : Ringed u.sizes.pages u.sizes.slots ring count owed recs
  pub latest : last recs ≡ record_of c.nonce (half_of count)
  pub good : Good c (half_length fram)
  pub restarts_are : power_ups ≡ c.restarts
  pub there : Written fram (half_of count * half_length fram) (length (sealed u.key c)) (sealed u.key c)
  pub known : (r : List ℕ) → Memᴰ r recs → Memᴰ (take nonce_length r) nonces

abbrev pub Durable : Setup → List ℕ → List ℕ → List (List ℕ) → Option Checkpoint → ℕ → Bool → ℕ → Type 0
Durable u ring fram nonces entry count owed power_ups =
    Untouched ring entry count owed power_ups ⊎ ((c : Checkpoint) × Recorded u ring fram nonces entry count owed power_ups c)

-- the same for the journal of state s, with these memories and this mark of an owed erase
abbrev pub DurableAt : Setup → State → List ℕ → List ℕ → Bool → Type 0
DurableAt u s ring fram owed = Durable u ring fram s.nonces s.journal.entry s.journal.count owed s.journal.power_ups

-- the draft of checkpoint c: once it is recorded, as many power-ups are as it has restarts
abbrev pub draft_of : Checkpoint → Origin → List Store → Draft
draft_of c origin stores = record { checkpoint = c; origin = origin; power_ups = c.restarts; stores = stores }

-- a job matches the draft of checkpoint c, whose record is or will be the n-th, and `stores` are to come
pub record Working (u : Setup) (s : State) (h : Handed) (n : ℕ) (stores : List Store) : Type 0 where
  pub c : Checkpoint
  pub origin : Origin
  pub form_is : c.form ≡ s.firmware.form
  pub small : Small s.firmware c
  pub fram_fits : fram_wrong s.firmware.largest_fram s.fram ≡ false
  pub draft_is : s.journal.draft ≡ some (draft_of c origin stores)
  pub good : Good c (half_length s.fram)
  pub nonce_known : Memᴰ c.nonce s.nonces
  pub length_is : h.job.length ≡ length (sealed u.key c)
  pub origin_is : h.job.origin ≡ origin
  pub half_is : h.job.half ≡ half_of n
  pub page_is : h.job.page ≡ page_in u n
  pub slot_is : h.job.slot ≡ slot_in u n
  pub nonce_is : h.job.nonce ≡ c.nonce
  pub tag_is : h.job.tag ≡ own_tag u.key c
  pub restarts_is : h.job.restarts ≡ c.restarts
  pub packet_is : h.job.packet ≡ c.packet
  pub staging_long : half_length s.fram ≤ length h.staging
  pub staged : Written h.staging 0 (length (sealed u.key c)) (sealed u.key c)

-- its record is to come
pub record Before (u : Setup) (s : State) (h : Handed) (stores : List Store) : Type 0 where
  pub working : Working u s h (s.journal.count + 1) stores
  pub unlike : (z : Session) → Memᴰ z s.sessions → take nonce_length z.latest ≡ working.c.nonce → ⊥

abbrev pub last_erase : Setup → State → List Store
last_erase u s = erase_if (ltb 0 s.journal.count && eqb (s.journal.count % u.sizes.slots) 0)

-- the bytes stored so far
abbrev pub Stored : Setup → State → Handed → ℕ → Checkpoint → Type 0
Stored u s h n c = Written s.fram (h.job.half * half_length s.fram) n (sealed u.key c)

pub record ErasingFirst (u : Setup) (s : State) (h : Handed) (p : ℕ) : Type 0 where
  pub left : ℕ
  pub left_is : 4 * suc left ≡ h.job.length
  pub before : Before u s h (erase ∷ word ∷ (replicate left word ++ record_slot ∷ last_erase u s))
  pub owed : s.journal.owed ≡ true
  pub page_is : p ≡ owed_page u s

pub record Writing (u : Setup) (s : State) (h : Handed) (w : ℕ) : Type 0 where
  pub left : ℕ
  pub left_is : 4 * (w + suc left) ≡ h.job.length
  pub before : Before u s h (word ∷ (replicate left word ++ record_slot ∷ last_erase u s))
  pub owed : s.journal.owed ≡ false
  pub stored : Stored u s h (4 * w) before.working.c

pub record Recording (u : Setup) (s : State) (h : Handed) : Type 0 where
  pub before : Before u s h (record_slot ∷ last_erase u s)
  pub owed : s.journal.owed ≡ false
  pub stored : Stored u s h h.job.length before.working.c

pub record ErasingAfter (u : Setup) (s : State) (h : Handed) (p : ℕ) : Type 0 where
  pub working : Working u s h s.journal.count (erase ∷ [])
  pub recorded : s.journal.entry ≡ some working.c
  pub owed : s.journal.owed ≡ true
  pub page_is : p ≡ owed_page u s

abbrev pub Doing : Setup → State → Handed → Phase → Type 0
Doing u s h (EraseFirst p) = ErasingFirst u s h p
Doing u s h (Words w) = Writing u s h w
Doing u s h Record = Recording u s h
Doing u s h (EraseAfter p) = ErasingAfter u s h p
Doing u s h Done = (d : Draft) × (s.journal.draft ≡ some d) × (d.stores ≡ [])

-- a session has the tag, the restarts and the packet number of checkpoint c
abbrev pub Matches : Setup → Session → Checkpoint → Type 0
Matches u z c = (z.tag ≡ own_tag u.key c) × (z.restarts ≡ c.restarts) × (z.packet ≡ c.packet)

pub record Holds (u : Setup) (s : State) : Type 0 where
  pub ring_right : ring_wrong u.sizes.pages u.sizes.slots s.ring ≡ false
  -- an image, though the firmware may not take so large a one
  pub fram_right : Image s.fram
  pub durable : DurableAt u s s.ring s.fram s.journal.owed
  pub sessions_known : (z : Session) → Memᴰ z s.sessions → Memᴰ (take nonce_length z.latest) s.nonces
  pub sessions_match : (z : Session) → Memᴰ z s.sessions → (c : Checkpoint) → s.journal.entry ≡ some c
      → take nonce_length z.latest ≡ c.nonce → Matches u z c
  pub reads_entry : (c : Checkpoint) → s.journal.entry ≡ some c → ReadBy s.firmware c
  pub doing : (h : Handed) → s.handed ≡ some h → Doing u s h h.job.phase

-- ---- after one advance

abbrev pub answer_of : Origin → List Store → Progress
answer_of origin [] = finished origin
answer_of origin (x ∷ rest) = GoingOn

-- the session of the n-th record, which is of checkpoint c
abbrev pub session_in : Setup → ℕ → Checkpoint → Session
session_in u n c = record { page = page_in u n; slot = slot_in u n; latest = record_of c.nonce (half_of n); tag = own_tag u.key c; restarts = c.restarts; packet = c.packet }

-- the draft of checkpoint c has no store to come
pub record Ended (u : Setup) (t : State) (c : Checkpoint) : Type 0 where
  pub entry : t.journal.entry ≡ some c
  pub owed : t.journal.owed ≡ false
  pub earlier : List Session
  pub session : t.sessions ≡ session_in u t.journal.count c ∷ earlier

pub record Moving (u : Setup) (t : State) (answer : Progress) (c : Checkpoint) (origin : Origin) (rest : List Store) : Type 0 where
  pub holds : Holds u t
  pub answered : answer ≡ answer_of origin rest
  pub draft_is : t.journal.draft ≡ some (draft_of c origin rest)
  pub handed : Handed
  pub handed_is : t.handed ≡ some handed
  pub ended : rest ≡ [] → Ended u t c
