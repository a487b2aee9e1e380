-- The reference that the theorem compares with (document 01, "Runs, cuts and the book": the book; and document 02, A.2).
-- It never sees the memories: `entered` is its only way to change.
use Rattle.std.specs.Prelude.{ℕ, ◌+◌, ◌/◌, ◌%◌, Bool, true, false, not, cond, ◌&&◌, List, [], ◌∷◌, ◌++◌, length, replicate, eqb, ltb}
use Rattle.std.proofs.Math.Option.{Option, none, some}
use Rattle.octets.specs.Octets.{blank}
use Rattle.checkpoint.specs.Checkpoint.{Form, Older, Longer, Checkpoint, sealed, own_tag}
use Rattle.protocol.specs.Types.{Origin, Save, PowerUp}
use Rattle.protocol.specs.Calls.{From, from_tag, from_session, SaveArguments, Setup, Event, saved, powered_up, advanced_by, PowerLoss, updated_to, lost_in_store}

-- a store to come
pub data Store : Type 0 where
  erase : Store
  word : Store
  record_slot : Store

-- a checkpoint that is not recorded yet, and its stores to come
pub record Draft : Type 0 where
  pub checkpoint : Checkpoint
  pub origin : Origin
  -- the journal's power-ups once it is recorded: fixed when it is drafted
  pub power_ups : ℕ
  pub stores : List Store

-- the entry is the checkpoint recorded last; `count` counts the records, and an erase is `owed` or not
pub record Journal : Type 0 where
  pub entry : Option Checkpoint
  pub count : ℕ
  pub owed : Bool
  pub draft : Option Draft
  -- power-ups recorded since the last record that set restarts to 0
  pub power_ups : ℕ

-- ---- the checkpoints of drafts, from the papers' words and not from the operations; `form` is that of the heads which the call writes

-- in the older form the packet number is 0
unfoldable pub number_in : Form → ℕ → ℕ
number_in Older packet = 0
number_in Longer packet = packet

-- a save's with a starting tag
unfoldable pub first_draft : Form → SaveArguments → List ℕ → Checkpoint
first_draft form a starting_tag = record {
  form = form;
  packet = number_in form a.packet;
  open_part = a.open_part;
  secret = a.secret;
  restarts = 0;
  previous = starting_tag;
  nonce = a.nonce;
}

-- a save with a session sets restarts to 0 if it brings a packet number above the entry's; every save of the older form does
unfoldable pub starts_over : Form → ℕ → Checkpoint → Bool
starts_over Older packet c = true
starts_over Longer packet c = ltb c.packet packet

-- and its draft, with the entry c: the larger packet number is stored
unfoldable pub save_draft : Form → List ℕ → SaveArguments → Checkpoint → Checkpoint
save_draft form key a c = record {
  form = form;
  packet = number_in form (cond (ltb c.packet a.packet) a.packet c.packet);
  open_part = a.open_part;
  secret = a.secret;
  restarts = cond (starts_over form a.packet c) 0 c.restarts;
  previous = own_tag key c;
  nonce = a.nonce;
}

-- a power-up's, with the entry c: it keeps the packet number
unfoldable pub power_up_draft : Form → List ℕ → List ℕ → Checkpoint → Checkpoint
power_up_draft form key nonce c = record {
  form = form;
  packet = c.packet;
  open_part = c.open_part;
  secret = c.secret;
  restarts = c.restarts + 1;
  previous = own_tag key c;
  nonce = nonce;
}

-- ---- the journal

unfoldable pub empty : Journal
empty = record { entry = none; count = 0; owed = false; draft = none; power_ups = 0 }

unfoldable pub erase_if : Bool → List Store
erase_if true = erase ∷ []
erase_if false = []

-- an erase if owed, a word for each 4 bytes, the record, and an erase if the record opens a page and is not the first
unfoldable pub stores_of : List ℕ → ℕ → Journal → Checkpoint → List Store
stores_of key slots j c =
    erase_if j.owed ++ replicate (length (sealed key c) / 4) word ++ record_slot ∷ erase_if (ltb 0 j.count && eqb (j.count % slots) 0)

-- `power_ups` is what the draft makes the journal's once it is recorded
unfoldable pub drafted : List ℕ → ℕ → Origin → Checkpoint → ℕ → Journal → Journal
drafted key slots origin c power_ups j = record {
  entry = j.entry;
  count = j.count;
  owed = j.owed;
  power_ups = j.power_ups;
  draft = some (record { checkpoint = c; origin = origin; power_ups = power_ups; stores = stores_of key slots j c });
}

unfoldable pub dropped : Journal → Journal
dropped j = record { entry = j.entry; count = j.count; owed = j.owed; power_ups = j.power_ups; draft = none }

unfoldable pub to_come : List Store → Bool
to_come [] = false
to_come (s ∷ more) = true

-- the first store is made
unfoldable pub made : Journal → Draft → List Store → Journal
made j d [] = j
made j d (erase ∷ rest) = record {
  entry = j.entry;
  count = j.count;
  owed = false;
  power_ups = j.power_ups;
  draft = some (record { checkpoint = d.checkpoint; origin = d.origin; power_ups = d.power_ups; stores = rest });
}
made j d (word ∷ rest) = record {
  entry = j.entry;
  count = j.count;
  owed = j.owed;
  power_ups = j.power_ups;
  draft = some (record { checkpoint = d.checkpoint; origin = d.origin; power_ups = d.power_ups; stores = rest });
}
made j d (record_slot ∷ rest) = record {
  entry = some d.checkpoint;
  count = j.count + 1;
  owed = to_come rest;
  power_ups = d.power_ups;
  draft = some (record { checkpoint = d.checkpoint; origin = d.origin; power_ups = d.power_ups; stores = rest });
}

unfoldable pub advanced : Journal → Option Draft → Journal
advanced j none = j
advanced j (some d) = made j d d.stores

-- a power loss that left the store whole counts as that store
unfoldable pub whole : List Store → List ℕ → Bool
whole [] left = false
whole (erase ∷ rest) left = blank left
whole (word ∷ rest) left = false
whole (record_slot ∷ rest) left = not (blank left)

unfoldable pub lost_into : Journal → Option Draft → List ℕ → Journal
lost_into j none left = dropped j
lost_into j (some d) left = dropped (cond (whole d.stores left) (made j d d.stores) j)

-- ---- what the journal sees of an event

-- a power-up is one more
unfoldable pub resumed_entry : Form → List ℕ → List ℕ → Option Checkpoint → Journal → ℕ → Journal
resumed_entry form key nonce none j slots = j
resumed_entry form key nonce (some c) j slots = drafted key slots PowerUp (power_up_draft form key nonce c) (j.power_ups + 1) j

-- the draft carries the entry's tag, restarts and packet number, whatever session the save was given; its power-ups are 0 or carry over, as its restarts
unfoldable pub saved_entry : Form → List ℕ → SaveArguments → Option Checkpoint → Journal → ℕ → Journal
saved_entry form key a none j slots = j
saved_entry form key a (some c) j slots =
    drafted key slots Save (save_draft form key a c) (cond (starts_over form a.packet c) 0 j.power_ups) j

unfoldable pub saved_from : Form → List ℕ → SaveArguments → From → Journal → ℕ → Journal
saved_from form key a (from_tag tag) j slots = drafted key slots Save (first_draft form a tag) 0 j
saved_from form key a (from_session s) j slots = saved_entry form key a j.entry j slots

-- the journal after an event: it sees the call's arguments, the form of the heads which it writes and whether it stopped, and what a power loss left;
-- never the memories
unfoldable pub entered : Setup → Form → Journal → Event → Bool → Journal
entered u form j (saved a) stopped = cond stopped j (saved_from form u.key a.arguments a.from j u.sizes.slots)
entered u form j (powered_up a) stopped = cond stopped j (resumed_entry form u.key a.nonce j.entry j u.sizes.slots)
entered u form j (advanced_by a) stopped = cond stopped j (advanced j j.draft)
entered u form j PowerLoss stopped = dropped j
entered u form j (updated_to firmware) stopped = dropped j
entered u form j (lost_in_store left) stopped = lost_into j j.draft left
