-- What is accepted is exactly what a first save, run to its end, leaves in the ring and in the length of its checkpoint in half A (document 02, A.10).
-- A first save is the one save with a starting tag (A.7); `to_its_end` (Histories.antt of protocol) is a start, and then an advance for each store to come.
use Rattle.std.specs.Prelude.{ℕ, ◌≤◌, ◌≡◌, true, ◌↔◌, List, [], length, take}
use Rattle.std.proofs.Math.Option.{none}
use Rattle.octets.specs.Octets.{Bytes, blank}
use Rattle.checkpoint.specs.Checkpoint.{Longer, sealed_length}
use Rattle.checkpoint.specs.Fram.{half_length, half_at}
use Rattle.protocol.specs.Types.{this_firmware}
use Rattle.protocol.specs.Calls.{from_tag, Saves, saves, Setup, saved}
use Rattle.protocol.specs.Operations.{save_stop}
use Rattle.protocol.specs.History.{State, fresh, run}
use Rattle.protocol.specs.Recovery.{looks}
use Rattle.protocol.specs.Histories.{to_its_end}
use Rattle.factory.specs.Factory.{factory_stop}

-- ---- a first save

-- what is free in it: its parts, nonce, packet number and starting tag
pub record FirstArguments : Type 0 where
  pub open_part : List ℕ
  pub secret : List ℕ
  pub nonce : List ℕ
  pub packet : ℕ
  pub starting_tag : List ℕ

-- the lists are bytes
pub record OfBytes (f : FirstArguments) : Type 0 where
  pub open_part : Bytes f.open_part
  pub secret : Bytes f.secret
  pub nonce : Bytes f.nonce
  pub starting_tag : Bytes f.starting_tag

-- what it is lent: both memories, and a staging buffer
pub record Lent : Type 0 where
  pub ring : List ℕ
  pub fram : List ℕ
  pub staging : List ℕ

-- the call, for a unit's sizes and key
abbrev pub call : Setup → FirstArguments → (staging : List ℕ) → Saves
call u f staging =
    saves (record { sizes = u.sizes; key = u.key; nonce = f.nonce; packet = f.packet; open_part = f.open_part; secret = f.secret; staging = staging })
    (from_tag f.starting_tag)

-- the length of its checkpoint
abbrev pub checkpoint_length : FirstArguments → ℕ
checkpoint_length f = sealed_length Longer (length f.open_part) (length f.secret)

-- the unit after the call and all its advances
abbrev pub after_save : Setup → FirstArguments → Lent → State
after_save u f l = let s = fresh this_firmware l.ring l.fram in run u s (to_its_end u s (saved (call u f l.staging)))

-- lent a FRAM as long as this one, the save does not stop; an advance has said 'saved', since a session was handed out; and it has left this ring and,
-- in its checkpoint's length of half A, these bytes
pub record Leaves (u : Setup) (f : FirstArguments) (l : Lent) (ring fram : List ℕ) : Type 0 where
  pub as_long : length l.fram ≡ length fram
  pub begins : save_stop this_firmware l.ring l.fram (call u f l.staging) ≡ none
  pub said_saved : (after_save u f l).sessions ≡ [] → ⊥
  pub this_ring : (after_save u f l).ring ≡ ring
  pub these_bytes : let n = checkpoint_length f in take n (half_at (after_save u f l).fram 0) ≡ take n (half_at fram 0)

-- ---- the theorems

-- memories and key are bytes, as all lent slices are
pub record AllBytes (u : Setup) (ring fram : List ℕ) : Type 0 where
  pub ring_bytes : Bytes ring
  pub fram_bytes : Bytes fram
  pub key_bytes : Bytes u.key

-- accepted exactly if there are parts, a nonce, a packet number and a starting tag for which a first save leaves these memories
unfoldable pub AcceptedExactly : Type 0
AcceptedExactly =
    (u : Setup) (ring fram : List ℕ) → AllBytes u ring fram
    → (factory_stop ring fram (looks u) ≡ none) ↔ ((f : FirstArguments) × OfBytes f × (l : Lent) × Leaves u f l ring fram)

-- what may be lent for memories of these lengths: a blank ring, any FRAM, and a staging buffer of at least a half
pub record Room (l : Lent) (ring fram : List ℕ) : Type 0 where
  pub blank_ring : blank l.ring ≡ true
  pub ring_long : length l.ring ≡ length ring
  pub fram_long : length l.fram ≡ length fram
  pub staging_long : half_length fram ≤ length l.staging

-- where they are accepted, these arguments leave them whatever is lent
unfoldable pub WhateverIsLent : Type 0
WhateverIsLent =
    (u : Setup) (ring fram : List ℕ) → AllBytes u ring fram → factory_stop ring fram (looks u) ≡ none
    → (f : FirstArguments) × OfBytes f × ((l : Lent) → Room l ring fram → Leaves u f l ring fram)

-- a first save of our own that does not stop comes to its end, and everything that it leaves is accepted, also with other bytes behind its checkpoint
-- and in half B, which are free
unfoldable pub OwnAccepted : Type 0
OwnAccepted =
    (u : Setup) (f : FirstArguments) (l : Lent) → save_stop this_firmware l.ring l.fram (call u f l.staging) ≡ none
    → (factory_stop (after_save u f l).ring (after_save u f l).fram (looks u) ≡ none)
    × Leaves u f l (after_save u f l).ring (after_save u f l).fram
    × ((ring fram : List ℕ) → Leaves u f l ring fram → factory_stop ring fram (looks u) ≡ none)

-- under one key, and in one set of sizes, memories are left by at most one choice of arguments
unfoldable pub OnlyOne : Type 0
OnlyOne = (u : Setup) (ring fram : List ℕ) (f g : FirstArguments) (l m : Lent) → Leaves u f l ring fram → Leaves u g m ring fram → f ≡ g
