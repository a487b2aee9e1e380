-- Memories are accepted exactly if a first save, run to its end, leaves them. Assumes nothing.
use Prim.Native.Nat.{ℕ}
use mathlib.Core.Path.{◌≡◌, refl, sym, ◌∙◌}
use mathlib.Core.Option.{none}
use mathlib.Core.List.{List}
use native.Mathlib.Omega.{arith}
use lib.ListN.{length, replicate, length-replicate}
use Rattle.octets.specs.Octets.{erased}
use Rattle.octets.proofs.Laws.{blank_erased}
use Rattle.checkpoint.specs.Fram.{half_length}
use Rattle.protocol.specs.Types.{this_firmware}
use Rattle.protocol.specs.Calls.{Setup}
use Rattle.protocol.specs.Operations.{save_stop}
use Rattle.factory.specs.Exactly.{FirstArguments, Lent, call, after_save, Leaves, Room, AcceptedExactly, WhateverIsLent, OwnAccepted, OnlyOne}
use Rattle.factory.proofs.Programmed.{Programmed, moved_to, one_save}
use Rattle.factory.proofs.Saved.{as_long, handed_out, left_programmed, leaves_again}
use Rattle.factory.proofs.Accepted.{accepts, held, held_bytes, holds_one}

-- the memories that a first save leaves hold it
holds_left : (u : Setup) (f : FirstArguments) (l : Lent) (ring fram : List ℕ) → Leaves u f l ring fram → Programmed u ring fram f
holds_left u f l ring fram e =
    moved_to (left_programmed u f l e.begins) ring fram e.this_ring (as_long u f l e.begins ∙ e.as_long) e.these_bytes

pub whatever_is_lent : WhateverIsLent
unfolding WhateverIsLent
whatever_is_lent u ring fram m e = (held u ring fram, held_bytes u ring fram m, λ l room. leaves_again (holds_one u ring fram m e) l room)

-- a blank ring, this FRAM, and a staging buffer of a half
lent_here : (ring fram : List ℕ) → Lent
lent_here ring fram = record { ring = erased (length ring); fram = fram; staging = replicate (half_length fram) 0 }

room_here : (ring fram : List ℕ) → Room (lent_here ring fram) ring fram
unfolding lent_here
room_here ring fram = record {
  blank_ring = blank_erased (length ring);
  ring_long = length-replicate {A = ℕ} (length ring) 0xFF;
  fram_long = refl;
  staging_long = omega (arith, length-replicate {A = ℕ} (half_length fram) 0);
}

pub accepted_exactly : AcceptedExactly
unfolding AcceptedExactly WhateverIsLent
accepted_exactly u ring fram m = (
  λ e. let w = whatever_is_lent u ring fram m e in (w.0, w.1, lent_here ring fram, w.2 (lent_here ring fram) (room_here ring fram)),
  λ (f, b, l, e). accepts (holds_left u f l ring fram e),
)

-- a save that does not stop leaves what it leaves
leaves_own : (u : Setup) (f : FirstArguments) (l : Lent) → save_stop this_firmware l.ring l.fram (call u f l.staging) ≡ none
    → Leaves u f l (after_save u f l).ring (after_save u f l).fram
leaves_own u f l e = record { as_long = sym (as_long u f l e); begins = e; said_saved = handed_out u f l e; this_ring = refl; these_bytes = refl }

pub own_accepted : OwnAccepted
unfolding OwnAccepted
own_accepted u f l e =
    (accepts (left_programmed u f l e), leaves_own u f l e, λ ring fram x. accepts (holds_left u f l ring fram x))

pub only_one : OnlyOne
unfolding OnlyOne
only_one u ring fram f g l m x y = one_save (holds_left u f l ring fram x) (holds_left u g m ring fram y)
