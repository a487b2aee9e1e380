-- Checking what the assembly house programs (document 02, A.10): which ring and FRAM image are accepted, and by which number the others are refused.
-- That the memories which are accepted are exactly those that first saves leave is said in Exactly.antt.
use Rattle.std.specs.Prelude.{ℕ, Bool, true, false, not, ◌||◌, List, eqb}
use Rattle.std.proofs.Math.Option.{Option}
use Rattle.stops.specs.Stops.{then_stop}
use Rattle.ring.specs.Ring.{Newest, half_named, is_pending, newest_page, newest_slot, newest_record}
use Rattle.checkpoint.specs.Checkpoint.{Form, Older, Longer}
use Rattle.checkpoint.specs.Half.{form_of, stored_restarts}
use Rattle.protocol.specs.Types.{this_firmware}
use Rattle.protocol.specs.Calls.{Looks}
use Rattle.protocol.specs.Operations.{newest_in, newest_half, look_stop}

abbrev pub is_older : Form → Bool
is_older Older = true
is_older Longer = false

-- stop 19, of what the ring reads as, the half that the newest record names, and the form and the restarts of the head that stands there
unfoldable pub not_first : Newest → (half : ℕ) → Form → (restarts : ℕ) → Bool
not_first n half form restarts =
    not (eqb (newest_page n) 0) || not (eqb (newest_slot n) 0) || not (eqb half 0) || is_pending n || not (eqb restarts 0) || is_older form

-- 1, 2, 3, 6, 7, 11 and 12 as in a look, and then 19; nothing is stored
unfoldable pub factory_stop : (ring fram : List ℕ) → Looks → Option ℕ
factory_stop ring fram a =
    let n = newest_in ring a.sizes in
    let half = newest_half ring fram a.sizes.slots n in
    then_stop (look_stop this_firmware ring fram a) 19
    (not_first n (half_named (newest_record ring a.sizes.slots n)) (form_of half) (stored_restarts (form_of half) half))
