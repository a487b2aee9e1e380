-- A buffer in which neither a starting tag nor a session nor a job can be read gives 3 or 14 in its place in the order of stops. Assumes nothing.
use Prim.Native.Nat.{ℕ}
use mathlib.Core.Path.{◌≡◌, ap, ◌∙◌}
use mathlib.Core.Bool.{Bool, true, not, ◌||◌}
use mathlib.Core.List.{List, [], ◌∷◌}
use lib.Dec.{eqb}
use lib.ListN.{length}
use borrow.Author.Tests.{ne_eqb}
use Rattle.octets.specs.Limits.{key_lengths, fram_limit, tag_length}
use Rattle.stops.specs.Stops.{first_of}
use Rattle.ring.specs.Ring.{ring_wrong}
use Rattle.checkpoint.specs.Fram.{fram_wrong}
use Rattle.checkpoint.specs.Checkpoint.{Longer}
use Rattle.protocol.specs.Types.{Job, this_firmware}
use Rattle.protocol.specs.Calls.{Sizes, SaveArguments}
use Rattle.protocol.specs.Operations.{key_wrong, nonce_wrong, tag_wrong, from_wrong, staging_wrong, save_stop, job_wrong}
use Rattle.protocol.proofs.FreeResults.{no_job_wrong}
use Rattle.job_bytes.specs.Bytes.{session_length, no_job_in}
use Rattle.job_bytes.proofs.BytesLaws.{unread}
use Rattle.keeper_c.proofs.Either.{or_true}
use Rattle.keeper_c.specs.Calls.{from_in, saves_in, advances_in, advance_call_stop}

-- ---- what a save follows

-- a save with a buffer for it that is neither 16 nor 48 bytes stops with 1 or 2 as any save, and else with 3
pub from_in_place : (ring fram : List ℕ) (a : SaveArguments) (b : List ℕ) → (length b ≡ tag_length → ⊥) → (length b ≡ session_length → ⊥)
    → save_stop this_firmware ring fram (saves_in a b) ≡ first_of (
    (1, ring_wrong a.sizes.pages a.sizes.slots ring) ∷
    (2, fram_wrong fram_limit fram) ∷
    (3, true) ∷ [])
unfolding save_stop from_in from_wrong first_of
from_in_place ring fram a b n m = rw (ne_eqb (length b) session_length m, or_true (key_wrong key_lengths (length a.key) || nonce_wrong (length a.nonce)) (tag_wrong (length b)) (ap not (ne_eqb (length b) tag_length n)))

-- ---- jobs

-- an advance of a job buffer that cannot be read stops with 1, 2 or 4 as any advance, and else with 14
pub job_in_place : (ring fram : List ℕ) (z : Sizes) (b staging session : List ℕ) → no_job_in b ≡ true
    → advance_call_stop ring fram (advances_in z b staging) session ≡ first_of (
    (1, ring_wrong z.pages z.slots ring) ∷
    (2, fram_wrong fram_limit fram) ∷
    (4, staging_wrong staging fram || not (eqb (length session) session_length)) ∷
    (14, true) ∷ [])
unfolding advance_call_stop
job_in_place ring fram z b staging session e =
    ap (λ (w : Bool). first_of ((1, ring_wrong z.pages z.slots ring) ∷ (2, fram_wrong fram_limit fram) ∷ (4, staging_wrong staging fram || not (eqb (length session) session_length)) ∷ (14, w) ∷ []))
    (ap (λ (j : Job). job_wrong Longer j z ring fram) (unread b e) ∙ no_job_wrong Longer z ring fram)
