-- The stops of a save in the stages in which the code tries them (document 01, "Stops, by the place of checking", and document 02, A.2 and A.7).
use Rattle.std.specs.Prelude.{ℕ, Bool, not, ◌||◌, List, [], ◌∷◌, ◌++◌, length}
use Rattle.octets.specs.Octets.{blank}
use Rattle.ring.specs.Ring.{Newest, is_pending, nonce_used}
use Rattle.checkpoint.specs.Checkpoint.{Longer}
use Rattle.memories.specs.Stages.{of_memories, of_newest}
use Rattle.octets.specs.Limits.{key_lengths}
use Rattle.protocol.specs.Types.{Session, this_firmware}
use Rattle.protocol.specs.Calls.{From, SaveArguments}
use Rattle.protocol.specs.Operations.{key_wrong, nonce_wrong, from_wrong, parts_wrong, staging_wrong, packet_wrong, stale, session_wrong}

-- those about the memories and what the save is given
abbrev pub save_buffers : (ring fram : List ℕ) → SaveArguments → From → List (ℕ × Bool)
save_buffers ring fram a from =
    of_memories a.sizes.pages a.sizes.slots ring fram ++ (
    (3, key_wrong key_lengths (length a.key) || nonce_wrong (length a.nonce) || from_wrong from) ∷
    (4, parts_wrong this_firmware a.open_part a.secret fram || staging_wrong a.staging fram) ∷
    (18, packet_wrong Longer a.packet) ∷ [])

-- with a starting tag, about the ring
abbrev pub first_lines : List ℕ → List (ℕ × Bool)
first_lines ring = (5, not (blank ring)) ∷ []

-- with a session, about the ring, which reads as n
abbrev pub next_lines : (ring : List ℕ) → ℕ → Newest → Session → List ℕ → List (ℕ × Bool)
next_lines ring slots n s nonce =
    of_newest n ++ (
    (8, stale ring slots n s || session_wrong Longer s) ∷
    (9, is_pending n) ∷
    (10, nonce_used ring slots n nonce) ∷ [])
