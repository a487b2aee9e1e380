-- What sealing a checkpoint to the front of staging takes, and what it leaves.
use Rattle.std.specs.Prelude.{◌≡◌, ◌≤◌, ℕ, List, length}
use Rattle.octets.specs.Limits.{nonce_length, part_limit, restart_limit, packet_limit, tag_length}
use Rattle.octets.specs.Octets.{put}
use Rattle.checkpoint.specs.Checkpoint.{Longer, Checkpoint, sealed_length, sealed, own_tag}

-- its numbers are in range and its fields have their lengths, and staging holds it, sealed
abbrev pub Sealable : Checkpoint → List ℕ → Type 0
Sealable c staging =
    (length c.nonce ≡ nonce_length) ×
    (c.packet ≤ packet_limit) ×
    (c.restarts ≤ restart_limit) ×
    (length c.previous ≡ tag_length) ×
    (length c.open_part ≤ part_limit) ×
    (length c.secret ≤ part_limit) ×
    (sealed_length Longer (length c.open_part) (length c.secret) ≤ length staging)

-- the tag that is answered is the checkpoint's own, and the checkpoint stands in staging, sealed
abbrev pub Seals : List ℕ → Checkpoint → (tag staging staging' : List ℕ) → Type 0
Seals key c tag staging staging' = (tag ≡ own_tag key c) × (staging' ≡ put staging 0 (sealed key c))
