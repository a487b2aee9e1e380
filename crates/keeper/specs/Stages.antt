-- The stops of power-up in the stages in which the code tries them (document 01, "Stops, by the place of checking", and document 02, A.2 and A.6).
use Rattle.std.specs.Prelude.{ℕ, Bool, not, ◌||◌, List, [], ◌∷◌, ◌++◌, length, take}
use Rattle.protocol.specs.Types.{this_firmware}
use Rattle.octets.specs.Limits.{key_lengths, nonce_length, part_limit}
use Rattle.ring.specs.Ring.{half_named}
use Rattle.checkpoint.specs.Fram.{half_at}
use Rattle.checkpoint.specs.Half.{form_of, good_head, good_tag}
use Rattle.memories.specs.Stages.{of_memories}
use Rattle.resealing.specs.Stages.{opening_lines}
use Rattle.protocol.specs.Calls.{PowersUp}
use Rattle.protocol.specs.Operations.{key_wrong, nonce_wrong, staging_wrong, state_wrong}

-- those about the memories and the buffers
abbrev pub power_up_buffers : (ring fram : List ℕ) → PowersUp → List (ℕ × Bool)
power_up_buffers ring fram a =
    of_memories a.sizes.pages a.sizes.slots ring fram ++ (
    (3, key_wrong key_lengths (length a.key) || nonce_wrong (length a.nonce)) ∷
    (4, staging_wrong a.staging fram || state_wrong this_firmware a.state) ∷ [])

-- those about the half that a record names
abbrev pub power_up_half : (key newest fram : List ℕ) → Bool → List (ℕ × Bool)
power_up_half key newest fram used =
    let half = half_at fram (half_named newest) in
    (11, not (good_head part_limit (form_of half) half)) ∷ opening_lines half (good_tag (form_of half) key (take nonce_length newest) half) used
