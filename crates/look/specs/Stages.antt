-- The stops of look in the stages in which the code tries them (document 01, "Stops, by the place of checking").
use Rattle.std.specs.Prelude.{ℕ, Bool, not, List, [], ◌∷◌, ◌++◌, length, take}
use Rattle.octets.specs.Limits.{key_lengths, nonce_length, part_limit}
use Rattle.ring.specs.Ring.{half_named, read_ring}
use Rattle.checkpoint.specs.Fram.{half_at}
use Rattle.checkpoint.specs.Half.{form_of, good_head, good_tag}
use Rattle.memories.specs.Stages.{of_memories, of_newest}
use Rattle.protocol.specs.Operations.{key_wrong}

-- those about the memories and the key
abbrev pub look_buffers : ℕ → ℕ → (ring fram key : List ℕ) → List (ℕ × Bool)
look_buffers pages slots ring fram key = of_memories pages slots ring fram ++ ((3, key_wrong key_lengths (length key)) ∷ [])

-- and those of what the ring reads as
abbrev pub look_ring : ℕ → ℕ → (ring fram key : List ℕ) → List (ℕ × Bool)
look_ring pages slots ring fram key = look_buffers pages slots ring fram key ++ of_newest (read_ring ring pages slots)

-- those about a half, sealed under a nonce
abbrev pub of_half : (key nonce half : List ℕ) → List (ℕ × Bool)
of_half key nonce half = (11, not (good_head part_limit (form_of half) half)) ∷ (12, not (good_tag (form_of half) key nonce half)) ∷ []

-- those about the half that a record names
abbrev pub look_half : (key newest fram : List ℕ) → List (ℕ × Bool)
look_half key newest fram = of_half key (take nonce_length newest) (half_at fram (half_named newest))
