-- GHASH as a call: what it takes, and the block that it leaves.
use Rattle.std.specs.Prelude.{Bool, cond, ◌&&◌, List, ℕ, leb, length}
use Rattle.octets.specs.Limits.{text_limit}
use Rattle.octets.specs.Octets.{number}
use Rattle.ghash.specs.Ghash.{GHASH}
use Rattle.ghash.specs.Input.{hash_input}

-- associated data and text of so many bytes are hashed
abbrev pub hashes : (aad cipher : ℕ) → Bool
hashes aad cipher = leb aad text_limit && leb cipher text_limit

-- their hash where they are hashed, or the block that stood there before
abbrev pub hash_call : (h aad cipher : List ℕ) → (before : ℕ) → ℕ
hash_call h aad cipher before = cond (hashes (length aad) (length cipher)) (GHASH (number h 0 16) (hash_input aad cipher)) before
