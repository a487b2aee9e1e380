-- The stops of sealing a half anew (document 01, "Stops, by the place of checking", and document 02, A.2 and A.6), and what that leaves.
use Rattle.std.specs.Prelude.{ℕ, ◌≡◌, ◌≤◌, Bool, not, List, [], ◌∷◌, length, eqb}
use Rattle.octets.specs.Limits.{nonce_length, part_limit, restart_limit}
use Rattle.octets.specs.Octets.{put}
use Rattle.checkpoint.specs.Checkpoint.{Longer, sealed, own_tag}
use Rattle.checkpoint.specs.Half.{form_of, stored_restarts, stored}
use Rattle.protocol.specs.Operations.{outgrows, resumed}

-- the stops of a half with a good head: whether its tag is good, its restarts, whether the nonce is used, and its length, sealed anew
abbrev pub opening_lines : List ℕ → (good used : Bool) → List (ℕ × Bool)
opening_lines half good used =
    (12, not good) ∷
    (13, eqb (stored_restarts (form_of half) half) restart_limit) ∷
    (10, used) ∷
    (4, outgrows Longer half) ∷ []

-- the lengths that sealing a half anew needs
abbrev pub Resealable : (latest half nonce staging state : List ℕ) → Type 0
Resealable latest half nonce staging state =
    (length latest ≡ nonce_length) × (length nonce ≡ nonce_length) × (length half ≤ length staging) × (part_limit ≤ length state)

-- what sealing anew leaves: the tag t, and staging and state at exit
pub record Reseals (key t latest half nonce staging staging' state state' : List ℕ) : Type 0 where
  pub tag : t ≡ own_tag key (resumed Longer key nonce (stored (form_of half) key latest half))
  pub staged : staging' ≡ put staging 0 (sealed key (resumed Longer key nonce (stored (form_of half) key latest half)))
  pub restored : state' ≡ put state 0 (stored (form_of half) key latest half).secret
