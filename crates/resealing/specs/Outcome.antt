-- What sealing a half anew answers and leaves.
use Rattle.std.specs.Prelude.{◌≡◌, Bool, List, ℕ, Result, Ok, Err}
use Rattle.stops.specs.declared.Stop.{Stop}
use Rattle.stops.specs.Stops.{first_of}
use Rattle.stops.specs.View.{check_number}
use Rattle.checkpoint.specs.Half.{form_of, good_tag}
use Rattle.resealing.specs.Stages.{opening_lines, Reseals}

pub record Outcome (key : List ℕ) (r : Result (List ℕ) Stop) (used : Bool) (latest half nonce staging staging' state state' : List ℕ) : Type 0 where
  pub check : check_number r ≡ first_of (opening_lines half (good_tag (form_of half) key latest half) used)
  pub stops : (s : Stop) → r ≡ Err s → (staging' ≡ staging) × (state' ≡ state)
  pub begins : (tag : List ℕ) → r ≡ Ok tag → Reseals key tag latest half nonce staging staging' state state'
