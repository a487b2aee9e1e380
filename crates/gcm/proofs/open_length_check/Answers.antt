-- `gcm::open_length_check` meets its contract: the conditions tried in turn are the list's. Assumes nothing.
use Rattle.std.proofs.Common.{Bool, ◌||◌, [], ◌∷◌, ◌∙◌, ap₂}
use Rattle.stops.specs.Stops.{first_of}
use Rattle.gcm.specs.Calls.{open_length_stop}
use Rattle.gcm.proofs.Checks.{two_tried}
use Rattle.gcm.proofs.open_length_check.Goals as goal

pub returns : goal.returns
unfolding open_length_stop
returns c =
    two_tried 3 4 _ _ c.stop_if.ensures c.stop_if-2.ensures
    ∙ ap₂ (λ (a b : Bool). first_of ((3, a) ∷ (4, b) ∷ []))
    (ap₂ ◌||◌ (ap₂ ◌||◌ c.key_wrong.ensures c.nonce_wrong.ensures) c.tag_wrong.ensures) c.buffers_wrong.ensures
