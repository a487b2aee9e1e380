-- `keeper::resuming::check_power_up_half` meets its contract. Assumes nothing.
use mathlib.Core.Path.{◌≡◌, ap, ◌∙◌}
use mathlib.Core.Bool.{Bool, true, false, not}
use mathlib.Core.Option.{Option, some}
use mathlib.Core.List.{List, ◌∷◌}
use Prim.Native.Nat.{ℕ}
use lib.ListN.{take}
use Rattle.octets.specs.Limits.{nonce_length, part_limit}
use Rattle.octets.specs.Octets.{part}
use Rattle.stops.specs.Stops.{first_of}
use Rattle.ring.specs.Ring.{half_named}
use Rattle.checkpoint.specs.Fram.{half_at}
use Rattle.checkpoint.specs.Half.{form_of, good_head, good_tag}
use Rattle.resealing.specs.Stages.{opening_lines}
use Rattle.keeper.specs.Stages.{power_up_half}
use Rattle.keeper.proofs.PowerUpLaws.{half_long_enough}
use Rattle.keeper.proofs.resuming.check_power_up_half.Goals as goal

-- said of the half that the record names
module _ (key newest fram : List ℕ) (used : Bool) (h : ℕ) (half : List ℕ) (x : h ≡ half_named newest) (y : half ≡ half_at fram h) where
  abbrev lines : List ℕ → List ℕ → List (ℕ × Bool)
  lines half latest = (11, not (good_head part_limit (form_of half) half)) ∷ opening_lines half (good_tag (form_of half) key latest half) used

  half_is : half ≡ half_at fram (half_named newest)
  half_is = y ∙ ap (half_at fram) x

  opened : (latest : List ℕ) (g : Bool) (o : Option ℕ) → latest ≡ part newest 0 nonce_length → good_head part_limit (form_of half) half ≡ true
      → g ≡ good_tag (form_of half) key latest half → o ≡ first_of (opening_lines half g used) → o ≡ first_of (power_up_half key newest fram used)
  unfolding first_of part
  opened latest g o z good e f =
      let behind : first_of (opening_lines half (good_tag (form_of half) key latest half) used) ≡ first_of (lines half latest) = rw good in
      f ∙ ap (λ (t : Bool). first_of (opening_lines half t used)) e ∙ behind ∙ (λ i. first_of (lines (half_is i) (z i)))

  not_opened : good_head part_limit (form_of half) half ≡ false → some 11 ≡ first_of (power_up_half key newest fram used)
  unfolding first_of
  not_opened bad =
      let first : some 11 ≡ first_of (lines half (take nonce_length newest)) = rw bad in
      first ∙ (λ i. first_of (lines (half_is i) (take nonce_length newest)))

pub read_head-requires : goal.read_head-requires
read_head-requires c = half_long_enough c.args.fram.now c.half_at.result.now c.requires.0 c.half_at.ensures.1

pub returns-in_default : goal.returns-in_default
returns-in_default c =
    let a = c.args in
    not_opened a.key.now a.«record».now a.fram.now a.used _ _ c.half_named.ensures (c.in_default.ensures ∙ c.half_at.ensures.0) c.in_default.field-0.says.good

pub returns : goal.returns
returns c =
    let a = c.args in
    opened a.key.now a.«record».now a.fram.now a.used _ _ c.half_named.ensures (c.in-Ok.ensures ∙ c.half_at.ensures.0) _ _ _
    c.part.ensures.0 c.in-Ok.head.says.good c.good_tag_under-good.ensures c.check_opening.ensures
