-- What inner functions ask for.
use Rattle.std.specs.Prelude.{ℕ, ◌<◌, ◌≡◌, false, List}
use Rattle.ring_shapes.specs.Shapes.{blank_ring, size_wrong, past_last}

-- a blank ring of a size that is taken, which is to become that of a number but 0
pub record ToShape (pages slots number : ℕ) (ring : List ℕ) : Type 0 where
  pub size : size_wrong pages slots ring ≡ false
  pub none_yet : ring ≡ blank_ring pages slots
  pub not_first : 0 < number
  pub there : past_last pages slots number ≡ false
