-- The FRAM image and its halves A and B (document 01, "A half of the FRAM"). Half 0 is A and half 1 is B.
use Rattle.std.specs.Prelude.{ℕ, ◌*◌, ◌/◌, ◌%◌, Bool, not, ◌||◌, List, length, eqb, ltb}
use Rattle.octets.specs.Limits.{fram_least, fram_step}
use Rattle.octets.specs.Octets.{part}

-- stop 2: the image's length is wrong, for firmware that takes images up to a limit
unfoldable pub fram_wrong : ℕ → List ℕ → Bool
fram_wrong limit fram = ltb (length fram) fram_least || ltb limit (length fram) || not (eqb (length fram % fram_step) 0)

unfoldable pub half_length : List ℕ → ℕ
half_length fram = length fram / 2

unfoldable pub half_at : List ℕ → ℕ → List ℕ
half_at fram half = part fram (half * half_length fram) (half_length fram)
