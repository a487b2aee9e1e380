-- The argument names the length of the key in bytes: `16` or `32` (document 02, A.8).
use Rattle.std.specs.Prelude.{cond, List, [], ◌∷◌, ℕ, Option, Some, None}
use Rattle.octets.specs.Limits.{short_key, long_key}
use Rattle.octets.specs.Octets.{same}

unfoldable pub length_named : List ℕ → Option ℕ
length_named argument = cond (same argument (0x31 ∷ 0x36 ∷ [])) (Some short_key) (cond (same argument (0x33 ∷ 0x32 ∷ [])) (Some long_key) None)
