-- Lines of fields in hexadecimal, the form in which test vectors are kept.
use Rattle.std.specs.Prelude.{ℕ, suc, cond, List, [], ◌∷◌, leb}

-- how many bytes stand before the first that is `limit` or less: a line feed is 0x0A, a space 0x20
unfoldable pub until : ℕ → List ℕ → ℕ
until limit [] = 0
until limit (b ∷ s) = cond (leb b limit) 0 (suc (until limit s))
