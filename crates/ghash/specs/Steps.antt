-- How the code keeps a block, in two words of 64 bits, and how it multiplies by the hash subkey: by the steps V_i, made once.
use Rattle.std.specs.Prelude.{List, ◌≡◌, ℕ, ◌+◌, ◌*◌, ◌^◌, ◌<◌, get_or}
use Rattle.ghash.specs.Ghash.{Vᵢ}
use Rattle.ghash.specs.declared.field.Block.{Block}

-- the number of a block that two words hold
unfoldable pub words : ℕ → ℕ → ℕ
words hi lo = hi * 2 ^ 64 + lo

abbrev pub value : Block → ℕ
value b = words b.hi b.lo

-- t has the steps of y: the high word of V_i at 2 * i, and the low one behind it
pub record Steps (y : ℕ) (t : List ℕ) : Type 0 where
  pub holds : (i : ℕ) → i < 128 → words (get_or t (2 * i) 0) (get_or t (2 * i + 1) 0) ≡ Vᵢ i y
