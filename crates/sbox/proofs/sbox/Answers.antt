-- `sbox::sbox` meets its contract: antt computes the 256 values of the definition, and they are the table's.
-- Assumes nothing.
use mathlib.Core.Path.{refl}
use Rattle.sbox.specs.Field.{xtime, times, ◌•◌, power, inverse, turned, affine, sub_byte}
use Rattle.sbox.proofs.sbox.Goals as goal

pub returns : goal.returns
unfolding xtime times ◌•◌ power inverse turned affine sub_byte
returns c = refl
