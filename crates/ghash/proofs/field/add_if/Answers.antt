-- `ghash::field::add_if` meets its contract. Assumes nothing.
use Prim.Native.Nat.{◌/◌, ◌^◌}
use native.Mathlib.Omega.{arith}
use Rattle.ghash.proofs.Product.{mask_fits, masked}
use Rattle.ghash.proofs.field.add_if.Goals as goal

pub returns : goal.returns
returns c = masked _ _ _ _ _ (omega arith) (omega arith) (omega arith) (omega arith)

pub overflow_mul-mask : goal.overflow_mul-mask
overflow_mul-mask c = record { fits = mask_fits (c.args.w / 2 ^ 63) (omega arith) }
