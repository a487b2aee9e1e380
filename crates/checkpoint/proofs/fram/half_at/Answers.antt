-- `checkpoint::fram::half_at` meets its contract. Assumes nothing.
use native.Mathlib.Omega.{arith}
use Rattle.octets.specs.Limits.{fram_limit}
use Rattle.checkpoint.specs.Fram.{half_length, half_at}
use Rattle.checkpoint.proofs.FramLaws.{an_image, half_within}
use Rattle.checkpoint.proofs.fram.half_at.Goals as goal

pub overflow_mul-half : goal.overflow_mul-half
unfolding half_length
overflow_mul-half c =
    let within = half_within c.args.fram.now c.args.half (an_image fram_limit c.args.fram.now c.requires.0) c.requires.1 in
    omega arith

pub part-requires : goal.part-requires
unfolding half_length
part-requires c = half_within c.args.fram.now c.args.half (an_image fram_limit c.args.fram.now c.requires.0) c.requires.1

pub returns : goal.returns
unfolding half_length half_at
returns c = c.part.ensures
