-- `jobs::word::copy_word` meets its contract: the part that was lent comes back as the word. Assumes nothing.
use Prim.Native.Nat.{◌+◌, ◌*◌}
use mathlib.Core.Path.{◌≡◌}
use native.Mathlib.Nat.{add-sub_cancel_left, add-zero}
use native.Mathlib.Omega.{arith}
use lib.ListN.{length}
use borrow.Author.Rules.{rules}
use Rattle.octets.specs.Octets.{part}
use Rattle.octets.proofs.Lent.{put_part}
use Rattle.checkpoint.specs.Fram.{half_length}
use Rattle.jobs.proofs.word.copy_word.Goals as goal

pub overflow_mul-a : goal.overflow_mul-a
unfolding half_length
overflow_mul-a c = search rules

pub overflow_add-a : goal.overflow_add-a
unfolding half_length
overflow_add-a c = search rules

pub overflow_add-e : goal.overflow_add-e
unfolding half_length
overflow_add-e c = search rules

pub slice_bounds-copy-end : goal.slice_bounds-copy-end
unfolding half_length
slice_bounds-copy-end c = search rules

pub returns : goal.returns
unfolding half_length part
returns c =
    let a = c.args in
    let word = c.part in
    let n : length word.result.now ≡ 4 = word.ensures.1 in
    rw (
      c.copy.ensures,
      add-sub_cancel_left,
      put_part (a.half * half_length a.fram.now + 4 * a.w) 4 0 a.fram.now word.result.now (omega arith) (omega arith),
      add-zero,
      word.ensures.0,
    )
