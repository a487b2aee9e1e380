-- What is still to be read, with what has been, makes the whole.
use Rattle.std.proofs.Common.{◌≡◌, ℕ, ◌+◌, ◌*◌, ◌/◌, ◌≤◌, Bool, ◌&&◌, List, length}
use Rattle.std.specs.Slice.Iter.{chunks_exact_rest, chunks_exact_size}
use Rattle.hex_digits.specs.Digits.{all_digits, decoded}
use Rattle.hex_lines.specs.Format.{sum}
use Rattle.hex_lines.proofs.read.digit_sum.Given as goal

-- rest is left of s
pub record Read (s rest : List ℕ) (total : ℕ) (digits : Bool) : Type 0 where
  pub sums : total + sum (decoded rest (length rest / 2)) ≡ sum (decoded s (length s / 2))
  pub tests : digits && all_digits rest ≡ all_digits s
  pub even : 2 * (length rest / 2) ≡ length rest
  pub small : total + 255 * (length rest / 2) ≤ 255 * (length s / 2)

abbrev pub invariant-loop-two : goal.invariant-loop-two
invariant-loop-two l = (chunks_exact_size l.two-iterator ≡ 2) × Read l.s (chunks_exact_rest l.two-iterator) l.total l.digits
