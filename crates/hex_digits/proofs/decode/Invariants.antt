-- `hex_digits::decode` meets its contract: the first i bytes are decoded. Assumes nothing.
use Rattle.std.proofs.Common.{◌≡◌, ◌*◌, ◌<◌, ℕ, get_or}
use Rattle.hex_digits.specs.Digits.{pair}
use Rattle.hex_digits.proofs.decode.Given as goal

abbrev pub invariant-loop-i : goal.invariant-loop-i
invariant-loop-i l = (k : ℕ) → k < l.i → get_or l.byte-items k 0 ≡ pair l.s (2 * k)
