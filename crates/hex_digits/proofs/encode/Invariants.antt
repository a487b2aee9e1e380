-- `hex_digits::encode` meets its contract: the digits of the first i bytes are written, and the rest is as it was. Assumes nothing.
use Rattle.std.proofs.Common.{◌≡◌, take}
use Rattle.octets.specs.Octets.{put}
use Rattle.hex_digits.specs.Digits.{encoded}
use Rattle.hex_digits.proofs.encode.Given as goal

abbrev pub invariant-loop-i : goal.invariant-loop-i
invariant-loop-i l = l.out ≡ put l.initial.out l.at (encoded (take l.i l.s))
