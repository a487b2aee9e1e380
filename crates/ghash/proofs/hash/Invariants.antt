-- `ghash::hash` meets its contract: what is left, hashed from the value so far on, gives what all of s does. Assumes nothing.
use Rattle.std.proofs.Common.{◌≡◌, ℕ, length}
use Rattle.ghash.specs.Ghash.{Yᵢ}
use Rattle.ghash.specs.Input.{blocks}
use Rattle.ghash.specs.Steps.{value, Steps}
use Rattle.ghash.proofs.hash.Given as goal

abbrev pub invariant-loop-block : goal.invariant-loop-block
invariant-loop-block l =
    (l.block-iterator.size ≡ 16)
    × ((H : ℕ) → Steps H l.t → Yᵢ H (value l.z) l.block-iterator.rest.now (blocks (length l.block-iterator.rest.now)) ≡ Yᵢ H (value l.initial.z) l.fn.s (blocks (length l.fn.s)))
