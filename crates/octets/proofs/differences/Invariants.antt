-- `octets::differences` meets its contract: after i turns d is 0 exactly if the first i bytes agree. Assumes nothing.
use Rattle.std.proofs.Common.{◌≡◌, ℕ, ◌<◌, List, length, get_or}
use Rattle.octets.proofs.differences.Given as goal

-- the first i elements agree
abbrev pub Agree : List ℕ → List ℕ → ℕ → Type 0
Agree a b i = (k : ℕ) → k < i → get_or a k 0 ≡ get_or b k 0

abbrev pub invariant-loop-x : goal.invariant-loop-x
invariant-loop-x l = (l.d ≡ 0 → Agree l.a l.b (length l.yielded)) × (Agree l.a l.b (length l.yielded) → l.d ≡ 0)
