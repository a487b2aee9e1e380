-- Laws of the sum of bytes. Assumes nothing.
use mathlib.Core.Path.{◌≡◌, sym, ap, ◌∙◌}
use mathlib.Core.List.{List, [], ◌∷◌, ◌++◌}
use Prim.Native.Nat.{ℕ, ◌+◌}
use native.Mathlib.Nat.{zero-add, add_assoc}
use Rattle.hex_lines.specs.Format.{sum}

pub sum_append : (s t : List ℕ) → sum (s ++ t) ≡ sum s + sum t
unfolding sum
sum_append [] t = sym (zero-add (sum t))
sum_append (b ∷ s) t = ap (λ (n : ℕ). b + n) (sum_append s t) ∙ sym (add_assoc b (sum s) (sum t))
