-- `hex_lines::write::sum` meets its contract. Assumes nothing.
use Rattle.std.proofs.Common.{◌≡◌, ℕ, suc, ◌+◌, ◌*◌, ◌≤◌, List, [], ◌∷◌, length, refl, ap, ◌∙◌, rules, arith}
use Rattle.std.specs.List.{sum_by}
use Rattle.std.proofs.lemmas.List.Sums.{sum_by-cons}
use Rattle.octets.specs.Octets.{Bytes}
use Rattle.hex_lines.specs.Format.{sum}
use Rattle.hex_lines.proofs.write.sum.Goals as goal

summed : (s : List ℕ) → sum_by (λ b. b) s ≡ sum s
unfolding sum
summed [] = refl
summed (b ∷ s) = sum_by-cons (λ b. b) b s ∙ ap (λ n. b + n) (summed s)

bounded : (s : List ℕ) → Bytes s → sum s ≤ 255 * length s
unfolding sum
bounded [] h = omega arith
bounded (b ∷ s) h = omega (arith, h 0, bounded s (λ i. h (suc i)))

pub returns : goal.returns
returns c =
    let e : c.sum.result ≡ sum_by (λ b. b) c.args.s.now = search rules in
    let f : c.sum.result ≡ sum c.args.s.now = e ∙ summed _ in
    (f, omega (arith, f, bounded c.args.s.now (λ i. omega (arith, c.type_inv.s i))))
