-- `constant_time::variable_time::variable_time_halve` meets its contract. Assumes nothing.
use mathlib.Core.Path.{refl, sym, ap, ◌∙◌}
use Prim.Native.Nat.{ℕ, ◌*◌, ◌/◌, ◌%◌, ◌^◌}
use native.Mathlib.Omega.{arith}
use lib.Bits.{bit_or, xor_zero_r}
use Rattle.ghash.specs.Steps.{words}
use Rattle.ghash.proofs.Words.{halve_words}
use Rattle.constant_time.proofs.variable_time.variable_time_halve.Goals as goal

pub returns-then-w-eq1 : goal.returns-then-w-eq1
returns-then-w-eq1 c =
    let a = c.args in
    halve_words a.hi.now a.lo.now _ (omega arith) (λ zero. absurd (omega arith), λ one. refl)

pub returns-else-w-eq1 : goal.returns-else-w-eq1
returns-else-w-eq1 c =
    let a = c.args in
    let hi = a.hi.now in
    let lo = a.lo.now in
    ap (λ (w : ℕ). words w (bit_or (hi * 2 ^ 63 % 2 ^ 64) (lo / 2))) (sym (xor_zero_r (hi / 2)))
    ∙ halve_words hi lo 0 (omega arith) (λ zero. refl, λ one. absurd (c.if-w-eq1.false one))
