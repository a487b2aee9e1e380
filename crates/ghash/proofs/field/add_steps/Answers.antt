-- `ghash::field::add_steps` meets its contract: after i turns of its loop the sum is Z of `at + i`. Assumes nothing.
use mathlib.Core.Path.{◌≡◌, sym, ap, ◌∙◌}
use Prim.Native.Nat.{ℕ, ◌+◌}
use native.Mathlib.Nat.{add-zero}
use native.Mathlib.Omega.{arith}
use Rattle.ghash.specs.Ghash.{Zᵢ}
use Rattle.ghash.proofs.Product.{next_Z, shift_next}
use Rattle.ghash.proofs.field.add_steps.Goals as goal

pub loop-i-init : goal.loop-i-init
loop-i-init c = (omega arith, omega arith, λ y H steps bits start. start ∙ ap (λ (n : ℕ). Zᵢ n y H) (sym (add-zero _)))

pub loop-i-preserved : goal.loop-i-preserved
loop-i-preserved c =
    let l = c.loop-i in
    let inv = l.invariant in
    let a = c.args in (
      omega arith,
      shift_next a.x l.i l.w inv.1,
      λ y H steps bits start.
          next_Z a.t.now a.x y H a.at l.i l.w _ _ _ (omega arith) (omega arith) steps bits inv.1 (inv.2 y H steps bits start) c.step.ensures c.add_if-sum.ensures,
    )

pub returns : goal.returns
returns c y H steps bits start =
    let all : c.loop-i.i ≡ 64 = omega arith in
    c.loop-i.invariant.2 y H steps bits start ∙ ap (λ (n : ℕ). Zᵢ (c.args.at + n) y H) all
