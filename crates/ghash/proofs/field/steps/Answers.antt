-- `ghash::field::steps` meets its contract: after i turns of its loop the first i steps stand in t. Assumes nothing.
use mathlib.Core.Path.{◌≡◌, refl}
use Prim.Native.Nat.{ℕ, ◌+◌}
use native.Mathlib.Numerals.{add-one}
use native.Mathlib.Omega.{arith}
use lib.ListN.{length-set}
use Rattle.ghash.specs.Steps.{value}
use Rattle.ghash.specs.Ghash.{Vᵢ, halved}
use Rattle.ghash.proofs.Product.{steps_next}
use Rattle.ghash.proofs.field.steps.Goals as goal

next_V : (i y v v' : ℕ) → v ≡ Vᵢ i y → v' ≡ halved v → v' ≡ Vᵢ (i + 1) y
unfolding Vᵢ
next_V i y v v' hv h = rw add-one (cc)

pub loop-i-init : goal.loop-i-init
unfolding Vᵢ
loop-i-init c = (omega arith, refl, refl, (λ j hj. absurd (omega arith)))

pub loop-i-preserved : goal.loop-i-preserved
loop-i-preserved c =
    let l = c.loop-i in
    let inv = l.invariant in (
      omega arith,
      simp length-set inv.1,
      next_V _ _ _ _ inv.2 c.halve-v.ensures,
      steps_next l.t (value c.args.h) l.i l.v.hi l.v.lo inv.1 (omega arith) inv.3 inv.2,
    )

pub returns : goal.returns
returns c =
    let all : c.loop-i.i ≡ 128 = omega arith in
    record { holds = λ i l. c.loop-i.invariant.3 i (omega arith) }
