-- Small facts about tests. Assumes nothing.
use Prim.Native.Nat.{ℕ}
use mathlib.Core.Path.{◌≡◌, refl}
use mathlib.Core.Bool.{Bool, true, false, ◌&&◌}
use native.Mathlib.Omega.{arith}
use lib.Dec.{T}

pub no_fact : {A : Type 0} → ◌≡◌ {A = Bool} true false → A
no_fact e = absurd (let z : ◌≡◌ {A = ℕ} 0 1 = cc in omega arith)

pub T_true : (b : Bool) → b ≡ true → T b
T_true b e = rw e tt

pub and_false : (a : Bool) → a && false ≡ false
and_false true = refl
and_false false = refl
