-- From what look answers to what the call leaves behind its pointers. Assumes nothing.
use Prim.Native.Nat.{ℕ, ◌^◌, ◌<◌}
use mathlib.Core.Path.{◌≡◌, ap, ◌∙◌}
use mathlib.Core.Option.{Option, none, some}
use mathlib.Core.List.{List}
use native.Mathlib.Omega.{arith}
use Rattle.octets.specs.Word.{value_of}
use Rattle.checkpoint.specs.Half.{value_at, stored_restarts}
use Rattle.checkpoint.specs.Checkpoint.{Form}
use Rattle.protocol.specs.Types.{Looked, Restarts, Unseen, Stretch, this_firmware}
use Rattle.protocol.specs.Calls.{Looks}
use Rattle.protocol.specs.Operations.{look_by, look, open_stretch}
use Rattle.keeper_c.specs.Calls.{looking_left, looking_by, look_call}

restarts_value : (form : Form) (half : List ℕ) → stored_restarts form half < 2 ^ 30
unfolding stored_restarts value_at value_of
restarts_value form half = omega arith

abbrev restarts_of : Looked → ℕ
restarts_of (Restarts k) = k
restarts_of (Unseen n) = 0

small_by : (S : Option ℕ) (n k : ℕ) → n < 2 ^ 30 → Restarts k ≡ look_by S n → k < 2 ^ 32
unfolding look_by
small_by none n k h e =
    let same = ap restarts_of e in
    omega (arith, same)
small_by (some s) n k h e =
    let none_left = ap restarts_of e in
    omega (arith, none_left)

module _ (ring fram : List ℕ) (a : Looks) (restarts start long : ℕ) where
  -- the restarts fit a word
  pub restarts_small : (k : ℕ) → Restarts k ≡ look this_firmware ring fram a → k < 2 ^ 32
  unfolding look
  restarts_small k e = small_by _ _ k (restarts_value _ _) e

  pub unseen : (r n : ℕ) → r ≡ n → Unseen n ≡ look this_firmware ring fram a → looking_left r restarts start long ≡ look_call ring fram a restarts start long
  unfolding look_call
  unseen r n h e = ap (λ (m : ℕ). looking_left m restarts start long) h ∙ ap (λ (l : Looked). looking_by l (open_stretch this_firmware ring fram a) restarts start long) e

  pub seen : (k : ℕ) (z : Stretch) → Restarts k ≡ look this_firmware ring fram a → z ≡ open_stretch this_firmware ring fram a
      → looking_left 0 k z.offset z.length ≡ look_call ring fram a restarts start long
  unfolding look_call
  seen k z e f =
      ap (λ (y : Stretch). looking_left 0 k y.offset y.length) f ∙ ap (λ (l : Looked). looking_by l (open_stretch this_firmware ring fram a) restarts start long) e
