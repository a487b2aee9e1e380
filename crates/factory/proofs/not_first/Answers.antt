-- `factory::not_first` meets its contract. Assumes nothing.
use mathlib.Core.Path.{◌≡◌, refl, ap, ◌∙◌}
use mathlib.Core.Bool.{not, ◌||◌}
use Prim.Native.Nat.{ℕ}
use lib.Dec.{eqb}
use Rattle.checkpoint.specs.Checkpoint.{Form, Older, Longer, head_length}
use Rattle.checkpoint.specs.Half.{form_of}
use Rattle.factory.specs.Factory.{is_older, not_first}
use Rattle.factory.proofs.not_first.Goals as goal

-- the head's length says its form
by_length : (form : Form) → not (eqb (head_length form) (head_length Longer)) ≡ is_older form
by_length Older = refl
by_length Longer = refl

pub returns : goal.returns
unfolding not_first
returns c =
    let page = c.page.ensures in
    let slot = c.slot.ensures in
    let pending = c.is_pending.ensures in
    let h = c.args.head.now in
    let restarts = h.says.restarts_is in
    let older = ap (λ (n : ℕ). not (eqb n (head_length Longer))) h.says.start_is ∙ by_length (form_of h.half.now) in
    λ i. not (eqb (page i) 0) || not (eqb (slot i) 0) || not (eqb c.args.half 0) || pending i || not (eqb (restarts i) 0) || older i
