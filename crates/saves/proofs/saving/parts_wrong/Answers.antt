-- `saves::saving::parts_wrong` meets its contract. Assumes nothing.
use mathlib.Core.Path.{◌≡◌, sym, ap, ◌∙◌}
use mathlib.Core.Bool.{Bool, true, false, ◌||◌}
use mathlib.Core.List.{List}
use Prim.Native.Nat.{ℕ}
use native.Mathlib.Omega.{arith}
use lib.Dec.{ltb}
use lib.ListN.{length}
use Rattle.protocol.specs.Types.{this_firmware}
use Rattle.octets.specs.Limits.{part_limit}
use Rattle.stops.proofs.Laws.{neither}
use Rattle.checkpoint.specs.Checkpoint.{Longer, part_wrong, sealed_length}
use Rattle.checkpoint.specs.Fram.{half_length}
use Rattle.protocol.specs.Operations.{parts_wrong}
use Rattle.saves.proofs.Laws.{small}
use Rattle.saves.proofs.saving.parts_wrong.Goals as goal

wrong : (open_part secret fram : List ℕ) (x y : Bool) → x ≡ part_wrong part_limit open_part → y ≡ part_wrong part_limit secret → x || y ≡ true → true ≡ parts_wrong this_firmware open_part secret fram
unfolding parts_wrong
wrong open_part secret fram x y e f t =
    let both : part_wrong part_limit open_part || part_wrong part_limit secret ≡ true = sym (λ i. e i || f i) ∙ t in
    sym (ap (λ (b : Bool). b || ltb (half_length fram) (sealed_length Longer (length open_part) (length secret))) both)

right : (open_part secret fram : List ℕ) (x y : Bool) → x ≡ part_wrong part_limit open_part → y ≡ part_wrong part_limit secret → x || y ≡ false
    → ltb (half_length fram) (sealed_length Longer (length open_part) (length secret)) ≡ parts_wrong this_firmware open_part secret fram
unfolding parts_wrong
right open_part secret fram x y e f t =
    let both : part_wrong part_limit open_part || part_wrong part_limit secret ≡ false = sym (λ i. e i || f i) ∙ t in
    sym (ap (λ (b : Bool). b || ltb (half_length fram) (sealed_length Longer (length open_part) (length secret))) both)

pub returns-then-part_wrong : goal.returns-then-part_wrong
returns-then-part_wrong c =
    let a = c.args in
    wrong a.«open».now a.secret.now a.fram.now _ _ c.part_wrong.ensures c.part_wrong-2.ensures c.if-part_wrong.true

pub overflow_add-result-2 : goal.overflow_add-result-2
overflow_add-result-2 c =
    let a = c.args in
    let both = neither _ _ c.if-part_wrong.false in
    let x = small a.«open».now (sym c.part_wrong.ensures ∙ both.0) in
    let y = small a.secret.now (sym c.part_wrong-2.ensures ∙ both.1) in
    omega (arith, x, y)

pub returns : goal.returns
unfolding half_length
returns c =
    let a = c.args in
    right a.«open».now a.secret.now a.fram.now _ _ c.part_wrong.ensures c.part_wrong-2.ensures c.if-part_wrong.false
