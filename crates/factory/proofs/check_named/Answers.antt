-- `factory::check_named` meets its contract. Assumes nothing.
use mathlib.Core.Path.{◌≡◌, refl, sym, ap, ◌∙◌}
use mathlib.Core.Bool.{Bool, false}
use mathlib.Core.Option.{Option, none, some}
use mathlib.Core.List.{List}
use Prim.Native.Nat.{ℕ}
use native.Mathlib.Omega.{arith}
use Rattle.octets.specs.Limits.{fram_limit}
use Rattle.stops.specs.Stops.{then_stop}
use Rattle.ring.specs.Ring.{Newest, half_named}
use Rattle.ring.specs.View.{newest}
use Rattle.checkpoint.specs.Fram.{half_length, half_at}
use Rattle.checkpoint.specs.Half.{form_of, stored_restarts}
use Rattle.checkpoint.proofs.FramLaws.{an_image}
use Rattle.look.proofs.LookLaws.{half_checked, bad_head}
use Rattle.factory.specs.Factory.{not_first}
use Rattle.factory.proofs.check_named.Goals as goal

-- stop 19, said of the half that the record names
first_check : (n : Newest) (rec fram half : List ℕ) (h : ℕ) → h ≡ half_named rec → half ≡ half_at fram h → (let named = half_at fram (half_named rec) in not_first n h (form_of half) (stored_restarts (form_of half) half) ≡ not_first n (half_named rec) (form_of named) (stored_restarts (form_of named) named))
first_check n rec fram half h x y =
    let there = y ∙ ap (half_at fram) x in
    (λ i. not_first n (x i) (form_of (there i)) (stored_restarts (form_of (there i)) (there i)))

-- a stop before it stays
stays : (o : Option ℕ) (s n : ℕ) (b : Bool) → some s ≡ o → some s ≡ then_stop o n b
stays (some t) s n b e = e
stays none s n b e = let z : ◌≡◌ {A = ℕ} 0 1 = cc in absurd (omega arith)

-- a condition that does not apply stops nothing
none_more : (o : Option ℕ) (n : ℕ) → o ≡ then_stop o n false
none_more none n = refl
none_more (some s) n = refl

pub read_head-requires : goal.read_head-requires
unfolding half_length
read_head-requires c =
    let z = an_image fram_limit c.args.fram.now c.requires.0 in
    omega (arith, c.half_at-half.ensures.1)

pub returns-in_default : goal.returns-in_default
returns-in_default c =
    let a = c.args in
    let there = c.half_at-half.ensures.0 in
    let checked = half_checked a.key.now a.«record».now a.fram.now _ _ _ _ c.half_named-number.ensures there c.part.ensures.0 c.check_half-check.ensures in
    let bad = bad_head a.key.now a.«record».now a.fram.now _ _ c.half_named-number.ensures (c.in_default.ensures ∙ there) c.in_default.field-0.says.good in
    checked ∙ sym bad ∙ stays _ 11 19 _ bad

pub returns-then-not_first : goal.returns-then-not_first
returns-then-not_first c =
    let a = c.args in
    let there = c.in-Ok.ensures ∙ c.half_at-half.ensures.0 in
    let checked = half_checked a.key.now a.«record».now a.fram.now _ _ _ _ c.half_named-number.ensures c.half_at-half.ensures.0 c.part.ensures.0 c.check_half-check.ensures in
    let wrong = c.if-not_first.ensures ∙ first_check (newest a.found) a.«record».now a.fram.now _ _ c.half_named-number.ensures there in
    c.stop_if.ensures ∙ (λ i. then_stop (checked i) 19 (wrong i))

pub returns : goal.returns
returns c =
    let a = c.args in
    let there = c.in-Ok.ensures ∙ c.half_at-half.ensures.0 in
    let checked = half_checked a.key.now a.«record».now a.fram.now _ _ _ _ c.half_named-number.ensures c.half_at-half.ensures.0 c.part.ensures.0 c.check_half-check.ensures in
    let wrong = c.if-not_first.ensures ∙ first_check (newest a.found) a.«record».now a.fram.now _ _ c.half_named-number.ensures there in
    checked ∙ none_more _ 19 ∙ ap (then_stop _ 19) wrong
