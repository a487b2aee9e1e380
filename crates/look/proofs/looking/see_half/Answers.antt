-- `look::looking::see_half` meets its contract. Assumes nothing.
use Rattle.std.proofs.Common.{◌≡◌, ℕ, List, Ok, Err, ◌+◌, ◌*◌, refl, ap, ◌∙◌, arith}
use Rattle.std.proofs.lemmas.Result.{err_from_is_err_and}
use mathlib.Core.Option.{Option, none, some}
use Rattle.octets.specs.Limits.{fram_limit}
use Rattle.stops.specs.declared.Stop.{Stop}
use Rattle.stops.specs.View.{stop_number}
use Rattle.ring.specs.Ring.{half_named}
use Rattle.checkpoint.specs.Checkpoint.{head_length}
use Rattle.checkpoint.specs.Fram.{half_at, half_length}
use Rattle.checkpoint.specs.Half.{form_of, open_length, stored_restarts}
use Rattle.checkpoint.proofs.FramLaws.{an_image, half_within}
use Rattle.checkpoint.proofs.SealedLaws.{head_small}
use Rattle.protocol.specs.Operations.{look_by, stretch_by}
use Rattle.look.specs.Seen.{Sees}
use Rattle.look.proofs.LookLaws.{half_checked, bad_head}
use Rattle.look.proofs.looking.see_half.Goals as goal

-- said of the half that the record names
module _ (newest fram : List ℕ) (h : ℕ) (x : h ≡ half_named newest) (half : List ℕ) (y : half ≡ half_at fram h) where
  half_is : half ≡ half_at fram (half_named newest)
  half_is = y ∙ ap (half_at fram) x

  found : {o : Option ℕ} (n at m : ℕ) → none ≡ o → n ≡ stored_restarts (form_of half) half → at ≡ head_length (form_of half) → m ≡ open_length (form_of half) half
      → Sees (Ok (record { restarts = n; offset = h * half_length fram + at; length = m })) o fram (half_named newest)
  unfolding look_by stretch_by
  found n at m e r b l = record {
    looked = λ i. look_by (e i) ((r ∙ ap (λ (l : List ℕ). stored_restarts (form_of l) l) half_is) i);
    stretch = λ i. stretch_by (e i) (x i * half_length fram + (b ∙ ap (λ (l : List ℕ). head_length (form_of l)) half_is) i) ((l ∙ ap (λ (l : List ℕ). open_length (form_of l) l) half_is) i);
  }

  stopped : (s : Stop) {o : Option ℕ} → some (stop_number s) ≡ o → Sees (Err s) o fram (half_named newest)
  unfolding look_by stretch_by
  stopped s e = rw (← e) (record { looked = refl; stretch = refl })

pub read_head-requires : goal.read_head-requires
unfolding half_length
read_head-requires c =
    let z = an_image fram_limit c.args.fram.now c.requires.0 in
    omega (arith, c.half_at-half.ensures.1)

pub overflow_mul-result : goal.overflow_mul-result
unfolding half_length
overflow_mul-result c =
    let w = half_within c.args.fram.now c.half_named-number.result (an_image fram_limit c.args.fram.now c.requires.0) (omega (arith, c.half_named-number.ensures, c.requires.3)) in
    omega arith

pub overflow_add-result : goal.overflow_add-result
unfolding half_length
overflow_add-result c =
    let w = half_within c.args.fram.now c.half_named-number.result (an_image fram_limit c.args.fram.now c.requires.0) (omega (arith, c.half_named-number.ensures, c.requires.3)) in
    let z = an_image fram_limit c.args.fram.now c.requires.0 in
    let h = c.in-Ok.head in
    omega (arith, h.says.start_is, head_small (form_of h.half.now))

pub returns-in_default : goal.returns-in_default
returns-in_default c =
    let a = c.args in
    stopped a.«record».now a.fram.now _ c.half_named-number.ensures _ c.half_at-half.ensures.0 _
    (bad_head a.key.now a.«record».now a.fram.now _ _ c.half_named-number.ensures (c.in_default.ensures ∙ c.half_at-half.ensures.0) c.in_default.field-0.says.good)

pub returns-in_err-check_half : goal.returns-in_err-check_half
returns-in_err-check_half c =
    let a = c.args in
    let there = c.half_at-half.ensures.0 in
    let p = err_from_is_err_and c.from_residual.result c.from_residual.ensures.1 in
    rw (p.1, p.2)
    (stopped a.«record».now a.fram.now _ c.half_named-number.ensures _ there _
    (half_checked a.key.now a.«record».now a.fram.now _ _ _ _ c.half_named-number.ensures there c.part.ensures.0 c.in_err-check_half.ensures))

pub returns : goal.returns
unfolding half_length
returns c =
    let a = c.args in
    let there = c.in-Ok.ensures ∙ c.half_at-half.ensures.0 in
    let says = c.in-Ok.head.says in
    found a.«record».now a.fram.now _ c.half_named-number.ensures _ there _ _ _
    (half_checked a.key.now a.«record».now a.fram.now _ _ _ _ c.half_named-number.ensures c.half_at-half.ensures.0 c.part.ensures.0 c.in_ok-check_half.ensures)
    says.restarts_is says.start_is says.open_is
