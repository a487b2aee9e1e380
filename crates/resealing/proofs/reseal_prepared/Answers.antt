-- `resealing::reseal_prepared` meets its contract. Assumes nothing.
use Rattle.std.proofs.Common.{◌≡◌, ℕ, Bool, false, List, Result, Ok, Err, refl, sym, ap, ◌∙◌}
use Rattle.std.proofs.lemmas.Result.{err_from_is_err_and}
use mathlib.Core.Option.{some}
use Rattle.stops.specs.declared.Stop.{Stop}
use Rattle.stops.specs.Stops.{first_of}
use Rattle.stops.proofs.Laws.{passes}
use Rattle.resealing.specs.Stages.{opening_lines}
use Rattle.resealing.proofs.Laws.{tag_passes, restarts_below}
use Rattle.resealing.proofs.reseal_prepared.Goals as goal

not_ok : (s : Stop) (t : List ℕ) → ◌≡◌ {A = Result (List ℕ) Stop} (Err s) (Ok t) → ⊥
not_ok s t e = cc

ok_one : (s t : List ℕ) → ◌≡◌ {A = Result (List ℕ) Stop} (Ok s) (Ok t) → s ≡ t
ok_one s t e = ap tag_in e
  where
    tag_in : Result (List ℕ) Stop → List ℕ
    tag_in (Ok t) = t
    tag_in (Err e) = s

-- the stops of a half, once its tag was looked at
told : (half : List ℕ) (used : Bool) (o : _) (good tag : Bool) → o ≡ first_of (opening_lines half good used) → good ≡ tag → o ≡ first_of (opening_lines half tag used)
told half used o good tag e f = e ∙ ap (λ (g : Bool). first_of (opening_lines half g used)) f

tag_differs : (half : List ℕ) (good used : Bool) → good ≡ false → some 12 ≡ first_of (opening_lines half good used)
unfolding first_of
tag_differs half good used e = rw e

pub returns-then-not-good : goal.returns-then-not-good
returns-then-not-good c key e =
    let half = c.args.restart.now.head.half.now in
    record {
      check = told half c.args.restart.now.used _ _ _ (tag_differs half c.good_tag-good.result c.args.restart.now.used c.if-not-good.true) (c.good_tag-good.ensures key e);
      stops = λ s n. (refl, refl);
      begins = λ t n. absurd (not_ok _ t n);
    }

pub reopen-requires : goal.reopen-requires
reopen-requires c =
    let p = c.requires in
    let h = c.args.restart.now.head in
    let lines = passes _ (sym c.in_ok-check_opening.ensures) in
    (p, restarts_below h.half.now _ h.says.good h.says.restarts_is lines.1.0, lines.1.1.1.0)

pub returns-in_err-check_opening : goal.returns-in_err-check_opening
returns-in_err-check_opening c key e =
    let p = err_from_is_err_and c.from_residual.result c.from_residual.ensures.1 in
    rw (p.1, p.2)
    (record {
      check = told c.args.restart.now.head.half.now c.args.restart.now.used _ _ _ c.in_err-check_opening.ensures (c.good_tag-good.ensures key e);
      stops = λ s n. (refl, refl);
      begins = λ t n. absurd (not_ok _ t n);
    })

pub returns : goal.returns
returns c key e =
    let a = c.args in
    let half = a.restart.now.head.half.now in
    let all = told half a.restart.now.used _ _ _ c.in_ok-check_opening.ensures (c.good_tag-good.ensures key e) in
    record {
      check = all;
      stops = λ s n. absurd (not_ok s _ (sym n));
      begins = λ t n. rw (← ok_one _ t n) (c.reopen.ensures key e (tag_passes half _ a.restart.now.used (sym all)));
    }
