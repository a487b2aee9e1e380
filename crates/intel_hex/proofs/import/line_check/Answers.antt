-- `intel_hex::import::line_check` meets its contract: the conditions tried in turn are the list's. Assumes nothing.
use mathlib.Core.Path.{◌≡◌, refl, ap, ◌∙◌}
use mathlib.Core.Bool.{Bool, ◌&&◌}
use mathlib.Core.List.{[], ◌∷◌}
use Prim.Native.Nat.{ℕ, ◌+◌, ◌*◌}
use lib.Dec.{eqb}
use Rattle.stops.proofs.Laws.{no_lines, one_more}
use Rattle.hex_lines.specs.Format.{data_line, boundary}
use Rattle.intel_hex.specs.Import.{misplaced}
use Rattle.intel_hex.specs.Inner.{checks}
use Rattle.intel_hex.proofs.import.line_check.Goals as goal

-- the last condition, with the place as it was worked out
last : (size p p' a n next : ℕ) (k m : Bool) → m ≡ misplaced size p a n next → p ≡ p' → k && m ≡ k && misplaced size p' a n next
last size p p' a n next k m e f = ap (λ (t : Bool). k && t) (e ∙ ap (λ (x : ℕ). misplaced size x a n next) f)

pub returns : goal.returns
unfolding checks
returns c =
    let a = c.args in
    let l = a.line in
    let one = one_more [] 15 a.reading.ended _ _ _ no_lines refl c.stop_if.ensures in
    let two = one_more ((15, a.reading.ended) ∷ []) 16 a.wrong _ _ _ one refl c.stop_if-2.ensures in
    one_more ((15, a.reading.ended) ∷ (16, a.wrong) ∷ []) 17 (eqb l.kind data_line && misplaced a.size (a.reading.upper * boundary + l.address) l.address l.length a.reading.next) _ _ _ two
    (last a.size _ _ l.address l.length a.reading.next (eqb l.kind data_line) _ c.misplaced.ensures c.data_place-place.ensures.0) c.stop_if-3.ensures
