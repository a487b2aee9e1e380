-- `look::looking::check_half` meets its contract. Assumes nothing.
use Rattle.std.proofs.Common.{◌≡◌, ℕ, Bool, true, false, not, List, [], ◌∷◌, ◌∙◌, ◌<◌, refl, arith}
use mathlib.Core.Option.{Option, none, some}
use lib.ListN.{length}
use Rattle.octets.specs.Limits.{part_limit}
use Rattle.stops.specs.Stops.{first_of, then_stop}
use Rattle.checkpoint.specs.Half.{form_of, good_head, good_tag}
use Rattle.checkpoint.proofs.SealedLaws.{words_more}
use Rattle.checkpoint.proofs.StoredLaws.{head_facts}
use Rattle.look.specs.Stages.{of_half}
use Rattle.look.proofs.looking.check_half.Goals as goal

passed : (g t good : Bool) → g ≡ true → good ≡ t → then_stop none 12 (not good) ≡ first_of ((11, not g) ∷ (12, not t) ∷ [])
unfolding first_of
passed g t good e f = rw (e, f)

not_passed : (g t : Bool) → g ≡ false → some 11 ≡ first_of ((11, not g) ∷ (12, not t) ∷ [])
unfolding first_of
not_passed g t e = rw e

-- no checkpoint fits where one with empty parts does not
no_room : (half : List ℕ) → length half < 44 → (b : Bool) → good_head part_limit (form_of half) half ≡ b → b ≡ false
no_room half short false e = refl
no_room half short true e = let facts = head_facts part_limit (form_of half) half e in absurd (omega (arith, facts.fits, short, words_more (form_of half)))

bad_head : (key nonce half : List ℕ) → good_head part_limit (form_of half) half ≡ false → some 11 ≡ first_of (of_half key nonce half)
bad_head key nonce half e = not_passed _ (good_tag (form_of half) key nonce half) e

good_half : (key nonce half : List ℕ) (good : Bool) → good_head part_limit (form_of half) half ≡ true → good ≡ good_tag (form_of half) key nonce half
    → then_stop none 12 (not good) ≡ first_of (of_half key nonce half)
good_half key nonce half good e f = passed _ _ good e f

-- the half whose head was read is the one that was lent
lent : (key nonce half given : List ℕ) {o : Option ℕ} → half ≡ given → o ≡ first_of (of_half key nonce half) → o ≡ first_of (of_half key nonce given)
lent key nonce half given e f = f ∙ (λ i. first_of (of_half key nonce (e i)))

pub returns-then-half : goal.returns-then-half
returns-then-half c =
    let a = c.args in
    let half = a.half.now in
    bad_head a.key.now a.nonce.now half (no_room half c.if-half.true _ refl)

pub returns-in_default : goal.returns-in_default
returns-in_default c =
    let a = c.args in
    let b = c.in_default.field-0 in
    lent a.key.now a.nonce.now b.half.now _ c.in_default.ensures (bad_head a.key.now a.nonce.now b.half.now b.says.good)

pub returns : goal.returns
returns c =
    let a = c.args in
    let h = c.in-Ok.head in
    c.stop_if.ensures ∙ lent a.key.now a.nonce.now h.half.now _ c.in-Ok.ensures (good_half a.key.now a.nonce.now h.half.now _ h.says.good c.good_tag_under-good.ensures)
