-- `ring_line::found` meets its contract: each arm writes the text of its case, and the numbers are those of a place in the ring. Assumes nothing.
use Prim.Native.Nat.{ℕ}
use mathlib.Core.Path.{refl, ap, ◌∙◌}
use mathlib.Core.List.{◌++◌}
use native.Mathlib.Omega.{arith}
use borrow.Author.Rules.{rules}
use Rattle.ring.specs.Ring.{half_named}
use Rattle.ring_line.specs.Text.{ascii, decimal, refused_text, place_text, newest_text}
use Rattle.ring_line.proofs.LineLaws.{behind, no_longer, newest_fits, pending_fits}
use Rattle.ring_line.proofs.found.Goals as goal

pub slot_at-requires : goal.slot_at-requires
slot_at-requires c =
    (newest_fits _ _ _ c.args.ring.now.right c.in-At.ensures.0).ends

pub place-requires : goal.place-requires
place-requires c =
    let f = newest_fits _ _ _ c.args.ring.now.right c.in-At.ensures.0 in
    (f.page, f.slot)

pub slot_at-requires-in-AtPending : goal.slot_at-requires-in-AtPending
slot_at-requires-in-AtPending c =
    (newest_fits _ _ _ c.args.ring.now.right c.in-AtPending.ensures.0).ends

pub place-requires-in-AtPending : goal.place-requires-in-AtPending
place-requires-in-AtPending c =
    let f = newest_fits _ _ _ c.args.ring.now.right c.in-AtPending.ensures.0 in
    (f.page, f.slot)

pub add_decimal-requires : goal.add_decimal-requires
add_decimal-requires c =
    (pending_fits _ _ _ c.args.ring.now.right c.in-AtPending.ensures.0 _ _ refl, search rules)

pub returns-in-Blank : goal.returns-in-Blank
unfolding newest_text
returns-in-Blank c =
    let r = c.args.ring.now in
    no_longer 37 (ap (newest_text r.bytes.now r.slots) c.in-Blank.ensures.0) (omega arith)
    (behind 5 c.empty.ensures c.add.ensures (omega arith))

pub returns-in-Unreadable : goal.returns-in-Unreadable
unfolding newest_text
returns-in-Unreadable c =
    let r = c.args.ring.now in
    no_longer 37 (ap refused_text c.stop_number.ensures
    ∙ ap (newest_text r.bytes.now r.slots) c.in-Unreadable.ensures.0) (omega arith)
    c.refused.ensures

pub returns-in-At : goal.returns-in-At
unfolding newest_text
returns-in-At c =
    let r = c.args.ring.now in
    no_longer 37 (ap (λ (h : ℕ). place_text c.in-At.page c.in-At.slot h ++ ascii "none") (c.half_named-half.ensures ∙ ap half_named c.slot_at.ensures.0)
    ∙ ap (newest_text r.bytes.now r.slots) c.in-At.ensures.0) (omega arith)
    (behind 37 c.place.ensures c.add-in-At.ensures (omega arith))

pub returns-in-AtPending : goal.returns-in-AtPending
unfolding newest_text
returns-in-AtPending c =
    let r = c.args.ring.now in
    no_longer 37 (ap (λ (h : ℕ). place_text c.in-AtPending.page 0 h ++ decimal c.in-AtPending.pending) (c.half_named-half-in-AtPending.ensures ∙ ap half_named c.slot_at-in-AtPending.ensures.0)
    ∙ ap (newest_text r.bytes.now r.slots) c.in-AtPending.ensures.0) (omega arith)
    (behind 36 c.place-in-AtPending.ensures c.add_decimal.ensures.0 (omega arith))
