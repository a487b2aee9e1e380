-- `chain::chain_order` meets its contract. Assumes nothing.
use Rattle.std.proofs.Common.{◌≡◌, ℕ, ◌≤◌, Bool, false, ◌||◌, List, length, take, sym, ap, ap₂, ◌∙◌, length-take, arith}
use Rattle.octets.specs.Limits.{entries_limit}
use Rattle.octets.specs.Octets.{put}
use Rattle.octets.proofs.Tables.{length_table}
use Rattle.chain.specs.Chain.{count, place, ends_early, order, entries_wrong}
use Rattle.chain.proofs.CallLaws.{whole, long_enough, not_long_enough, stops_21, stops_4, stops_22, written}
use Rattle.chain.proofs.chain_order.Goals as goal

few : (E : List ℕ) → false ≡ entries_wrong E → count E ≤ entries_limit
few E e = (whole E (sym e)).not_many

as_long : (E places : List ℕ) → take (count E) places ≡ order E → length (take (count E) places) ≡ count E
unfolding order
as_long E places e = ap length e ∙ length_table (count E) (place E)

pub returns-then-entries_wrong : goal.returns-then-entries_wrong
returns-then-entries_wrong c = stops_21 _ _ (sym c.if-entries_wrong.ensures)

pub returns-then-positions-n : goal.returns-then-positions-n
returns-then-positions-n c = stops_4 _ _ (sym c.if-entries_wrong.ensures) (not_long_enough _ _ (omega arith))

pub returns-then-own_twice : goal.returns-then-own_twice
returns-then-own_twice c =
    stops_22 _ _ (sym c.if-entries_wrong.ensures) (long_enough _ _ (omega arith))
    (ap (λ (t : Bool). t || ends_early c.args.entries.now) (sym c.if-own_twice.ensures))

pub walk-requires : goal.walk-requires
walk-requires c = few _ c.if-entries_wrong.ensures

pub returns-in_default : goal.returns-in_default
returns-in_default c =
    stops_22 _ _ (sym c.if-entries_wrong.ensures) (long_enough _ _ (omega arith))
    (sym (ap₂ ◌||◌ c.if-own_twice.ensures c.in_default.ensures.0))

pub slice_bounds-places-end : goal.slice_bounds-places-end
slice_bounds-places-end c = omega (arith, length-take {A = ℕ}, as_long _ _ c.in-Some.ensures.1)

pub slice_bounds-copy-end : goal.slice_bounds-copy-end
slice_bounds-copy-end c = sym (as_long _ _ c.in-Some.ensures.1)

pub returns : goal.returns
returns c =
    written _ _ _ (sym c.if-entries_wrong.ensures) (long_enough _ _ (omega arith))
    (sym (ap₂ ◌||◌ c.if-own_twice.ensures c.in-Some.ensures.0))
    (c.copy.ensures ∙ ap (put c.args.positions.now 0) c.in-Some.ensures.1)
