-- `chain::walk` meets its contract. Assumes nothing.
use Rattle.std.proofs.Common.{set, ◌≡◌, ℕ, ◌+◌, ◌≤◌, ◌<◌, true, List, Option, Some, None, IfSome, unwrap_or, sym, ap, ◌∙◌, add-one, arith}
use Rattle.std.proofs.Math.Seq.{length-take-le, take_at}
use Rattle.std.proofs.lemmas.Option.{MatchOption-at_some}
use borrow.Author.Tests.{eq-eqb, ne_eqb}
use Rattle.octets.specs.Limits.{entries_limit}
use Rattle.octets.proofs.Tables.{fill_none, fill_more, is_table}
use Rattle.octets.proofs.Search.{none_yet, none_more, some_stops, some_ends}
use Rattle.chain.specs.Chain.{count, entry_with, own, place, ends_early, order}
use Rattle.chain.proofs.Orders.{end_test}
use Rattle.chain.proofs.walk.Invariants.{Walked}
use Rattle.chain.proofs.walk.Goals as goal

-- the chain ends where there is no next entry
ended : (E : List ℕ) (k : ℕ) (next : Option ℕ) (places : List ℕ) → Walked E k next places → k < count E → next ≡ None → true ≡ ends_early E
unfolding ends_early
ended E k next places w h e = sym (some_stops (count E) (end_test E) k w.going h (eq-eqb _ _ (sym w.next_place ∙ ap (λ o. unwrap_or o (count E)) e)))

-- one place more
more : (E : List ℕ) (k i : ℕ) (next next' : Option ℕ) (places tag : List ℕ) → Walked E k next places → k < count E → count E ≤ entries_limit → next ≡ Some i
    → tag ≡ own E i → (unwrap_or next' (count E) ≡ entry_with E 0 tag) × IfSome next' (λ j. j < count E) → Walked E (k + 1) next' (set places k i)
unfolding place
more E k i next next' places tag w h l e t n =
    let b : i < count E = MatchOption-at_some _ (λ j. j < count E) i e w.there in
    let here : i ≡ place E k = sym (ap (λ o. unwrap_or o (count E)) e) ∙ w.next_place in
    record {
      next_place = n.0 ∙ ap (entry_with E 0) (t ∙ ap (own E) here) ∙ ap (place E) (sym (add-one k));
      there = n.1;
      stored = fill_more i w.stored (omega arith) here;
      going = none_more (end_test E) k w.going (ne_eqb _ _ (λ q. omega arith));
    }

pub loop-place-init : goal.loop-place-init
unfolding place
loop-place-init c = record { next_place = c.first_entry-next.ensures.0; there = c.first_entry-next.ensures.1; stored = fill_none _ _ _ (length-take-le _ _ c.requires); going = none_yet _ }

pub returns-in_err-i : goal.returns-in_err-i
returns-in_err-i c = rw c.from_residual.ensures (ended _ _ _ _ c.loop-place.invariant (omega (arith, c.loop-place.invariant.stored.long)) c.in_err-i.was, tt)

pub loop-place-preserved : goal.loop-place-preserved
loop-place-preserved c = more _ _ _ _ _ _ _ c.loop-place.invariant (omega (arith, c.loop-place.invariant.stored.long)) c.requires c.in_ok-i.was c.tag_at.ensures c.entry_with-next.ensures

pub returns : goal.returns
unfolding ends_early order
returns c =
    let E = c.args.entries.now in
    let w = c.loop-place.invariant in (
      sym (some_ends (count E) (end_test E) c.loop-place.place-index w.going (omega (arith, w.stored.long))),
      take_at _ _ (count E) w.stored.long ∙ is_table (count E) (place E) _ w.stored.long (λ j l. w.stored.done j (omega (arith, w.stored.long))),
    )
