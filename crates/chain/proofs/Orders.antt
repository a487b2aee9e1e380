-- Chain orders and the walk: a walk that does not end early is one, and there is no other. Assumes nothing.
use Prim.Native.Nat.{ℕ, zero, suc, ◌≤◌, ◌<◌}
use mathlib.Core.Path.{◌≡◌, refl, sym, ap, ◌∙◌}
use mathlib.Core.Bool.{Bool, false, not, true≢false}
use mathlib.Core.List.{List}
use native.Mathlib.Omega.{arith}
use lib.Dec.{eqb}
use borrow.Author.Tests.{eqb-true, eqb-false, eq-eqb, ne_eqb, not-false}
use Rattle.octets.specs.Limits.{tag_length}
use Rattle.octets.specs.Octets.{same}
use Rattle.octets.proofs.Laws.{same_equal, equal_same, unequal_same}
use Rattle.octets.proofs.Tables.{length_table, get_or_table, is_table}
use Rattle.chain.specs.Chain.{count, tag_at, previous, own, nth, ChainOrder, entry_with, owner, follower, not_first, own_twice, begins, first_entry, place, ends_early, order}
use Rattle.octets.proofs.Search.{Found, found, none_below, some_ends, ends, only_one}
use Rattle.chain.proofs.Pigeons.{Stands, each_stands}

-- ---- an entry with a tag

module _ (E : List ℕ) (offset : ℕ) (tag : List ℕ) where
  abbrev pub tag_test : ℕ → Bool
  tag_test i = same (tag_at E offset i) tag

  -- what a comparison says
  pub tag_tested : (i : ℕ) (r t : Bool) (at : List ℕ) → at ≡ tag_at E offset i → r ≡ same at tag → r ≡ t → tag_test i ≡ t
  tag_tested i r t at e s q = ap (λ (l : List ℕ). same l tag) (sym e) ∙ sym s ∙ q

  searched : Found (count E) tag_test (entry_with E offset tag)
  unfolding entry_with
  searched = found (count E) tag_test

  pub with_small : entry_with E offset tag ≤ count E
  with_small = searched.within

  -- it has the tag
  pub with_tag : entry_with E offset tag < count E → tag_at E offset (entry_with E offset tag) ≡ tag
  with_tag h = same_equal _ tag (searched.holds h)

  -- none has it
  pub with_none : entry_with E offset tag ≡ count E → (i : ℕ) → i < count E → tag_at E offset i ≡ tag → ⊥
  with_none e i h q = true≢false (sym (equal_same _ tag q) ∙ searched.before i (omega arith))

  pub none_with : ((i : ℕ) → i < count E → tag_at E offset i ≡ tag → ⊥) → entry_with E offset tag ≡ count E
  unfolding entry_with
  none_with n = ends (count E) tag_test (count E) (λ j h. unequal_same _ tag (n j h)) refl

  -- one alone has it
  pub one_with : (k : ℕ) → k < count E → tag_at E offset k ≡ tag → ((j : ℕ) → j < count E → tag_at E offset j ≡ tag → j ≡ k) → entry_with E offset tag ≡ k
  unfolding entry_with
  one_with k h e u = only_one (count E) tag_test k h (equal_same _ tag e) (λ j l t. u j l (same_equal _ tag t))

-- ---- what the walk's search tests

-- there is none at this place
abbrev pub end_test : (E : List ℕ) → ℕ → Bool
end_test E k = eqb (place E k) (count E)

-- an entry, or past the last
pub place_small : (E : List ℕ) (k : ℕ) → place E k ≤ count E
unfolding place first_entry
place_small E zero = (found (count E) (begins E)).within
place_small E (suc k) = with_small E 0 (own E (place E k))

-- ---- entries f 0, f 1 and so on, each of which names the one before

module _ (E : List ℕ) (f : ℕ → ℕ) (there : (k : ℕ) → k < count E → f k < count E)
    (own_differ : (i j : ℕ) → i < count E → j < count E → own E i ≡ own E j → i ≡ j)
    (first : (i : ℕ) → i < count E → previous E (f 0) ≡ own E i → ⊥)
    (later : (k : ℕ) → suc k < count E → previous E (f (suc k)) ≡ own E (f k)) where
  -- no two are the same: go back from both places, step by step, to the first
  pub no_two : (j k : ℕ) → j < count E → k < count E → f j ≡ f k → j ≡ k
  no_two zero zero hj hk e = refl
  no_two zero (suc k) hj hk e = absurd (first (f k) (there k (omega arith)) (ap (previous E) e ∙ later k hk))
  no_two (suc j) zero hj hk e = absurd (first (f j) (there j (omega arith)) (ap (previous E) (sym e) ∙ later j hj))
  no_two (suc j) (suc k) hj hk e =
      ap suc (no_two j k (omega arith) (omega arith)
      (own_differ (f j) (f k) (there j (omega arith)) (there k (omega arith)) (sym (later j hj) ∙ ap (previous E) e ∙ later k hk)))

-- ---- a walk that does not end early

module _ (E : List ℕ) (differ : own_twice E ≡ false) (long : ends_early E ≡ false) where
  -- every entry is the first with its own tag
  first_own : (i : ℕ) → i < count E → owner E (own E i) ≡ i
  unfolding own_twice
  first_own i h = eqb-true _ i (not-false _ (none_below (count E) (not_first E) differ i h))

  own_one : (i j : ℕ) → i < count E → j < count E → own E i ≡ own E j → i ≡ j
  own_one i j hi hj e = sym (first_own i hi) ∙ ap (owner E) e ∙ first_own j hj

  place_there : (k : ℕ) → k < count E → place E k < count E
  unfolding ends_early
  place_there k h = omega (arith, place_small E k, eqb-false (place E k) (count E) (none_below (count E) (end_test E) long k h))

  walk_first : (i : ℕ) → i < count E → previous E (place E 0) ≡ own E i → ⊥
  unfolding place first_entry
  walk_first i h e =
      let z : 0 < count E = omega arith in
      let n : owner E (previous E (place E 0)) ≡ count E =
      eqb-true _ _ ((found (count E) (begins E)).holds (place_there 0 z)) in
      with_none E tag_length (previous E (place E 0)) n i h (sym e)

  walk_later : (k : ℕ) → suc k < count E → previous E (place E (suc k)) ≡ own E (place E k)
  unfolding place
  walk_later k h = with_tag E 0 (own E (place E k)) (place_there (suc k) h)

  in_order : (k : ℕ) → k < count E → nth (order E) k ≡ place E k
  unfolding order
  in_order k h = get_or_table (count E) (place E) k h

  pub walk_orders : ChainOrder E (order E)
  unfolding order
  walk_orders = record {
    in_all = omega (arith, length_table (count E) (place E));
    there = λ k h. rw (in_order k h) (place_there k h);
    once = λ j k hj hk e. no_two E (place E) place_there own_one walk_first walk_later j k (omega arith) (omega arith) (sym (in_order j (omega arith)) ∙ e ∙ in_order k (omega arith));
    own_differ = own_one;
    first = λ i h e. walk_first i (omega arith) (ap (previous E) (sym (in_order 0 (omega arith))) ∙ e);
    later = λ k h. ap (previous E) (in_order (suc k) h) ∙ walk_later k h ∙ ap (own E) (sym (in_order k (omega arith)));
  }

-- ---- an order, and the walk

module _ (E ps : List ℕ) (o : ChainOrder E ps) where
  stands : (q : ℕ) → q < count E → Stands (count E) (nth ps) q
  stands = each_stands (count E) (nth ps) (record { below = o.there; differ = λ j k hj hk e. o.once j k (omega arith) (omega arith) e })

  order_differs : own_twice E ≡ false
  unfolding own_twice
  order_differs = some_ends (count E) (not_first E) (count E) (λ i h. ap not (eq-eqb _ i (first_with i h))) refl
    where
      first_with : (i : ℕ) → i < count E → owner E (own E i) ≡ i
      first_with i h = one_with E tag_length (own E i) i h refl (λ j l e. o.own_differ j i l h e)

  -- the first of the order is the only entry whose previous tag is none's own
  order_first : 0 < count E → place E 0 ≡ nth ps 0
  unfolding place first_entry
  order_first z =
      only_one (count E) (begins E) (nth ps 0) (o.there 0 z)
      (eq-eqb _ _ (none_with E tag_length (previous E (nth ps 0)) (λ i h e. o.first i (omega arith) (sym e))))
      (λ j h t. only j h (eqb-true _ _ t) (stands j h))
    where
      later : (j : ℕ) → owner E (previous E j) ≡ count E → (k : ℕ) → k < count E → nth ps k ≡ j → j ≡ nth ps 0
      later j n zero h e = sym e
      later j n (suc k) h e =
          absurd (with_none E tag_length (previous E j) n (nth ps k) (o.there k (omega arith)) (sym (o.later k h) ∙ ap (previous E) e))

      only : (j : ℕ) → j < count E → owner E (previous E j) ≡ count E → Stands (count E) (nth ps) j → j ≡ nth ps 0
      only j h n s = later j n s.place s.there s.stands

  -- and each later one is the only entry that names the one before it
  order_later : (k : ℕ) → suc k < count E → follower E (nth ps k) ≡ nth ps (suc k)
  order_later k h =
      one_with E 0 (own E (nth ps k)) (nth ps (suc k)) (o.there (suc k) h) (o.later k h) (λ j l e. only j e (stands j l))
    where
      back : (j : ℕ) → previous E j ≡ own E (nth ps k) → (m : ℕ) → m < count E → nth ps m ≡ j → j ≡ nth ps (suc k)
      back j e zero l q = absurd (o.first (nth ps k) (omega (arith, o.there k (omega arith))) (ap (previous E) q ∙ e))
      back j e (suc m) l q =
          let same_own : own E (nth ps m) ≡ own E (nth ps k) = sym (o.later m l) ∙ ap (previous E) q ∙ e in
          let one : m ≡ k = o.once m k (omega arith) (omega arith) (o.own_differ _ _ (o.there m (omega arith)) (o.there k (omega arith)) same_own) in
          sym q ∙ ap (λ (i : ℕ). nth ps (suc i)) one

      only : (j : ℕ) → previous E j ≡ own E (nth ps k) → Stands (count E) (nth ps) j → j ≡ nth ps (suc k)
      only j e s = back j e s.place s.there s.stands

  order_place : (k : ℕ) → k < count E → place E k ≡ nth ps k
  unfolding place
  order_place zero h = order_first h
  order_place (suc k) h = ap (follower E) (order_place k (omega arith)) ∙ order_later k h

  order_long : ends_early E ≡ false
  unfolding ends_early
  order_long =
      some_ends (count E) (end_test E) (count E)
      (λ k h. ne_eqb (place E k) (count E) (λ e. omega (arith, o.there k h, order_place k h, e))) refl

  pub order_walks : (own_twice E ≡ false) × (ends_early E ≡ false) × (ps ≡ order E)
  unfolding order
  order_walks = (order_differs, order_long, is_table (count E) (place E) ps (omega (arith, o.in_all)) (λ k h. sym (order_place k h)))
