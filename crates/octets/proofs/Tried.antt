-- What `find` and `any` over the numbers below n say, as a search. Assumes nothing.
use Rattle.std.proofs.Common.{◌≡◌, ℕ, ◌+◌, ◌-◌, ◌≤◌, ◌<◌, Bool, true, false, Option, Some, None, List, refl, sym, ap, ◌∙◌, length, get_or, unwrap_or, is_some, IsSome, IfSome, MatchOption, not, eqb, ltb, arith}
use Rattle.std.specs.Bool.{MatchBool}
use Rattle.std.specs.List.{range_with_len, AllWithin, HoldsAt}
use Rattle.std.proofs.lemmas.List.FromFn.{length-range_with_len, get_or-range_with_len}
use mathlib.Core.Bool.{true≢false}
use borrow.Author.Tests.{ltb-true, ltb-false, eq-eqb, ne_eqb}
use Rattle.octets.specs.Search.{first_below, some_below}
use Rattle.octets.proofs.Search.{NoneBefore, stops, ends, some_ends, none_below}

module _ (n : ℕ) (test : ℕ → Bool) where
  -- the number that is found, or none, is the first below n for which the test holds
  abbrev pub IsFirst : Option ℕ → Type 0
  IsFirst r = (unwrap_or r n ≡ first_below n test) × IfSome r (λ i. i < n)

  pub first_found : (r : Option ℕ)
      → MatchOption r ((k : ℕ) → 0 ≤ k → k < n → test k ≡ false) (λ i. (0 ≤ i) × (i < n) × (test i ≡ true) × ((k : ℕ) → 0 ≤ k → k < i → test k ≡ false))
      → IsFirst r
  first_found (Some i) f = (sym (stops n test i (λ k h. f.3 k (omega arith) h) f.1 f.2), f.1)
  first_found None f = (sym (ends n test n (λ k h. f k (omega arith) h) refl), tt)

  -- whether there is one, where numbers are tried from a on
  module _ (a : ℕ) (below : NoneBefore test a) where
    abbrev numbers : List ℕ
    numbers = range_with_len a (n - a)

    long : length numbers ≡ n - a
    long = length-range_with_len a (n - a)

    at : (k : ℕ) → k < n - a → get_or numbers k 0 ≡ a + k
    at k h = get_or-range_with_len a (n - a) k 0 h

    pub any_below : (r : Bool)
        → MatchBool r ((k : ℕ) × (k < length numbers) × HoldsAt (λ i. test i ≡ true) numbers k) (AllWithin (λ i. test i ≡ false) numbers 0 (length numbers))
        → r ≡ some_below n test
    any_below true f = some (some_below n test) refl
      where
        within : f.0 < n - a
        within = omega (arith, f.1, long)

        some : (t : Bool) → some_below n test ≡ t → true ≡ t
        some true e = refl
        some false e = absurd (true≢false (sym (f.2 0) ∙ ap test (at f.0 within) ∙ none_below n test e (a + f.0) (omega (arith, within))))
    any_below false f = sym (some_ends n test n (λ k h. go k h (ltb k a) refl) refl)
      where
        go : (k : ℕ) → k < n → (t : Bool) → ltb k a ≡ t → test k ≡ false
        go k h true e = below k (ltb-true k a e)
        go k h false e =
            let l : a ≤ k = ltb-false k a e in
            let w : k - a < n - a = omega arith in
            let q : a + (k - a) ≡ k = omega arith in
            sym (ap test (at (k - a) w ∙ q)) ∙ f (k - a) 0 (omega arith) (omega (arith, long))

-- ---- a number that was found, or none, by the number m that stands for either: n where there is none

flipped : (b t : Bool) → t ≡ not b → b ≡ not t
flipped true t e = ap not (sym e)
flipped false t e = ap not (sym e)

-- whether none was found
pub none_found : (r : Option ℕ) (n m : ℕ) (b : Bool) → (unwrap_or r n ≡ m) × IfSome r (λ i. i < n) → is_some r ≡ not b → b ≡ eqb m n
none_found (Some i) n m b e t = flipped b true t ∙ sym (ne_eqb m n (λ q. omega (arith, e.0, e.1)))
none_found None n m b e t = flipped b false t ∙ sym (eq-eqb m n (sym e.0))

pub one_found : (r : Option ℕ) (n m : ℕ) → unwrap_or r n ≡ m → m < n → IsSome r
one_found (Some i) n m e h = refl
one_found None n m e h = absurd (omega arith)

pub found_at : (r : Option ℕ) (n m i : ℕ) → unwrap_or r n ≡ m → r ≡ Some i → i ≡ m
found_at r n m i e s = sym (ap (λ o. unwrap_or o n) s) ∙ e
