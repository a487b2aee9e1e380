-- Laws of a search: the first number below n for which a test holds, and whether there is one. Assumes nothing.
use Prim.Native.Nat.{ℕ, zero, suc, ◌+◌, ◌≤◌, ◌<◌}
use mathlib.Core.Path.{◌≡◌, refl, sym, ap, ap₂, ◌∙◌}
use mathlib.Core.Bool.{Bool, true, false, cond, true≢false}
use native.Mathlib.Omega.{arith}
use native.Mathlib.Decide.{ℕ_discrete}
use lib.Dec.{ltb}
use borrow.Author.Tests.{ltb-true, ltb-false, lt-ltb, le-ltb}
use Rattle.octets.specs.Search.{first_below, some_below}

-- the test holds for no number before k
abbrev pub NoneBefore : (ℕ → Bool) → ℕ → Type 0
NoneBefore test k = (j : ℕ) → j < k → test j ≡ false

-- k is what the search finds
pub record Found (n : ℕ) (test : ℕ → Bool) (k : ℕ) : Type 0 where
  pub within : k ≤ n
  pub before : NoneBefore test k
  pub holds : k < n → test k ≡ true

not_zero : (n : ℕ) (test : ℕ → Bool) (k : ℕ) → test 0 ≡ false → Found n (λ i. test (suc i)) k → Found (suc n) test (suc k)
not_zero n test k e f = record { within = omega (arith, f.within); before = before; holds = λ h. f.holds (omega arith) }
  where
    before : (j : ℕ) → j < suc k → test j ≡ false
    before zero h = e
    before (suc j) h = f.before j (omega arith)

pub found : (n : ℕ) (test : ℕ → Bool) → Found n test (first_below n test)
unfolding first_below
found zero test = record { within = omega arith; before = λ j h. absurd (omega arith); holds = λ h. absurd (omega arith) }
found (suc n) test = go (test 0) refl (found n (λ i. test (suc i)))
  where
    go : (t : Bool) → test 0 ≡ t → Found n (λ i. test (suc i)) (first_below n (λ i. test (suc i)))
        → Found (suc n) test (cond t 0 (suc (first_below n (λ i. test (suc i)))))
    go true e f = record { within = omega arith; before = λ j h. absurd (omega arith); holds = λ h. e }
    go false e f = not_zero n test _ e f

-- it finds nothing else
is_found : (n : ℕ) (test : ℕ → Bool) (k : ℕ) → Found n test k → first_below n test ≡ k
is_found n test k a =
    let m : ℕ = first_below n test in
    let b = found n test in
    let not_less : m < k → ⊥ = λ h. true≢false (sym (b.holds (omega (arith, a.within))) ∙ a.before m h) in
    let not_more : k < m → ⊥ = λ h. true≢false (sym (a.holds (omega (arith, b.within))) ∙ b.before k h) in
    omega (arith, not_less, not_more)

-- two tests that agree find the same
pub same_search : (n : ℕ) (s t : ℕ → Bool) → ((i : ℕ) → i < n → s i ≡ t i) → first_below n s ≡ first_below n t
unfolding first_below
same_search zero s t h = refl
same_search (suc n) s t h = ap₂ (λ (b : Bool) (m : ℕ). cond b 0 (suc m)) (h 0 (omega arith)) (same_search n (λ i. s (suc i)) (λ i. t (suc i)) (λ i l. h (suc i) (omega arith)))

-- ---- a loop that tries one number after the other

pub none_yet : (test : ℕ → Bool) → NoneBefore test 0
none_yet test j h = absurd (omega arith)

pub none_more : (test : ℕ → Bool) (k : ℕ) → NoneBefore test k → test k ≡ false → NoneBefore test (k + 1)
none_more test k a e j h = go (ℕ_discrete j k)
  where
    go : Dec (j ≡ k) → test j ≡ false
    go (yes p) = ap test p ∙ e
    go (no p) = a j (omega arith)

module _ (n : ℕ) (test : ℕ → Bool) (k : ℕ) (none_before : NoneBefore test k) where
  pub stops : k < n → test k ≡ true → first_below n test ≡ k
  stops h e = is_found n test k (record { within = omega arith; before = none_before; holds = λ _. e })

  pub ends : k ≡ n → first_below n test ≡ n
  ends e = is_found n test k (record { within = omega arith; before = none_before; holds = λ h. absurd (omega arith) }) ∙ e

  pub some_stops : k < n → test k ≡ true → some_below n test ≡ true
  some_stops h e = lt-ltb _ n (omega (arith, stops h e))

  pub some_ends : k ≡ n → some_below n test ≡ false
  some_ends e = le-ltb _ n (omega (arith, ends e))

-- ---- what a search tells

-- no number below n passes
pub none_below : (n : ℕ) (test : ℕ → Bool) → some_below n test ≡ false → NoneBefore test n
none_below n test e j h = (found n test).before j (omega (arith, ltb-false (first_below n test) n e))

-- just one number passes
pub only_one : (n : ℕ) (test : ℕ → Bool) (k : ℕ) → k < n → test k ≡ true → ((j : ℕ) → j < n → test j ≡ true → j ≡ k) → first_below n test ≡ k
only_one n test k h e u = go (ltb m n) refl
  where
    m : ℕ
    m = first_below n test

    go : (t : Bool) → ltb m n ≡ t → m ≡ k
    go true l = u m (ltb-true m n l) ((found n test).holds (ltb-true m n l))
    go false l = absurd (true≢false (sym e ∙ none_below n test l k h))
