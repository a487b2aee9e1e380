-- n different numbers below n are all the numbers below n. Assumes nothing.
use Prim.Native.Nat.{ℕ, zero, suc, ◌<◌}
use mathlib.Core.Path.{◌≡◌, refl, sym, ◌∙◌}
use mathlib.Core.Bool.{Bool, true, false, cond}
use native.Mathlib.Omega.{arith}
use lib.Dec.{eqb, ltb}
use borrow.Author.Tests.{eqb-true, eqb-false, ltb-true}
use Rattle.octets.specs.Search.{first_below}
use Rattle.octets.proofs.Search.{found, none_below}

-- f 0 to f (n - 1) are numbers below m, and differ
pub record Different (n m : ℕ) (f : ℕ → ℕ) : Type 0 where
  pub below : (k : ℕ) → k < n → f k < m
  pub differ : (j k : ℕ) → j < n → k < n → f j ≡ f k → j ≡ k

-- v takes the place of n
abbrev instead : (n v : ℕ) → ℕ → ℕ
instead n v x = cond (eqb x n) v x

-- n + 1 numbers below n do not all differ. Of n + 2 below n + 1, the last takes the place of n, and n + 1 below n are left
too_many : (n : ℕ) (f : ℕ → ℕ) → Different (suc n) n f → ⊥
too_many zero f d = omega (arith, d.below 0 (omega arith))
too_many (suc n) f d = too_many n (λ k. instead n (f (suc n)) (f k)) (record { below = below; differ = differ })
  where
    -- those before the last are not the last
    other : (k : ℕ) → k < suc n → f k ≡ f (suc n) → ⊥
    other k h e = omega (arith, d.differ k (suc n) (omega arith) (omega arith) e)

    below : (k : ℕ) → k < suc n → instead n (f (suc n)) (f k) < n
    below k h = go (eqb (f k) n) refl
      where
        go : (t : Bool) → eqb (f k) n ≡ t → cond t (f (suc n)) (f k) < n
        go true e =
            let ne : f (suc n) ≡ n → ⊥ = λ q. other k h (eqb-true (f k) n e ∙ sym q) in
            omega (arith, ne, d.below (suc n) (omega arith))
        go false e = omega (arith, eqb-false (f k) n e, d.below k (omega arith))

    differ : (j k : ℕ) → j < suc n → k < suc n → instead n (f (suc n)) (f j) ≡ instead n (f (suc n)) (f k) → j ≡ k
    differ j k hj hk = go (eqb (f j) n) refl (eqb (f k) n) refl
      where
        go : (s : Bool) → eqb (f j) n ≡ s → (t : Bool) → eqb (f k) n ≡ t → cond s (f (suc n)) (f j) ≡ cond t (f (suc n)) (f k) → j ≡ k
        go true a true b e = d.differ j k (omega arith) (omega arith) (eqb-true (f j) n a ∙ sym (eqb-true (f k) n b))
        go true a false b e = absurd (other k hk (sym e))
        go false a true b e = absurd (other j hj e)
        go false a false b e = d.differ j k (omega arith) (omega arith) e

-- q is one of f 0 to f (n - 1)
pub record Stands (n : ℕ) (f : ℕ → ℕ) (q : ℕ) : Type 0 where
  pub place : ℕ
  pub there : place < n
  pub stands : f place ≡ q

-- each number below n is: were q none of them, it would be one more
pub each_stands : (n : ℕ) (f : ℕ → ℕ) → Different n n f → (q : ℕ) → q < n → Stands n f q
each_stands n f d q h = go (ltb m n) refl
  where
    m : ℕ
    m = first_below n (λ k. eqb (f k) q)

    with_q : ℕ → ℕ
    with_q k = cond (eqb k n) q (f k)

    go : (t : Bool) → ltb m n ≡ t → Stands n f q
    go true l = record { place = m; there = ltb-true m n l; stands = eqb-true (f m) q ((found n (λ k. eqb (f k) q)).holds (ltb-true m n l)) }
    go false l = absurd (too_many n with_q (record { below = below; differ = differ }))
      where
        none : (k : ℕ) → k < n → f k ≡ q → ⊥
        none k h e = eqb-false (f k) q (none_below n (λ k. eqb (f k) q) l k h) e

        below : (k : ℕ) → k < suc n → with_q k < n
        below k hk = at (eqb k n) refl
          where
            at : (t : Bool) → eqb k n ≡ t → cond t q (f k) < n
            at true e = h
            at false e = d.below k (omega (arith, eqb-false k n e))

        differ : (j k : ℕ) → j < suc n → k < suc n → with_q j ≡ with_q k → j ≡ k
        differ j k hj hk = at (eqb j n) refl (eqb k n) refl
          where
            at : (s : Bool) → eqb j n ≡ s → (t : Bool) → eqb k n ≡ t → cond s q (f j) ≡ cond t q (f k) → j ≡ k
            at true a true b e = eqb-true j n a ∙ sym (eqb-true k n b)
            at true a false b e = absurd (none k (omega (arith, eqb-false k n b)) (sym e))
            at false a true b e = absurd (none j (omega (arith, eqb-false j n a)) e)
            at false a false b e = d.differ j k (omega (arith, eqb-false j n a)) (omega (arith, eqb-false k n b)) e
