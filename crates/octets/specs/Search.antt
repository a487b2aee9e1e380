-- A search: numbers tried one after the other.
use Rattle.std.specs.Prelude.{ℕ, zero, suc, Bool, cond, ltb}

-- the first number below n for which a test holds; n if there is none
unfoldable pub first_below : ℕ → (ℕ → Bool) → ℕ
first_below zero test = 0
first_below (suc n) test = cond (test 0) 0 (suc (first_below n (λ i. test (suc i))))

-- whether there is one
abbrev pub some_below : ℕ → (ℕ → Bool) → Bool
some_below n test = ltb (first_below n test) n
