-- Why an operation stops (document 01, "Stops, by the place of checking"): the number of the first condition of a list that holds.
use Rattle.std.specs.Prelude.{ℕ, Bool, cond, List, [], ◌∷◌}
use Rattle.std.proofs.Math.Option.{Option, none, some}

-- the number of the first condition that holds. An operation's list has a line for each row of the papers that names it, in their order.
unfoldable pub first_of : List (ℕ × Bool) → Option ℕ
first_of [] = none
first_of (c ∷ more) = cond c.1 (some c.0) (first_of more)

-- the same one condition at a time: a stop stays, and where there is none the next condition is tried
abbrev pub then_stop : Option ℕ → ℕ → Bool → Option ℕ
then_stop (some s) n wrong = some s
then_stop none n wrong = cond wrong (some n) none
