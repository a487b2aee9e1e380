-- The first k places of the chain are stored, none of them past the last entry, and the next one is known.
use Rattle.std.proofs.Common.{◌≡◌, ℕ, ◌<◌, Option, List, IfSome, unwrap_or}
use Rattle.octets.proofs.Tables.{Filled}
use Rattle.octets.proofs.Search.{NoneBefore}
use Rattle.chain.specs.Chain.{count, place}
use Rattle.chain.proofs.Orders.{end_test}
use Rattle.chain.proofs.walk.Given as goal

pub record Walked (E : List ℕ) (k : ℕ) (next : Option ℕ) (places : List ℕ) : Type 0 where
  pub next_place : unwrap_or next (count E) ≡ place E k
  pub there : IfSome next (λ i. i < count E)
  pub stored : Filled (count E) (λ j v. v ≡ place E j) k places
  pub going : NoneBefore (end_test E) k

abbrev pub invariant-loop-place : goal.invariant-loop-place
invariant-loop-place l = Walked l.entries l.place-index l.next l.place-items
