-- `vectors::until` meets its contract. Assumes nothing.
use Rattle.std.proofs.Common.{◌≡◌, ◌≤◌, ℕ, List, Option, Some, None, cond, ltb, leb, length, rules, arith, refl, ap, ◌∙◌}
use Rattle.std.specs.Option.{unwrap_or}
use Rattle.std.specs.List.{position, position_or_len}
use Rattle.std.proofs.lemmas.Iterator.{YieldsList-from_slice}
use Rattle.std.proofs.lemmas.Iterator.Search.{position_from_yields_List}
use Rattle.std.proofs.lemmas.List.Recursion.{is_position_or_len}
use Rattle.std.proofs.lemmas.List.Sums.{prefix_len-le-length}
use Rattle.std.proofs.lemmas.Grind.{common_steps}
use native.Mathlib.Numerals.{one-add}
use borrow.Author.Tests.{tests}
use Rattle.vectors.specs.Lines.{until}
use Rattle.vectors.proofs.until.Goals as goal

-- as `position` says it
until_is : (limit : ℕ) (s : List ℕ) → until limit s ≡ position_or_len (λ b. leb b limit) s
unfolding until
until_is limit s = is_position_or_len (until limit) (λ b. leb b limit) refl (λ x xs. simp one-add) s

at_most : (n m : ℕ) → n ≤ m → unwrap_or (cond (ltb n m) (Some n) None) m ≡ n
at_most n m h = grind (arith, common_steps)

pub returns : goal.returns
returns c =
    let s = c.args.s.now in
    let p : ℕ → _ = λ b. leb b c.args.limit in
    let e : c.position.result ≡ position p s = position_from_yields_List p _ _ c.position.result c.position.ensures.ran (YieldsList-from_slice s cc) (λ x b q k. search (rules, tests)) in
    let w : c.unwrap_or.result ≡ position_or_len p s = c.unwrap_or.ensures ∙ ap (λ (r : Option ℕ). unwrap_or r (length s)) e ∙ at_most _ _ (prefix_len-le-length _ s) in
    rw until_is (w, omega (arith, w, prefix_len-le-length))
