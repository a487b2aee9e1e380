-- `chain::not_first` meets its contract. Assumes nothing.
use Rattle.std.proofs.Common.{◌≡◌, ℕ, ◌<◌, not, eqb, Option, Some, None, unwrap_or, ap, sym, ◌∙◌, arith}
use Rattle.std.specs.Option.{option_eq}
use borrow.Author.Tests.{ne_eqb}
use Rattle.octets.specs.Limits.{tag_length}
use Rattle.chain.specs.Chain.{count, entry_with}
use Rattle.chain.proofs.not_first.Goals as goal

is_not : (r : Option ℕ) (n m i : ℕ) → i < n → unwrap_or r n ≡ m → not (option_eq eqb r (Some i)) ≡ not (eqb m i)
is_not None n m i h e = sym (ap not (ne_eqb m i (λ q. omega arith)))
is_not (Some j) n m i h e = ap (λ k. not (eqb k i)) e

pub returns : goal.returns
returns c =
    let E = c.args.entries.now in
    c.ne.ensures ∙ is_not c.entry_with.result (count E) _ c.args.i c.requires (c.entry_with.ensures.0 ∙ ap (entry_with E tag_length) c.tag_at.ensures)
