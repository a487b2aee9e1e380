-- `chain::begins` meets its contract. Assumes nothing.
use Rattle.std.proofs.Common.{ap, ◌∙◌}
use Rattle.octets.specs.Limits.{tag_length}
use Rattle.octets.proofs.Tried.{none_found}
use Rattle.chain.specs.Chain.{count, entry_with}
use Rattle.chain.proofs.begins.Goals as goal

pub returns : goal.returns
returns c =
    let E = c.args.entries.now in
    none_found _ (count E) _ _ (c.entry_with.ensures.0 ∙ ap (entry_with E tag_length) c.tag_at.ensures, c.entry_with.ensures.1) c.is_none.ensures
