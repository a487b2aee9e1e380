-- `checkpoint_values::reads` meets its contract. Assumes nothing.
use Rattle.std.proofs.Common.{arith}
use Rattle.octets.specs.Limits.{part_limit}
use Rattle.checkpoint.specs.Half.{form_of}
use Rattle.checkpoint.proofs.StoredLaws.{head_facts}
use Rattle.checkpoint_values.proofs.reads.Goals as goal

pub opened-requires : goal.opened-requires
opened-requires c =
    let h = c.in-Ok.head in
    let facts = head_facts part_limit (form_of h.half.now) h.half.now h.says.good in
    (omega (arith, h.says.open_is, facts.open_small), omega (arith, h.says.secret_is, facts.secret_small))
