-- `checkpoint::half::open_part` meets its contract. Assumes nothing.
use Rattle.std.proofs.Common.{◌∙◌, arith}
use Rattle.octets.specs.Limits.{part_limit}
use Rattle.octets.specs.Octets.{part}
use Rattle.checkpoint.specs.Half.{form_of, stored_open}
use Rattle.checkpoint.proofs.StoredLaws.{head_facts}
use Rattle.checkpoint.proofs.half.open_part.Goals as goal

pub part-requires : goal.part-requires
part-requires c = omega (arith, (head_facts part_limit (form_of c.args.half.now) c.args.half.now c.requires.0).fits, c.requires.1, c.requires.2)

pub returns : goal.returns
unfolding stored_open
returns c =
    (c.part.ensures.0 ∙ (λ i. part c.args.half.now (c.requires.1 i) (c.requires.2 i)), c.part.ensures.1)
