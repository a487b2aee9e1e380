-- `look::looking::open_part` meets its contract. Assumes nothing.
use Rattle.std.proofs.Common.{ap, ◌∙◌, arith}
use Rattle.octets.specs.Octets.{part}
use Rattle.protocol.specs.Types.{Stretch}
use Rattle.protocol.specs.Operations.{stretch_of}
use Rattle.look.proofs.LookLaws.{stretch_within}
use Rattle.look.proofs.looking.open_part.Goals as goal

pub part-requires : goal.part-requires
part-requires c =
    let a = c.args in
    let e = c.in-Ok.ensures.1 in
    omega (arith, stretch_within a.memories.now.pages a.memories.now.slots a.memories.now.ring.now a.memories.now.fram.now a.key.now, ap (λ (z : Stretch). z.offset) e, ap (λ (z : Stretch). z.length) e)

pub returns-in-Ok : goal.returns-in-Ok
unfolding stretch_of
returns-in-Ok c = c.part.ensures.0 ∙ ap (λ (z : Stretch). part c.args.memories.now.fram.now z.offset z.length) c.in-Ok.ensures.1

pub returns-in-Err : goal.returns-in-Err
unfolding stretch_of part
returns-in-Err c = ap (λ (z : Stretch). part c.args.memories.now.fram.now z.offset z.length) c.in-Err.ensures.1
