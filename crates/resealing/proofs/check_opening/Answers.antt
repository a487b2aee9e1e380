-- `resealing::check_opening` meets its contract. Assumes nothing.
use Rattle.resealing.proofs.Laws.{opening_tried}
use Rattle.resealing.proofs.check_opening.Goals as goal

pub returns : goal.returns
returns c =
    let h = c.args.head.now in
    opening_tried h.half.now c.args.good c.args.used _ _ _ _ _ _ h.says.restarts_is c.outgrows-outgrown.ensures
    c.stop_if.ensures c.stop_if-2.ensures c.stop_if-3.ensures c.stop_if-4.ensures
