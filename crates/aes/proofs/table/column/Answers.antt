-- `aes::table::column` meets its contract.
-- Assumes nothing.
use Rattle.aes.proofs.Columns.{column_is}
use Rattle.aes.proofs.table.column.Goals as goal

pub returns : goal.returns
returns c =
    column_is _ _ _ _
    c.look.result
    c.look-2.result
    c.look-3.result
    c.look-4.result
    c.rotate.result
    c.rotate-2.result
    c.rotate-3.result
    c.look.ensures
    c.look-2.ensures
    c.look-3.ensures
    c.look-4.ensures
    c.rotate.ensures
    c.rotate-2.ensures
    c.rotate-3.ensures
