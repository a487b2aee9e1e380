-- `aes::table::round_table` meets its contract: the loop fills the table.
-- Assumes nothing.
use mathlib.Core.Path.{◌≡◌, refl, ap, ◌∙◌}
use native.Mathlib.Omega.{arith}
use lib.ListN.{get_or}
use Rattle.octets.proofs.Tables.{get_or_table}
use Rattle.sbox.specs.Field.{sub_byte}
use Rattle.aes.specs.Word.{spread}
use Rattle.octets.proofs.Tables.{fill_none, fill_more}
use Rattle.aes.proofs.table.round_table.Goals as goal

pub loop-i-preserved : goal.loop-i-preserved
loop-i-preserved c =
    let test = c.loop-i-test.true in
    let looked : get_or c.sbox-sbox.result c.loop-i.i 0 ≡ sub_byte c.loop-i.i = rw c.sbox-sbox.ensures (get_or_table 256 sub_byte c.loop-i.i test) in
    fill_more _ c.loop-i.invariant test (c.entry.ensures ∙ ap spread looked)

pub returns : goal.returns
returns c = record { entry = λ x h. c.loop-i.invariant.done x (omega arith) }

pub loop-i-init : goal.loop-i-init
loop-i-init c = fill_none _ _ _ refl
