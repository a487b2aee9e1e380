-- `aes::cipher::sub_bytes` meets its contract: the loop fills the new state.
-- Assumes nothing.
use mathlib.Core.Path.{refl, sym, ◌∙◌}
use Rattle.octets.proofs.Tables.{fill_none, fill_more, fill_all}
use Rattle.aes.proofs.Steps.{sub_bytes_is}
use Rattle.aes.proofs.cipher.sub_bytes.Goals as goal

pub loop-i-preserved : goal.loop-i-preserved
loop-i-preserved c = fill_more _ c.loop-i.invariant c.loop-i-test.true c.sub_byte.ensures

pub returns : goal.returns
returns c = fill_all c.loop-i.invariant c.loop-i-test.false ∙ sym (sub_bytes_is _)

pub loop-i-init : goal.loop-i-init
loop-i-init c = fill_none _ _ _ refl
