-- `aes_key::temp` meets its contract, in each of its three cases.
-- Assumes nothing.
use borrow.Author.Tests.{eq-eqb, ne_eqb, lt-ltb, le-ltb}
use lib.Bits.{xor_zero_r}
use Rattle.aes_key.specs.Key.{temp}
use Rattle.aes_key.proofs.Schedule.{turn}
use Rattle.aes_key.proofs.temp.Goals as goal

pub rcon-requires : goal.rcon-requires
rcon-requires c =
    turn c.args.nk c.args.i c.requires.1 c.requires.2 c.requires.3

pub returns-then-m-eq0 : goal.returns-then-m-eq0
unfolding temp
returns-then-m-eq0 c = simp (eq-eqb _ _ c.if-m-eq0.true, c.rcon.ensures, c.sub_word-v.ensures, xor_zero_r)

pub returns-then-m-eq4 : goal.returns-then-m-eq4
unfolding temp
returns-then-m-eq4 c = simp (ne_eqb _ _ c.if-m-eq0.false, lt-ltb _ _ c.if-nk-gt6.true, eq-eqb _ _ c.if-m-eq4.true) c.sub_word.ensures

pub returns-else-m-eq4 : goal.returns-else-m-eq4
unfolding temp
returns-else-m-eq4 c = simp (ne_eqb _ _ c.if-m-eq0.false, lt-ltb _ _ c.if-nk-gt6.true, ne_eqb _ _ c.if-m-eq4.false)

pub returns-else-nk-gt6 : goal.returns-else-nk-gt6
unfolding temp
returns-else-nk-gt6 c = simp (ne_eqb _ _ c.if-m-eq0.false, le-ltb _ _ c.if-nk-gt6.false)
