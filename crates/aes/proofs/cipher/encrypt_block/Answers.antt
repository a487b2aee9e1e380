-- `aes::cipher::encrypt_block` meets its contract. The loop's invariant: the state is what the rounds before this one make of the first.
-- Assumes nothing.
use mathlib.Core.Path.{◌≡◌, refl}
use native.Mathlib.Omega.{arith}
use borrow.Author.Rules.{rules}
use Rattle.aes.specs.Cipher.{rounds, cipher}
use Rattle.aes.proofs.Steps.{rounds_more}
use Rattle.aes.proofs.cipher.encrypt_block.Goals as goal

pub loop-round-init : goal.loop-round-init
unfolding rounds
loop-round-init c = (search rules, search rules, refl)

pub loop-round-preserved : goal.loop-round-preserved
loop-round-preserved c =
    let inv = c.loop-round.invariant in
    (search rules, search rules, cc (rounds_more _ _ _ _ inv.0 inv.2))

pub returns : goal.returns
unfolding cipher
returns c =
    let e : c.loop-round.round ≡ c.args.schedule.now.rounds = omega arith in
    cc
