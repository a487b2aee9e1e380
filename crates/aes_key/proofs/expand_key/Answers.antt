-- `aes_key::expand_key` meets its contract. The loop's invariant: the words before w[i] are the schedule's, and the rest is 0.
-- Assumes nothing.
use mathlib.Core.Path.{◌≡◌, refl, ap, ◌∙◌}
use Prim.Native.Nat.{◌+◌, ◌*◌, ◌/◌}
use native.Mathlib.Omega.{arith}
use borrow.Author.Rules.{rules}
use lib.ListN.{length}
use lib.Seq.{length-sets}
use Rattle.aes_key.specs.Key.{expanded, padded, key_expansion, round_keys}
use Rattle.aes_key.proofs.Schedule.{expanded_none, expanded_more}
use Rattle.aes_key.proofs.expand_key.Goals as goal

pub loop-i-init : goal.loop-i-init
loop-i-init c = let key = c.args.key.now in (search rules, search rules, refl, expanded_none (length key / 4) key)

pub loop-i-preserved : goal.loop-i-preserved
loop-i-preserved c =
    let key = c.args.key.now in
    (search rules, search rules, ap length c.put_word.ensures ∙ length-sets c.loop-i.w (4 * c.loop-i.i) c.next_word-u.result ∙ c.loop-i.invariant.2, cc (expanded_more (length key / 4) key c.loop-i.i (omega arith) (omega arith)))

pub returns : goal.returns
unfolding round_keys key_expansion
returns c =
    let key = c.args.key.now in
    let all : c.loop-i.i ≡ 4 * (length key / 4 + 6 + 1) = omega arith in
    c.loop-i.invariant.3 ∙ ap (λ n. padded (expanded (length key / 4) key n)) all
