-- `constant_time::variable_time::variable_time_same` meets its contract: the bytes passed agree. Assumes nothing.
use mathlib.Core.Path.{sym, ap}
use mathlib.Core.List.{List}
use Prim.Native.Nat.{ℕ}
use native.Mathlib.Omega.{arith}
use borrow.Author.Count.{below_none, below_more}
use borrow.Author.Rules.{rules}
use lib.ListN.{length, get_or}
use lib.Seq.{ext_get_or}
use Rattle.octets.proofs.Laws.{equal_same, unequal_same}
use Rattle.constant_time.proofs.variable_time.variable_time_same.Goals as goal

pub returns-then-a-b : goal.returns-then-a-b
returns-then-a-b c = sym (unequal_same _ _ (λ e. c.if-a-b.true (ap length e)))

pub loop-i-init : goal.loop-i-init
loop-i-init c = (search rules, c.if-a-b.false, below_none _)

pub returns-then-a-i : goal.returns-then-a-i
returns-then-a-i c = sym (unequal_same _ _ (λ e. c.if-a-i.true (ap (λ (s : List ℕ). get_or s c.loop-i.i 0) e)))

pub loop-i-preserved : goal.loop-i-preserved
loop-i-preserved c =
    let inv = c.loop-i.invariant in
    (search rules, inv.1, below_more _ _ inv.2 c.if-a-i.false)

pub returns : goal.returns
returns c =
    let l = c.loop-i in
    sym (equal_same _ _ (ext_get_or 0 _ _ l.invariant.1 (λ k h. l.invariant.2 k (omega arith))))
