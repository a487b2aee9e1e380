-- `bench_trace::run` meets its contract: the lines that the run left, or the line of its stop. Assumes nothing.
use Rattle.std.proofs.Common.{refl, ℕ, ap, ◌∙◌, arith, length, replicate}
use Rattle.std.proofs.lemmas.List.{take-replicate}
use Rattle.octets.specs.Octets.{put}
use Rattle.trace.proofs.Stepping.{taken}
use Rattle.trace.proofs.Outcomes.{prints}
use Rattle.bench_trace.proofs.run.Goals as goal

pub returns-in-Ok : goal.returns-in-Ok
returns-in-Ok c =
    let a = c.args in
    let e = rw (take-replicate {X = ℕ} a.zeros 32 0 c.requires.0) at c.in-Ok.ensures.0 in
    let p = (prints (replicate a.zeros 0) a.trace.now a.ring.now a.fram.now a.text.now c.requires.1 c.requires.2 c.requires.3 _ e).ran refl in
    (p.0, p.1, c.in-Ok.ensures.1)

pub returns-in-Err : goal.returns-in-Err
returns-in-Err c =
    let a = c.args in
    let e = rw (take-replicate {X = ℕ} a.zeros 32 0 c.requires.0) at c.in-Err.ensures.0 in
    let p = (prints (replicate a.zeros 0) a.trace.now a.ring.now a.fram.now a.text.now c.requires.1 c.requires.2 c.requires.3 _ e).refused _ refl in
    let t = taken c.refused_line-line.ensures in (
      c.copy.ensures ∙ (λ i. put (p.0 i) 0 ((c.as_bytes.ensures ∙ t.0 ∙ p.1) i)),
      t.1 ∙ ap length p.1,
      omega (arith, c.refused_line-line.ensures.short, c.requires.3),
    )
