-- `trace_words::words_wrong` meets its contract: the words that are left, behind a cut or not, are wrong where the trace's are. Assumes nothing.
use Rattle.std.proofs.Common.{arith, ◌∙◌}
use Rattle.trace_words.proofs.Laws.{word_found_wrong, word_found_right, words_end}
use Rattle.trace_words.proofs.words_wrong.Goals as goal

pub returns-then-word_wrong : goal.returns-then-word_wrong
returns-then-word_wrong c =
    let k = c.loop-word.invariant in
    let next = c.in-Some.ensures.steps in
    let f = rw c.word_at-w.ensures at c.word_wrong.ensures in
    word_found_wrong _ _ _ _ _ next.1.0 (next.1.1 ∙ k.0) f c.if-word_wrong.true ∙ k.1

pub loop-word-preserved : goal.loop-word-preserved
loop-word-preserved c =
    let k = c.loop-word.invariant in
    let next = c.in-Some.ensures.steps in
    let f = rw c.word_at-w.ensures at c.word_wrong.ensures in
    (next.0 ∙ k.0, word_found_right _ _ _ _ _ next.1.0 (next.1.1 ∙ k.0) f _ c.if-word_wrong.false (rw c.word_at-w.ensures at c.is_cut-after_cut.ensures) ∙ k.1)

pub returns : goal.returns
returns c =
    words_end _ _ (omega (arith, c.in-None.ensures.steps)) ∙ c.loop-word.invariant.1
