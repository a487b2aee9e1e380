-- `trace::run::run_words` meets its contract: the words that are left, from where the bench is, make the whole. Assumes nothing.
use Rattle.std.proofs.Common.{refl, ap, arith, ◌∙◌, length}
use Rattle.std.specs.Slice.Iter.{chunks_exact_rest}
use Rattle.trace_words.specs.Words.{words_of}
use Rattle.trace.specs.View.{view_unit}
use Rattle.trace.proofs.Laws.{first_word, no_words, how_many, nothing_done, one_more, all_done}
use Rattle.trace.proofs.run.run_words.Goals as goal

pub loop-word-init : goal.loop-word-init
loop-word-init c =
    let a = c.args in
    let begun = nothing_done a.key.now (words_of a.trace.now) a.text.now _ _ a.ring.now a.fram.now c.fill.ensures c.requires.1 c.fill-2.ensures c.requires.2 in
    rw (c.into_iter-word-iterator.ensures.into_iter_gives, c.chunks_exact-word-items.ensures.rest) (c.chunks_exact-word-items.ensures.size, refl, begun)

pub step-at-requires : goal.step-at-requires
step-at-requires c =
    let k = c.loop-word.invariant in
    let next = c.in-Some.ensures.steps in
    let words = ap length (first_word _ _ _ _ next.1.0 (next.1.1 ∙ k.0) refl) in
    omega (arith, k.2.room, words, how_many c.args.trace.now, k.1, c.requires.0, c.requires.3)

pub loop-word-preserved : goal.loop-word-preserved
loop-word-preserved c =
    let k = c.loop-word.invariant in
    let next = c.in-Some.ensures.steps in
    let words = first_word _ _ _ _ next.1.0 (next.1.1 ∙ k.0) c.word_at.ensures in
    (next.0 ∙ k.0, c.step-at.auto.text ∙ k.1, one_more _ _ _ _ _ _ _ _ _ _ _ (rw words at k.2) c.step-at.ensures)

pub returns : goal.returns
returns c =
    let k = c.loop-word.invariant in
    let none = no_words (chunks_exact_rest c.loop-word.word-iterator) (omega (arith, k.0, c.in-None.ensures.steps)) in
    all_done _ _ _ (view_unit c.loop-word.unit c.loop-word.ring c.loop-word.fram) _ _ (rw none at k.2) (omega (arith, k.2.room, how_many c.args.trace.now, c.requires.0, c.requires.3))
