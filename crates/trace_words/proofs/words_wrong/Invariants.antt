-- `trace_words::words_wrong` meets its contract: the words that are left, behind a cut or not, are wrong where the trace's are. Assumes nothing.
use Rattle.std.proofs.Common.{◌≡◌, false}
use Rattle.std.specs.Slice.Iter.{chunks_exact_rest, chunks_exact_size}
use Rattle.trace_words.specs.Words.{words_of, words_wrong}
use Rattle.trace_words.proofs.words_wrong.Given as goal

abbrev pub invariant-loop-word : goal.invariant-loop-word
invariant-loop-word l =
    (chunks_exact_size l.word-iterator ≡ 4) × (words_wrong l.after_cut (words_of (chunks_exact_rest l.word-iterator)) ≡ words_wrong false (words_of l.trace))
