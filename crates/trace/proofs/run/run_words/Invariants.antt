-- `trace::run::run_words` meets its contract: the words that are left, from where the bench is, make the whole. Assumes nothing.
use Rattle.std.proofs.Common.{◌≡◌, length}
use Rattle.std.specs.Slice.Iter.{chunks_exact_rest, chunks_exact_size}
use Rattle.trace_words.specs.Words.{words_of}
use Rattle.trace.specs.View.{view_unit}
use Rattle.trace.proofs.Laws.{Sofar}
use Rattle.trace.proofs.run.run_words.Given as goal

abbrev pub invariant-loop-word : goal.invariant-loop-word
invariant-loop-word l =
    (chunks_exact_size l.word-iterator ≡ 4) × (length l.text ≡ length l.initial.text)
    × Sofar l.key (words_of l.trace) (words_of (chunks_exact_rest l.word-iterator)) l.initial.text (view_unit l.unit l.ring l.fram) l.text l.at
