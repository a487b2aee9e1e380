-- The words of a recorded bench trace (document 02, A.4), and which traces are run.
use Rattle.std.specs.Prelude.{ℕ, zero, suc, ◌*◌, ◌/◌, ◌%◌, Bool, false, not, cond, ◌&&◌, ◌||◌, List, [], ◌∷◌, length, eqb, ltb}
use Rattle.octets.specs.Limits.{trace_limit}
use Rattle.octets.specs.Word.{word_at, top_kind}

-- kinds: 1 first save, 2 save, 3 power-up, 4 cut
abbrev pub is_cut : ℕ → Bool
is_cut w = eqb (top_kind w) 4

abbrev pub is_operation : ℕ → Bool
is_operation w = ltb 0 (top_kind w) && ltb (top_kind w) 4

-- n words, from word k on
unfoldable pub words_from : List ℕ → ℕ → ℕ → List ℕ
words_from trace k zero = []
words_from trace k (suc n) = word_at trace (4 * k) ∷ words_from trace (suc k) n

unfoldable pub words_of : List ℕ → List ℕ
words_of trace = words_from trace 0 (length trace / 4)

-- ---- stop 20

-- a cut follows a cut, or a word is neither a cut nor an operation
unfoldable pub word_wrong : (after_cut : Bool) → ℕ → Bool
word_wrong after_cut w = cond (is_cut w) after_cut (not (is_operation w))

-- one of the words is so, or the last is a cut
unfoldable pub words_wrong : (after_cut : Bool) → List ℕ → Bool
words_wrong after_cut [] = after_cut
words_wrong after_cut (w ∷ more) = word_wrong after_cut w || words_wrong (is_cut w) more

-- a word is broken, there are too many, or the words are wrong
unfoldable pub trace_wrong : List ℕ → Bool
trace_wrong trace = not (eqb (length trace % 4) 0) || ltb (4 * trace_limit) (length trace) || words_wrong false (words_of trace)
