-- What the code's answers mean: the number of each kind of word (document 02, A.4).
use Rattle.std.specs.Prelude.{ℕ}
use Rattle.trace_words.specs.declared.Kind.{Kind}
use Rattle.trace_words.specs.declared.Kind.TheVariants.{FirstSave, Save, PowerUp, Cut}

abbrev pub kind_number : Kind → ℕ
kind_number FirstSave = 1
kind_number Save = 2
kind_number PowerUp = 3
kind_number Cut = 4
