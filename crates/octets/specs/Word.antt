-- Words of 32 bits, most significant byte first.
use Rattle.std.specs.Prelude.{ℕ, ◌+◌, ◌*◌, ◌/◌, ◌%◌, ◌^◌, List}
use Rattle.octets.specs.Octets.{number, bytes}

-- the word that stands at offset i
unfoldable pub word_at : List ℕ → ℕ → ℕ
word_at xs i = number xs i 4

-- ---- a checkpoint's (document 01, second paragraph): the top two bits are the kind, the low 30 the value

unfoldable pub kind_of : ℕ → ℕ
kind_of w = w / 2 ^ 30

unfoldable pub value_of : ℕ → ℕ
value_of w = w % 2 ^ 30

-- the bytes of the word of a kind, 0 to 3, and a value
unfoldable pub word : ℕ → ℕ → List ℕ
word kind value = bytes 4 (kind * 2 ^ 30 + value)

-- ---- a bench trace's and a setting's (document 02, A.4 and A.12): the top four bits are the kind, the low 28 the value

abbrev pub top_kind : ℕ → ℕ
top_kind w = w / 2 ^ 28

abbrev pub low_value : ℕ → ℕ
low_value w = w % 2 ^ 28

-- the bytes of the word of such a kind, 0 to 15, and value
unfoldable pub top_word : ℕ → ℕ → List ℕ
top_word kind value = bytes 4 (kind * 2 ^ 28 + value)
