-- Reading a half of the FRAM (document 01, "A half of the FRAM", and stops 11 and 12 of its table; document 02, A.2).
use Rattle.std.specs.Prelude.{ℕ, suc, ◌+◌, ◌*◌, ◌≡◌, Bool, true, cond, ◌&&◌, List, [], ◌∷◌, length, eqb, leb}
use Rattle.octets.specs.Limits.{restart_limit, tag_length}
use Rattle.octets.specs.Octets.{part, same}
use Rattle.octets.specs.Word.{word_at, kind_of, value_of}
use Rattle.gcm.specs.Gcm.{encrypted, tag}
use Rattle.checkpoint.specs.Checkpoint.{Form, Older, Longer, Checkpoint, head_words, open_word, secret_word, restarts_word, words_length, head_length, sealed_length}

-- the kind and the value of the head's i-th word
unfoldable pub kind_at : List ℕ → ℕ → ℕ
kind_at half i = kind_of (word_at half (4 * i))

unfoldable pub value_at : List ℕ → ℕ → ℕ
value_at half i = value_of (word_at half (4 * i))

-- the form of a half's head: a first word of kind 1 means the older one
unfoldable pub form_of : List ℕ → Form
form_of half = cond (eqb (kind_at half 0) 1) Older Longer

-- how firmware that writes heads of a form reads a half: that of the older form takes every half for its own, that of the longer one goes by the first word
abbrev pub read_as : Form → List ℕ → Form
read_as Older half = Older
read_as Longer half = form_of half

-- firmware that writes heads of the first form reads those of the second: its own, and the older ones
abbrev pub Reads : Form → Form → Type 0
Reads Older form = form ≡ Older
Reads Longer form = Unit {0}

-- ---- what a head of a form says

unfoldable pub stored_packet : Form → List ℕ → ℕ
stored_packet Older half = 0
stored_packet Longer half = value_at half 0

unfoldable pub open_length : Form → List ℕ → ℕ
open_length form half = 4 * value_at half (open_word form)

unfoldable pub secret_length : Form → List ℕ → ℕ
secret_length form half = 4 * value_at half (secret_word form)

unfoldable pub stored_restarts : Form → List ℕ → ℕ
stored_restarts form half = value_at half (restarts_word form)

-- the words of a half from the i-th on have the kinds of the list
unfoldable pub kinds_from : List ℕ → ℕ → List (ℕ × ℕ) → Bool
kinds_from half i [] = true
kinds_from half i (w ∷ more) = eqb (kind_at half i) w.0 && kinds_from half (suc i) more

-- the length of the whole checkpoint
unfoldable pub stored_length : Form → List ℕ → ℕ
stored_length form half = sealed_length form (open_length form half) (secret_length form half)

-- not stop 11: the head's words have their kinds and are in range, the parts' lengths being up to a limit, and the checkpoint fits the half
unfoldable pub good_head : ℕ → Form → List ℕ → Bool
good_head limit form half =
    kinds_from half 0 (head_words form 0 0 0 0) && leb (open_length form half) limit && leb (secret_length form half) limit &&
    leb (stored_restarts form half) restart_limit && leb (stored_length form half) (length half)

-- ---- its parts

unfoldable pub stored_associated : Form → List ℕ → List ℕ
stored_associated form half = part half 0 (head_length form + open_length form half)

unfoldable pub stored_previous : Form → List ℕ → List ℕ
stored_previous form half = part half (words_length form) tag_length

unfoldable pub stored_open : Form → List ℕ → List ℕ
stored_open form half = part half (head_length form) (open_length form half)

-- the sealed secret part
unfoldable pub stored_cipher : Form → List ℕ → List ℕ
stored_cipher form half = part half (head_length form + open_length form half) (secret_length form half)

unfoldable pub stored_tag : Form → List ℕ → List ℕ
stored_tag form half = part half (head_length form + open_length form half + secret_length form half) tag_length

-- not stop 12: the tag is the standard's
unfoldable pub good_tag : Form → List ℕ → List ℕ → List ℕ → Bool
good_tag form key nonce half = same (stored_tag form half) (tag key nonce (stored_associated form half) (stored_cipher form half))

-- what a half with a good head and tag holds
unfoldable pub stored : Form → List ℕ → List ℕ → List ℕ → Checkpoint
stored form key nonce half = record {
  form = form;
  packet = stored_packet form half;
  open_part = stored_open form half;
  secret = encrypted key nonce (stored_cipher form half);
  restarts = stored_restarts form half;
  previous = stored_previous form half;
  nonce = nonce;
}
