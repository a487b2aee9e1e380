-- A checkpoint and its sealed layout (document 01, "A half of the FRAM", and document 02, A.2). Lengths are in bytes.
use Rattle.std.specs.Prelude.{ℕ, ◌+◌, ◌*◌, ◌/◌, ◌%◌, Bool, not, ◌||◌, List, [], ◌∷◌, ◌++◌, length, eqb, ltb}
use Rattle.octets.specs.Limits.{tag_length}
use Rattle.octets.specs.Word.{word}
use Rattle.gcm.specs.Gcm.{encrypted, tag}

-- the form of a head: document 01's, or document 02's, which begins with the packet number
pub data Form : Type 0 where
  Older : Form
  Longer : Form

-- `previous` is the previous checkpoint's tag; the nonce is the ring record's; in the older form the packet number is 0
pub record Checkpoint : Type 0 where
  pub form : Form
  pub packet : ℕ
  pub open_part : List ℕ
  pub secret : List ℕ
  pub restarts : ℕ
  pub previous : List ℕ
  pub nonce : List ℕ

-- one of the longer form, which the code seals
abbrev pub checkpoint_of : ℕ → (open_part secret : List ℕ) → ℕ → (previous nonce : List ℕ) → Checkpoint
checkpoint_of packet open_part secret restarts previous nonce = record {
  form = Longer;
  packet = packet;
  open_part = open_part;
  secret = secret;
  restarts = restarts;
  previous = previous;
  nonce = nonce;
}

-- ---- the head

-- the words before the open part's length, each with its kind and value
abbrev pub front_words : Form → ℕ → List (ℕ × ℕ)
front_words Older packet = []
front_words Longer packet = (0, packet) ∷ []

-- all words, given the packet number, both parts' lengths in words and the restarts
abbrev pub head_words : Form → ℕ → ℕ → ℕ → ℕ → List (ℕ × ℕ)
head_words form packet open_words secret_words restarts = front_words form packet ++ ((1, open_words) ∷ (2, secret_words) ∷ (3, restarts) ∷ [])

-- which word of that list, from 0, holds the open part's length, which the secret part's, and which the restarts
abbrev pub open_word : Form → ℕ
open_word form = length (front_words form 0)

abbrev pub secret_word : Form → ℕ
secret_word form = open_word form + 1

abbrev pub restarts_word : Form → ℕ
restarts_word form = open_word form + 2

unfoldable pub words : List (ℕ × ℕ) → List ℕ
words [] = []
words (w ∷ more) = word w.0 w.1 ++ words more

-- the bytes of the words; the previous checkpoint's tag follows
abbrev pub words_length : Form → ℕ
words_length form = 4 * length (head_words form 0 0 0 0)

abbrev pub head_length : Form → ℕ
head_length form = words_length form + tag_length

unfoldable pub head : Checkpoint → List ℕ
head c = words (head_words c.form c.packet (length c.open_part / 4) (length c.secret / 4) c.restarts) ++ c.previous

-- ---- the sealed checkpoint

unfoldable pub associated : Checkpoint → List ℕ
associated c = head c ++ c.open_part

-- the checkpoint's own tag: the standard's under the key
unfoldable pub own_tag : List ℕ → Checkpoint → List ℕ
own_tag key c = tag key c.nonce (associated c) (encrypted key c.nonce c.secret)

unfoldable pub sealed : List ℕ → Checkpoint → List ℕ
sealed key c = associated c ++ encrypted key c.nonce c.secret ++ own_tag key c

-- the length of a checkpoint with empty parts
abbrev pub empty_length : Form → ℕ
empty_length form = head_length form + tag_length

-- the length of one whose parts have the lengths m and n
abbrev pub sealed_length : Form → ℕ → ℕ → ℕ
sealed_length form m n = empty_length form + m + n

-- stop 4: a part is not a multiple of 4 bytes, or longer than a limit
unfoldable pub part_wrong : ℕ → List ℕ → Bool
part_wrong limit p = not (eqb (length p % 4) 0) || ltb limit (length p)
