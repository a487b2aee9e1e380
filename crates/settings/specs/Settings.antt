-- Settings in the open part (document 02, A.12). A list L is the whole part: words, most significant byte first, each with its kind in the top
-- four bits and its value in the other 28. A word is known by its place, counted from 0. The first gives the list's version.
use Rattle.std.specs.Prelude.{ℕ, ◌-◌, ◌*◌, ◌/◌, ◌%◌, Bool, false, cond, not, ◌&&◌, ◌||◌, List, [], ◌∷◌, length, eqb, leb, ltb, Result, Ok, Err}
use Rattle.std.proofs.Math.Option.{Option, none, some}
use Rattle.octets.specs.Limits.{volume_limit, delay_least, delay_limit, setting_limit}
use Rattle.octets.specs.Octets.{put}
use Rattle.octets.specs.Search.{first_below, some_below}
use Rattle.octets.specs.Word.{word_at, top_kind, low_value, top_word}
use Rattle.stops.specs.Stops.{first_of}
use Rattle.stops.specs.View.{stop_number, check_number}
use Rattle.stops.specs.declared.Stop.{Stop}
use Rattle.settings.specs.declared.Settings.{Settings}

-- ---- the words

-- how many there are
abbrev pub count : List ℕ → ℕ
count L = length L / 4

abbrev pub kind_at : (L : List ℕ) → ℕ → ℕ
kind_at L i = top_kind (word_at L (4 * i))

abbrev pub value_at : (L : List ℕ) → ℕ → ℕ
value_at L i = low_value (word_at L (4 * i))

-- the place of the first word of a kind; `count L` if there is none
unfoldable pub place : (L : List ℕ) (kind : ℕ) → ℕ
place L k = first_below (count L) (λ i. eqb (kind_at L i) k)

abbrev pub missing : (L : List ℕ) (kind : ℕ) → Bool
missing L k = eqb (place L k) (count L)

-- the value of that word
abbrev pub setting : (L : List ℕ) (kind : ℕ) → ℕ
setting L k = value_at L (place L k)

abbrev pub version : List ℕ → ℕ
version L = value_at L 0

abbrev pub volume : List ℕ → ℕ
volume L = setting L 1

-- in seconds
abbrev pub delay : List ℕ → ℕ
delay L = setting L 2

-- ---- the stops

-- 23: the list is not whole words, or the first word is absent, or has another kind than 15 or another value than 1 and 2
unfoldable pub list_wrong : List ℕ → Bool
list_wrong L = not (eqb (length L % 4) 0) || eqb (count L) 0 || not (eqb (kind_at L 0) 15) || not (eqb (version L) 1 || eqb (version L) 2)

-- version 1 has kinds 1 and 2, and version 2 may add kinds up to 14
abbrev pub last_kind : (version : ℕ) → ℕ
last_kind v = cond (eqb v 1) 2 14

-- word i is behind the first, and its kind is not the version's, or not above the kind of the setting before it
unfoldable pub kind_wrong : (L : List ℕ) → ℕ → Bool
kind_wrong L i = ltb 0 i && (eqb (kind_at L i) 0 || ltb (last_kind (version L)) (kind_at L i) || (ltb 1 i && leb (kind_at L i) (kind_at L (i - 1))))

-- 24: kind 1 or kind 2 is missing, or a kind is not the version's or does not rise
unfoldable pub kinds_wrong : List ℕ → Bool
kinds_wrong L = missing L 1 || missing L 2 || some_below (count L) (kind_wrong L)

-- a value that a kind does not take: volume 0 to 15, delay 5 to 300 seconds, and every other kind any value of 28 bits
unfoldable pub value_wrong : (kind value : ℕ) → Bool
value_wrong k v = cond (eqb k 1) (ltb volume_limit v) (cond (eqb k 2) (ltb v delay_least || ltb delay_limit v) (ltb setting_limit v))

-- 25: volume or delay is out of range
unfoldable pub values_wrong : List ℕ → Bool
values_wrong L = value_wrong 1 (volume L) || value_wrong 2 (delay L)

-- the stops of both; the writer's kind and value may be refused besides
unfoldable pub list_stop : List ℕ → (kind_refused value_refused : Bool) → Option ℕ
list_stop L kind_refused value_refused = first_of (
    (23, list_wrong L) ∷
    (24, kinds_wrong L || kind_refused) ∷
    (25, values_wrong L || value_refused) ∷ [])

-- ---- the reader

-- volume and delay, or the number of a stop
pub data Reading : Type 0 where
  Volume_delay : ℕ → ℕ → Reading
  Stopped : ℕ → Reading

unfoldable pub read_stop : List ℕ → Option ℕ
read_stop L = list_stop L false false

unfoldable pub read_by : Option ℕ → List ℕ → Reading
read_by (some s) L = Stopped s
read_by none L = Volume_delay (volume L) (delay L)

unfoldable pub settings_read : List ℕ → Reading
settings_read L = read_by (read_stop L) L

-- the code's answer
abbrev pub reading : Result Settings Stop → Reading
reading (Ok s) = Volume_delay s.volume s.delay
reading (Err s) = Stopped (stop_number s)

-- ---- the writer

-- kind 15 is the version's, and is not written
unfoldable pub write_stop : List ℕ → (kind value : ℕ) → Option ℕ
write_stop L k v = list_stop L (eqb k 15 || missing L k) (value_wrong k v)

-- what it answers, and what the lent list holds afterwards
pub record Written : Type 0 where
  pub stop : Option ℕ
  pub list : List ℕ

-- the list with a word put over the one of its kind
unfoldable pub changed : List ℕ → (kind value : ℕ) → List ℕ
changed L k v = put L (4 * place L k) (top_word k v)

-- on a stop the list is as it was
unfoldable pub written_by : Option ℕ → List ℕ → (kind value : ℕ) → Written
written_by (some s) L k v = record { stop = some s; list = L }
written_by none L k v = record { stop = none; list = changed L k v }

unfoldable pub settings_write : List ℕ → (kind value : ℕ) → Written
settings_write L k v = written_by (write_stop L k v) L k v

-- the code's answer, with what it left in the list
abbrev pub written_as : Result Unit Stop → List ℕ → Written
written_as r L = record { stop = check_number r; list = L }
