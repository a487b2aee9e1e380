-- What holds of settings (document 02, A.12), said of a list's words and not of how a setting is found: the theorems `read_exactly`, `older_reads`,
-- `write_exactly` and `write_keeps` of proofs/Theorems.antt, of every list, kind and value.
use Rattle.std.specs.Prelude.{ℕ, zero, suc, ◌-◌, ◌*◌, ◌%◌, ◌^◌, ◌≤◌, ◌<◌, ◌≡◌, cond, not, ◌||◌, ◌⊎◌, List, eqb, length}
use Rattle.std.proofs.Math.Option.{Option, none, some}
use Rattle.octets.specs.Word.{word_at}
use Rattle.settings.specs.Settings.{count, kind_at, value_at, version, value_wrong, Reading, Volume_delay, Stopped, settings_read, settings_write}

-- ---- what a list has to be

-- for 23: whole words, of which the first has kind 15 and value 1 or 2, the version
pub record FirstRight (L : List ℕ) : Type 0 where
  pub whole : length L ≡ 4 * count L
  pub there : 1 ≤ count L
  pub kind : kind_at L 0 ≡ 15
  pub versions : (version L ≡ 1) ⊎ (version L ≡ 2)

-- word i is behind the first
pub record IsSetting (L : List ℕ) (i : ℕ) : Type 0 where
  pub behind_first : 1 ≤ i
  pub within : i < count L

-- a setting of a kind; no other word has that kind
pub record Once (L : List ℕ) (kind : ℕ) : Type 0 where
  pub at : ℕ
  pub is_setting : IsSetting L at
  pub has_kind : kind_at L at ≡ kind
  pub alone : (i : ℕ) → i < count L → kind_at L i ≡ kind → i ≡ at

-- for 24
pub record KindsRight (L : List ℕ) : Type 0 where
  -- kinds 1 and 2, each exactly once
  pub volume : Once L 1
  pub delay : Once L 2
  -- version 1 has no others; version 2 may add kinds 3 to 14, each at most once
  pub version_1 : version L ≡ 1 → (i : ℕ) → IsSetting L i → (kind_at L i ≡ 1) ⊎ (kind_at L i ≡ 2)
  pub version_2 : version L ≡ 2 → (i : ℕ) → IsSetting L i → (1 ≤ kind_at L i) × (kind_at L i ≤ 14)
  pub at_most_once : (i j : ℕ) → IsSetting L i → IsSetting L j → kind_at L i ≡ kind_at L j → i ≡ j
  -- kinds rise
  pub rise : (i : ℕ) → IsSetting L i → IsSetting L (suc i) → kind_at L i < kind_at L (suc i)

-- for 25, a value of a kind: volume 0 to 15, delay 5 to 300 seconds, and all of 28 bits
pub record InRange (kind value : ℕ) : Type 0 where
  pub volume : kind ≡ 1 → value ≤ 15
  pub delay : kind ≡ 2 → (5 ≤ value) × (value ≤ 300)
  pub bits : value < 2 ^ 28

-- the volume and the delay of a list
abbrev pub its_volume : (L : List ℕ) → KindsRight L → ℕ
its_volume L k = value_at L k.volume.at

abbrev pub its_delay : (L : List ℕ) → KindsRight L → ℕ
its_delay L k = value_at L k.delay.at

abbrev pub ValuesRight : (L : List ℕ) → KindsRight L → Type 0
ValuesRight L k = InRange 1 (its_volume L k) × InRange 2 (its_delay L k)

-- ---- what the reader answers

pub record ReadExactly (L : List ℕ) : Type 0 where
  pub stop_23 : (FirstRight L → ⊥) → settings_read L ≡ Stopped 23
  pub stop_24 : FirstRight L → (KindsRight L → ⊥) → settings_read L ≡ Stopped 24
  pub stop_25 : FirstRight L → (k : KindsRight L) → (ValuesRight L k → ⊥) → settings_read L ≡ Stopped 25
  pub read : FirstRight L → (k : KindsRight L) → ValuesRight L k → settings_read L ≡ Volume_delay (its_volume L k) (its_delay L k)

-- ---- a reader that knows version 1 alone

-- what it has met with
pub record Known : Type 0 where
  pub volume : Option ℕ
  pub delay : Option ℕ

-- of a word it keeps the value if it knows the kind, and passes over it if not
unfoldable pub meeting : (kind value : ℕ) → Known → Known
meeting k v s =
    cond (eqb k 1) (record { volume = some v; delay = s.delay })
    (cond (eqb k 2) (record { volume = s.volume; delay = some v }) s)

-- n words, from word i on
unfoldable pub through : (L : List ℕ) (n i : ℕ) → Known → Known
through L zero i s = s
through L (suc n) i s = through L n (suc i) (meeting (kind_at L i) (value_at L i) s)

-- what it answers, from what it has met with
unfoldable pub older_by : (volume delay : Option ℕ) → Reading
older_by none d = Stopped 24
older_by (some v) none = Stopped 24
older_by (some v) (some d) = cond (value_wrong 1 v || value_wrong 2 d) (Stopped 25) (Volume_delay v d)

-- it wants whole words, of which the first has kind 15, whatever version that says
unfoldable pub older_read : List ℕ → Reading
older_read L =
    let met = through L (count L - 1) 1 (record { volume = none; delay = none }) in
    cond (not (eqb (length L % 4) 0) || eqb (count L) 0 || not (eqb (kind_at L 0) 15)) (Stopped 23) (older_by met.volume met.delay)

-- from a list of either version it gets volume and delay; and so does one that takes the second word for the volume and the third for the delay
pub record OlderReads (L : List ℕ) (k : KindsRight L) : Type 0 where
  pub by_kind : older_read L ≡ Volume_delay (its_volume L k) (its_delay L k)
  pub by_place : (value_at L 1 ≡ its_volume L k) × (value_at L 2 ≡ its_delay L k)

-- ---- what the writer answers and leaves

pub record WriteExactly (L : List ℕ) (kind value : ℕ) : Type 0 where
  pub stop_23 : (FirstRight L → ⊥) → (settings_write L kind value).stop ≡ some 23
  pub stop_24 : FirstRight L → (KindsRight L → Once L kind → ⊥) → (settings_write L kind value).stop ≡ some 24
  pub stop_25 : FirstRight L → (k : KindsRight L) → Once L kind → (ValuesRight L k → InRange kind value → ⊥) → (settings_write L kind value).stop ≡ some 25
  pub writes : FirstRight L → (k : KindsRight L) → Once L kind → ValuesRight L k → InRange kind value → (settings_write L kind value).stop ≡ none
  -- a stop leaves the list as it was
  pub stopped : (s : ℕ) → (settings_write L kind value).stop ≡ some s → (settings_write L kind value).list ≡ L

-- L' is L with a value written to the setting of a kind
pub record Keeps (L : List ℕ) (kind value : ℕ) (L' : List ℕ) : Type 0 where
  -- the word of that kind has the value, and every other word is as it was
  pub same_length : length L' ≡ length L
  pub same_kinds : (i : ℕ) → kind_at L' i ≡ kind_at L i
  pub written : (i : ℕ) → i < count L → kind_at L i ≡ kind → value_at L' i ≡ value
  pub others : (i : ℕ) → i < count L → (kind_at L i ≡ kind → ⊥) → word_at L' (4 * i) ≡ word_at L (4 * i)
  -- it is still read: a volume or delay that was written reads back, and one that was not is as it was
  pub volume : ℕ
  pub delay : ℕ
  pub before : settings_read L ≡ Volume_delay volume delay
  pub after : settings_read L' ≡ Volume_delay (cond (eqb kind 1) value volume) (cond (eqb kind 2) value delay)

-- after a write that does not stop
abbrev pub WriteKeeps : (L : List ℕ) (kind value : ℕ) → Type 0
WriteKeeps L kind value = (settings_write L kind value).stop ≡ none → Keeps L kind value (settings_write L kind value).list
