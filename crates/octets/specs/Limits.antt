-- The limits and lengths of documents 01 and 02, each named here and, if the code needs it, in src/limits.rt. Elsewhere in the libraries one of
-- them stands as a numeral only in the types of arrays (a nonce of 12 bytes, a tag or a slot of 16), in Layout.antt of checkpoint, which
-- gives the papers' offsets as numbers of their own, in Older.antt and Keys.antt of protocol, which write document 01's lists out with its
-- limits and say which lengths of keys are taken, in Each.antt of ring_shapes, Exactly.antt of chain and Rules.antt of settings, which say
-- which sizes and values are taken there, where aes_key, aes and gcm have the standards' numbers, and in Format.antt of intel_hex, which has
-- that format's.
-- Lengths are in bytes; a word is 4.
use Rattle.std.specs.Prelude.{ℕ, List, [], ◌∷◌}

-- ---- the ring
abbrev pub pages_least : ℕ
pages_least = 3

abbrev pub pages_limit : ℕ
pages_limit = 32

abbrev pub slots_least : ℕ
slots_least = 2

abbrev pub slots_limit : ℕ
slots_limit = 512

abbrev pub slot_length : ℕ
slot_length = 16

-- ---- the FRAM
abbrev pub fram_least : ℕ
fram_least = 88

-- document 02, A.5
abbrev pub fram_limit : ℕ
fram_limit = 262144

-- that of firmware before A.5, document 01's
abbrev pub older_fram_limit : ℕ
older_fram_limit = 131072

-- its length is a multiple of this
abbrev pub fram_step : ℕ
fram_step = 8

-- ---- a checkpoint
-- each part's limit, and the least length of a state buffer (document 02, A.5)
abbrev pub part_limit : ℕ
part_limit = 32768

-- that of firmware before A.5, document 01's
abbrev pub older_part_limit : ℕ
older_part_limit = 4096

-- the longest part whose length in words is a word's value: 4 × (2^30 − 1) bytes
abbrev pub part_most : ℕ
part_most = 4294967292

abbrev pub restart_limit : ℕ
restart_limit = 8

-- the largest packet number, 2^30 − 1 (document 02, A.2)
abbrev pub packet_limit : ℕ
packet_limit = 1073741823

-- ---- the cipher
-- a key of AES-128 (document 02, A.8) and one of AES-256
abbrev pub short_key : ℕ
short_key = 16

abbrev pub long_key : ℕ
long_key = 32

-- the lengths of keys that are taken
abbrev pub key_lengths : List ℕ
key_lengths = short_key ∷ long_key ∷ []

-- those of firmware before A.8, document 01's
abbrev pub older_key_lengths : List ℕ
older_key_lengths = long_key ∷ []

abbrev pub nonce_length : ℕ
nonce_length = 12

abbrev pub tag_length : ℕ
tag_length = 16

-- the limit of a text and of associated data, sealed and opened alone
abbrev pub text_limit : ℕ
text_limit = 65536

-- ---- images as Intel HEX (document 02, A.1), of any memory
abbrev pub image_limit : ℕ
image_limit = 262144

-- the data bytes of an exported line
abbrev pub data_per_line : ℕ
data_per_line = 16

-- ---- recorded bench traces (document 02, A.4), in words
abbrev pub trace_limit : ℕ
trace_limit = 4096

-- ---- the rings of the bench (document 02, A.9), which are small: the most pages and slots; the least are the ring's own
abbrev pub shape_pages_limit : ℕ
shape_pages_limit = 4

abbrev pub shape_slots_limit : ℕ
shape_slots_limit = 4

-- ---- entries of a chain of dumps (document 02, A.11): the length of one, and how many there may be
abbrev pub entry_length : ℕ
entry_length = 32

abbrev pub entries_limit : ℕ
entries_limit = 64

-- ---- settings (document 02, A.12): the largest volume, the least and the largest alert delay in seconds, and the largest value of any kind, 2^28 − 1
abbrev pub volume_limit : ℕ
volume_limit = 15

abbrev pub delay_least : ℕ
delay_least = 5

abbrev pub delay_limit : ℕ
delay_limit = 300

abbrev pub setting_limit : ℕ
setting_limit = 268435455
