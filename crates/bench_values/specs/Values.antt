-- Document 01's bench values M1 to M13 (its section "Bench values"), as lists: what the definitions give, beside what document 01 says;
-- M13 for both forms of a head, document 01's and document 02's (A.2); the bounds of A.2 and A.5, the order of A.6, the one save of A.7, the
-- key lengths of A.8, the rings of A.9, what A.10 refuses, chains of A.11, and lists of settings of A.12.
use Rattle.std.specs.Prelude.{ℕ, ◌/◌, ◌≡◌, Bool, true, false, not, List, [], ◌∷◌, ◌++◌, map, length, replicate}
use Rattle.std.proofs.Math.Option.{Option, none, some}
use Rattle.octets.specs.Limits.{slot_length, long_key, nonce_length, tag_length}
use Rattle.octets.specs.Octets.{erased}
use Rattle.octets.specs.Word.{top_word}
use Rattle.sbox.specs.Field.{xtime, sub_byte}
use Rattle.ring.specs.Ring.{Newest, Blank, Unreadable, At, AtPending, is_record, half_named, read_ring, target_page, target_slot}
use Rattle.ring_shapes.specs.Shapes.{R, ring_number, shape_stop}
use Rattle.chain.specs.Chain.{chain_stop, chain_order}
use Rattle.settings.specs.Settings.{volume, delay, read_stop, settings_write}
use Rattle.checkpoint.specs.Checkpoint.{Form, Older, Longer, Checkpoint, head_words, words, sealed}
use Rattle.checkpoint.specs.Half.{good_head}
use Rattle.protocol.specs.Types.{Firmware, first_firmware, packet_firmware, larger_firmware, half_first_firmware, this_firmware, Session}
use Rattle.protocol.specs.Calls.{sizes, From, from_tag, from_session}
use Rattle.protocol.specs.Operations.{session_wrong, save_restarts, larger, save_stop, power_up_stop, look_stop}
use Rattle.protocol.specs.Journal.{Journal, stores_of}
use Rattle.factory.specs.Factory.{not_first, factory_stop}

-- ---- rings of 3 pages with 2 slots

abbrev no_record : List ℕ
no_record = erased slot_length

abbrev zero_byte : List ℕ
zero_byte = 0 ∷ erased 15

-- place word 0x80000000
abbrev kind_two : List ℕ
kind_two = replicate nonce_length 0 ++ 0x80 ∷ 0 ∷ 0 ∷ 0 ∷ []

-- twelve 0xFF and 0x40000001
abbrev in_half_B : List ℕ
in_half_B = replicate nonce_length 0xFF ++ 0x40 ∷ 0 ∷ 0 ∷ 1 ∷ []

-- the ring with these bytes in its slots, page by page
abbrev ring : (a b c d e f : List ℕ) → List ℕ
ring a b c d e f = a ++ b ++ c ++ d ++ e ++ f

abbrev M1 : List ℕ
M1 = ring no_record no_record no_record no_record no_record no_record

abbrev M2 : List ℕ
M2 = ring R no_record no_record no_record no_record no_record

abbrev M3 : List ℕ
M3 = ring R R no_record no_record no_record no_record

abbrev M4 : List ℕ
M4 = ring R R R no_record no_record no_record

abbrev M5 : List ℕ
M5 = ring R no_record no_record no_record R no_record

abbrev M6 : List ℕ
M6 = ring zero_byte no_record R no_record no_record no_record

abbrev M7 : List ℕ
M7 = ring R no_record R R no_record no_record

abbrev M8 : List ℕ
M8 = ring R no_record R no_record R no_record

abbrev M9 : List ℕ
M9 = ring no_record R no_record no_record no_record no_record

abbrev M10 : List ℕ
M10 = ring kind_two no_record no_record no_record no_record no_record

abbrev M11 : List ℕ
M11 = ring in_half_B no_record no_record no_record no_record no_record

-- ---- a checkpoint with an open part of 8 bytes and a secret part of 4, and journals before its start

abbrev pub M13 : Form → Checkpoint
M13 form = record { form = form; packet = 0; open_part = replicate 8 0; secret = replicate 4 0; restarts = 0; previous = replicate tag_length 0; nonce = replicate nonce_length 0 }

abbrev pub key : List ℕ
key = replicate long_key 0

-- with this many records, and an erase owed or not
abbrev pub journal : ℕ → Bool → Journal
journal count owed = record { entry = none; count = count; owed = owed; draft = none; power_ups = 0 }

-- ---- the table

pub data Value : Type 0 where
  reads : Newest → Value
  target : (page slot : ℕ) → Value
  a_record : Bool → (half : ℕ) → Value
  byte : ℕ → Value
  lengths : (bytes words : ℕ) → Value
  stores : ℕ → Value
  stops : Option ℕ → Value
  wrong : Bool → Value
  numbers : (restarts packet : ℕ) → Value
  holds : List ℕ → Value

abbrev read : List ℕ → Value
read r = reads (read_ring r 3 2)

-- where the next record goes, as read_ring finds it
abbrev next : List ℕ → Value
next r = target (target_page 3 2 (read_ring r 3 2)) (target_slot 2 (read_ring r 3 2))

abbrev stores_after : Form → Journal → Value
stores_after form j = stores (length (stores_of key 2 j (M13 form)))

-- ---- the bounds of document 02, A.2

-- a first save with empty parts, a blank ring and a FRAM of n bytes, which has heard a packet
abbrev starts : ℕ → ℕ → Value
starts n packet = stops (save_stop this_firmware M1 (replicate n 0) (record {
  arguments = record {
    sizes = sizes 3 2;
    key = key;
    nonce = replicate nonce_length 0;
    packet = packet;
    open_part = [];
    secret = [];
    staging = replicate n 0;
  };
  from = from_tag (replicate tag_length 0);
}))

-- a session of these restarts and this packet number, and a save with it that has heard a packet
abbrev session : (restarts packet : ℕ) → Session
session restarts packet = record { page = 0; slot = 0; latest = R; tag = replicate tag_length 0; restarts = restarts; packet = packet }

abbrev out_of_range : (restarts packet : ℕ) → Value
out_of_range restarts packet = wrong (session_wrong Longer (session restarts packet))

abbrev saves : (heard restarts packet : ℕ) → Value
saves heard restarts packet = numbers (save_restarts Longer heard packet restarts) (larger packet heard)

-- ---- the bounds of document 02, A.5, and those of the firmware before it

-- n bytes, of which only the number counts
unfoldable pub zeros : ℕ → List ℕ
zeros n = replicate n 0

-- a first save with a blank ring, a FRAM of n bytes and parts of so many
abbrev saves_parts : Firmware → (n open_part secret : ℕ) → Value
saves_parts firmware n open_part secret = stops (save_stop firmware M1 (zeros n) (record {
  arguments = record {
    sizes = sizes 3 2;
    key = key;
    nonce = replicate nonce_length 0;
    packet = 0;
    open_part = zeros open_part;
    secret = zeros secret;
    staging = zeros n;
  };
  from = from_tag (replicate tag_length 0);
}))

-- a power-up with a blank ring, a FRAM of 96 bytes and a state buffer of n
abbrev powers_up : Firmware → ℕ → Value
powers_up firmware n = stops (power_up_stop firmware M1 (zeros 96) (record { sizes = sizes 3 2; key = key; nonce = replicate nonce_length 0; staging = zeros 96; state = zeros n }))

-- whether a head that tells of a secret part of n words, in a half that has room for it, is wrong (stop 11)
abbrev reads_secret : Firmware → ℕ → Value
reads_secret firmware n = wrong (not (good_head firmware.longest_part Longer (words (head_words Longer 0 0 n 0) ++ zeros 40000)))

-- what the definitions give, and what the papers say
abbrev pub table : List (Value × Value)
table =
    (read M1, reads Blank) ∷
    (read M2, reads (At 0 0)) ∷
    (next M2, target 0 1) ∷
    (read M3, reads (At 0 1)) ∷
    (next M3, target 1 0) ∷
    (read M4, reads (AtPending 1 0)) ∷
    (read M5, reads (AtPending 0 2)) ∷
    (read M6, reads (AtPending 1 0)) ∷
    (read M7, reads Unreadable) ∷
    (read M8, reads Unreadable) ∷
    (read M9, reads Unreadable) ∷
    (read M10, reads Unreadable) ∷
    (read M11, reads (At 0 0)) ∷
    (a_record (is_record in_half_B) (half_named in_half_B), a_record true 1) ∷
    (byte (sub_byte 0x00), byte 0x63) ∷
    (byte (sub_byte 0x53), byte 0xED) ∷
    (byte (xtime 0x57), byte 0xAE) ∷
    (byte (xtime 0xAE), byte 0x47) ∷
    (lengths (length (sealed key (M13 Older))) (length (sealed key (M13 Older)) / 4), lengths 56 14) ∷
    (stores_after Older (journal 0 false), stores 15) ∷
    (stores_after Older (journal 2 false), stores 16) ∷
    (stores_after Older (journal 3 true), stores 16) ∷
    (lengths (length (sealed key (M13 Longer))) (length (sealed key (M13 Longer)) / 4), lengths 60 15) ∷
    (stores_after Longer (journal 0 false), stores 16) ∷
    (stores_after Longer (journal 2 false), stores 17) ∷
    (stores_after Longer (journal 3 true), stores 17) ∷
    (starts 88 0, stops (some 4)) ∷
    (starts 96 0, stops none) ∷
    (starts 96 1073741823, stops none) ∷
    (starts 96 1073741824, stops (some 18)) ∷
    (starts 88 1073741824, stops (some 4)) ∷
    (out_of_range 8 1073741823, wrong false) ∷
    (out_of_range 9 0, wrong true) ∷
    (out_of_range 0 1073741824, wrong true) ∷
    (saves 6 5 7, numbers 5 7) ∷
    (saves 7 5 7, numbers 5 7) ∷
    (saves 8 5 7, numbers 0 8) ∷
    (saves_parts this_firmware 262144 32768 32768, stops none) ∷
    (saves_parts this_firmware 262152 0 0, stops (some 2)) ∷
    (saves_parts this_firmware 262144 32769 0, stops (some 4)) ∷
    (saves_parts this_firmware 262144 32772 0, stops (some 4)) ∷
    (saves_parts this_firmware 262144 0 32772, stops (some 4)) ∷
    (powers_up this_firmware 32768, stops (some 6)) ∷
    (powers_up this_firmware 32767, stops (some 4)) ∷
    (reads_secret this_firmware 8192, wrong false) ∷
    (reads_secret this_firmware 8193, wrong true) ∷
    (saves_parts packet_firmware 131072 4096 4096, stops none) ∷
    (saves_parts packet_firmware 131080 0 0, stops (some 2)) ∷
    (saves_parts packet_firmware 131072 4097 0, stops (some 4)) ∷
    (saves_parts packet_firmware 131072 4100 0, stops (some 4)) ∷
    (saves_parts packet_firmware 131072 0 4100, stops (some 4)) ∷
    (saves_parts packet_firmware 88 0 0, stops (some 4)) ∷
    (powers_up packet_firmware 4096, stops (some 6)) ∷
    (powers_up packet_firmware 4095, stops (some 4)) ∷
    (reads_secret packet_firmware 1024, wrong false) ∷
    (reads_secret packet_firmware 1025, wrong true) ∷
    (saves_parts first_firmware 88 0 0, stops none) ∷
    (saves_parts larger_firmware 262144 32768 32768, stops none) ∷
    (saves_parts larger_firmware 262152 0 0, stops (some 2)) ∷
    (saves_parts larger_firmware 262144 32772 0, stops (some 4)) ∷
    (powers_up larger_firmware 32767, stops (some 4)) ∷
    (saves_parts half_first_firmware 262144 32768 32768, stops none) ∷
    (saves_parts half_first_firmware 262152 0 0, stops (some 2)) ∷
    (saves_parts half_first_firmware 262144 32772 0, stops (some 4)) ∷
    (powers_up half_first_firmware 32767, stops (some 4)) ∷ []

-- ---- the order of document 02, A.6, and that before it

-- a power-up on M2, where R's nonce is of zeros, with a nonce of bytes b; FRAM bytes of zeros have no head (stop 11)
abbrev powers_up_with : Firmware → ℕ → Value
powers_up_with firmware b =
    stops (power_up_stop firmware M2 (replicate 96 0) (record { sizes = sizes 3 2; key = key; nonce = replicate nonce_length b; staging = zeros 96; state = zeros 32768 }))

abbrev pub orders : List (Value × Value)
orders =
    (powers_up_with first_firmware 0, stops (some 10)) ∷
    (powers_up_with packet_firmware 0, stops (some 10)) ∷
    (powers_up_with larger_firmware 0, stops (some 10)) ∷
    (powers_up_with half_first_firmware 0, stops (some 11)) ∷
    (powers_up_with this_firmware 0, stops (some 11)) ∷
    (powers_up_with larger_firmware 1, stops (some 11)) ∷
    (powers_up_with this_firmware 1, stops (some 11)) ∷ []

-- ---- the one save of document 02, A.7

-- a save with empty parts, a FRAM of 96 bytes and a nonce of bytes b
abbrev follows : (ring : List ℕ) → From → ℕ → Value
follows ring from b = stops (save_stop this_firmware ring (replicate 96 0) (record {
  arguments = record {
    sizes = sizes 3 2;
    key = key;
    nonce = replicate nonce_length b;
    packet = 0;
    open_part = [];
    secret = [];
    staging = zeros 96;
  };
  from = from;
}))

-- a starting tag of n bytes, and a session of the record R in a slot
abbrev tag_of : ℕ → From
tag_of n = from_tag (replicate n 0)

abbrev session_at : (page slot : ℕ) → From
session_at page slot = from_session (record { page = page; slot = slot; latest = R; tag = replicate tag_length 0; restarts = 0; packet = 0 })

abbrev pub one_save : List (Value × Value)
one_save =
    (follows M1 (tag_of 16) 0, stops none) ∷
    (follows M1 (tag_of 15) 0, stops (some 3)) ∷
    (follows M1 (tag_of 17) 0, stops (some 3)) ∷
    (follows M2 (tag_of 16) 1, stops (some 5)) ∷
    (follows M2 (tag_of 15) 1, stops (some 3)) ∷
    (follows M4 (tag_of 16) 1, stops (some 5)) ∷
    (follows M7 (tag_of 16) 1, stops (some 5)) ∷
    (follows M1 (session_at 0 0) 1, stops (some 6)) ∷
    (follows M7 (session_at 1 1) 1, stops (some 7)) ∷
    (follows M3 (session_at 0 0) 1, stops (some 8)) ∷
    (follows M4 (session_at 1 0) 1, stops (some 9)) ∷
    (follows M3 (session_at 0 1) 0, stops (some 10)) ∷
    (follows M3 (session_at 0 1) 1, stops none) ∷ []

-- ---- the key lengths of document 02, A.8, and those before it

-- with a blank ring, a FRAM of 96 bytes and a key of n: what a save with a starting tag, a power-up and a look stop with
abbrev saves_under : Firmware → ℕ → Value
saves_under firmware n = stops (save_stop firmware M1 (zeros 96) (record {
  arguments = record {
    sizes = sizes 3 2;
    key = zeros n;
    nonce = replicate nonce_length 0;
    packet = 0;
    open_part = [];
    secret = [];
    staging = zeros 96;
  };
  from = from_tag (replicate tag_length 0);
}))

abbrev powers_up_under : Firmware → ℕ → Value
powers_up_under firmware n = stops (power_up_stop firmware M1 (zeros 96) (record { sizes = sizes 3 2; key = zeros n; nonce = replicate nonce_length 0; staging = zeros 96; state = zeros 32768 }))

abbrev looks_under : Firmware → ℕ → Value
looks_under firmware n = stops (look_stop firmware M1 (zeros 96) (record { sizes = sizes 3 2; key = zeros n }))

abbrev pub keys : List (Value × Value)
keys =
    (saves_under this_firmware 0, stops (some 3)) ∷
    (saves_under this_firmware 15, stops (some 3)) ∷
    (saves_under this_firmware 16, stops none) ∷
    (saves_under this_firmware 17, stops (some 3)) ∷
    (saves_under this_firmware 24, stops (some 3)) ∷
    (saves_under this_firmware 31, stops (some 3)) ∷
    (saves_under this_firmware 32, stops none) ∷
    (saves_under this_firmware 33, stops (some 3)) ∷
    (powers_up_under this_firmware 16, stops (some 6)) ∷
    (powers_up_under this_firmware 24, stops (some 3)) ∷
    (powers_up_under this_firmware 32, stops (some 6)) ∷
    (looks_under this_firmware 16, stops (some 6)) ∷
    (looks_under this_firmware 24, stops (some 3)) ∷
    (looks_under this_firmware 32, stops (some 6)) ∷
    (saves_under first_firmware 16, stops (some 3)) ∷
    (saves_under packet_firmware 16, stops (some 3)) ∷
    (saves_under larger_firmware 16, stops (some 3)) ∷
    (saves_under half_first_firmware 16, stops (some 3)) ∷
    (saves_under half_first_firmware 32, stops none) ∷
    (powers_up_under half_first_firmware 16, stops (some 3)) ∷
    (looks_under half_first_firmware 16, stops (some 3)) ∷ []

-- ---- the rings of document 02, A.9

-- ring number n of 3 pages with 2 slots
abbrev shape : ℕ → Value
shape n = holds (ring_number 3 2 n)

-- what the call stops with, given a buffer of so many bytes
abbrev makes : (pages slots number bytes : ℕ) → Value
makes pages slots number n = stops (shape_stop pages slots number (zeros n))

abbrev pub rings : List (Value × Value)
rings =
    (shape 0, holds M1) ∷
    (shape 1, holds (ring R no_record no_record no_record R R)) ∷
    (shape 2, holds M2) ∷
    (shape 3, holds M3) ∷
    (shape 4, holds M4) ∷
    (shape 5, holds (ring no_record no_record R no_record no_record no_record)) ∷
    (shape 6, holds (ring no_record no_record R R no_record no_record)) ∷
    (shape 7, holds (ring no_record no_record R R R no_record)) ∷
    (shape 8, holds (ring no_record no_record no_record no_record R no_record)) ∷
    (shape 9, holds (ring no_record no_record no_record no_record R R)) ∷
    (makes 3 2 9 96, stops none) ∷
    (makes 3 2 10 96, stops (some 26)) ∷
    (makes 3 3 12 144, stops none) ∷
    (makes 3 3 13 144, stops (some 26)) ∷
    (makes 3 4 15 192, stops none) ∷
    (makes 3 4 16 192, stops (some 26)) ∷
    (makes 4 2 12 128, stops none) ∷
    (makes 4 2 13 128, stops (some 26)) ∷
    (makes 4 3 16 192, stops none) ∷
    (makes 4 3 17 192, stops (some 26)) ∷
    (makes 4 4 20 256, stops none) ∷
    (makes 4 4 21 256, stops (some 26)) ∷
    (makes 2 2 0 64, stops (some 1)) ∷
    (makes 5 2 0 160, stops (some 1)) ∷
    (makes 3 1 0 48, stops (some 1)) ∷
    (makes 3 5 0 240, stops (some 1)) ∷
    (makes 3 2 0 95, stops (some 1)) ∷
    (makes 3 2 0 97, stops (some 1)) ∷
    (makes 3 2 10 95, stops (some 1)) ∷ []

-- ---- the check of document 02, A.10

-- a ring of 3 pages with 2 slots, a FRAM of n zero bytes, which have no head (stop 11), and a key of m
abbrev checks : (ring : List ℕ) → (n m : ℕ) → Value
checks ring n m = stops (factory_stop ring (replicate n 0) (record { sizes = sizes 3 2; key = zeros m }))

-- what the ring reads as, the half that is named, and the form and the restarts of its head (stop 19)
abbrev no_first : Newest → ℕ → Form → ℕ → Value
no_first n half form restarts = wrong (not_first n half form restarts)

abbrev pub new_units : List (Value × Value)
new_units =
    (checks [] 80 24, stops (some 1)) ∷
    (checks M1 80 24, stops (some 2)) ∷
    (checks M1 96 24, stops (some 3)) ∷
    (checks M1 96 32, stops (some 6)) ∷
    (checks M7 96 32, stops (some 7)) ∷
    (checks M2 96 32, stops (some 11)) ∷
    (checks M4 96 16, stops (some 11)) ∷
    (no_first (At 0 0) 0 Longer 0, wrong false) ∷
    (no_first (At 1 0) 0 Longer 0, wrong true) ∷
    (no_first (At 0 1) 0 Longer 0, wrong true) ∷
    (no_first (At 0 0) 1 Longer 0, wrong true) ∷
    (no_first (AtPending 0 2) 0 Longer 0, wrong true) ∷
    (no_first (At 0 0) 0 Longer 1, wrong true) ∷
    (no_first (At 0 0) 0 Older 0, wrong true) ∷ []

-- ---- the chains of document 02, A.11

-- an entry with tags of sixteen times the same byte
abbrev entry : (previous own : ℕ) → List ℕ
entry previous own = replicate 16 previous ++ replicate 16 own

-- what the call leaves in a buffer of four bytes 9
abbrev sorts : List ℕ → Value
sorts E = holds (chain_order E (replicate 4 9)).positions

-- what it stops with, given a buffer of so many bytes
abbrev sorting : List ℕ → ℕ → Value
sorting E n = stops (chain_stop E (replicate n 9))

abbrev pub chains : List (Value × Value)
chains =
    (sorts (entry 1 2), holds (0 ∷ 9 ∷ 9 ∷ 9 ∷ [])) ∷
    (sorts (entry 1 2 ++ entry 2 3), holds (0 ∷ 1 ∷ 9 ∷ 9 ∷ [])) ∷
    (sorts (entry 2 3 ++ entry 1 2), holds (1 ∷ 0 ∷ 9 ∷ 9 ∷ [])) ∷
    (sorts (entry 3 4 ++ entry 1 2 ++ entry 2 3), holds (1 ∷ 2 ∷ 0 ∷ 9 ∷ [])) ∷
    (sorts (entry 1 2 ++ entry 2 1), holds (9 ∷ 9 ∷ 9 ∷ 9 ∷ [])) ∷
    (sorting (entry 1 2 ++ entry 2 3) 2, stops none) ∷
    (sorting (entry 1 1) 4, stops (some 22)) ∷
    (sorting (entry 1 2 ++ entry 2 1) 4, stops (some 22)) ∷
    (sorting (entry 1 2 ++ entry 4 5 ++ entry 5 4) 4, stops (some 22)) ∷
    (sorting (entry 1 2 ++ entry 3 4) 4, stops (some 22)) ∷
    (sorting (entry 1 2 ++ entry 1 3) 4, stops (some 22)) ∷
    (sorting (entry 1 2 ++ entry 2 2) 4, stops (some 22)) ∷
    (sorting (entry 1 2 ++ entry 2 3 ++ entry 2 4) 4, stops (some 22)) ∷
    (sorting (entry 1 2 ++ entry 2 1) 1, stops (some 4)) ∷
    (sorting [] 4, stops (some 21)) ∷
    (sorting (replicate 31 7) 4, stops (some 21)) ∷
    (sorting (replicate 33 7) 0, stops (some 21)) ∷ []

-- the most entries, and more
abbrev pub many_entries : List (Value × Value)
many_entries =
    (sorting (zeros 2048) 63, stops (some 4)) ∷
    (sorting (zeros 2049) 64, stops (some 21)) ∷
    (sorting (zeros 2080) 65, stops (some 21)) ∷ []

-- ---- the lists of settings of document 02, A.12

-- volume 3 and a delay of 30 seconds, in either version
abbrev older_list : List ℕ
older_list = top_word 15 1 ++ top_word 1 3 ++ top_word 2 30

abbrev newer_list : List ℕ
newer_list = top_word 15 2 ++ top_word 1 3 ++ top_word 2 30 ++ top_word 7 4711 ++ top_word 14 0

abbrev read_stops : List ℕ → Value
read_stops L = stops (read_stop L)

abbrev says : List ℕ → Value
says L = holds (volume L ∷ delay L ∷ [])

abbrev write_stops : List ℕ → (kind value : ℕ) → Value
write_stops L k v = stops (settings_write L k v).stop

abbrev writes : List ℕ → (kind value : ℕ) → Value
writes L k v = holds (settings_write L k v).list

abbrev pub lists_read : List (Value × Value)
lists_read =
    (read_stops older_list, stops none) ∷
    (says older_list, holds (3 ∷ 30 ∷ [])) ∷
    (read_stops newer_list, stops none) ∷
    (says newer_list, holds (3 ∷ 30 ∷ [])) ∷
    (read_stops [], stops (some 23)) ∷
    (read_stops (older_list ++ 0 ∷ []), stops (some 23)) ∷
    (read_stops (top_word 15 0 ++ top_word 1 3 ++ top_word 2 30), stops (some 23)) ∷
    (read_stops (top_word 15 3 ++ top_word 1 3 ++ top_word 2 30), stops (some 23)) ∷
    (read_stops (top_word 14 1 ++ top_word 1 3 ++ top_word 2 30), stops (some 23)) ∷
    (read_stops (top_word 15 1), stops (some 24)) ∷
    (read_stops (top_word 15 1 ++ top_word 1 3), stops (some 24)) ∷
    (read_stops (top_word 15 1 ++ top_word 2 30), stops (some 24)) ∷
    (read_stops (top_word 15 1 ++ top_word 2 30 ++ top_word 1 3), stops (some 24)) ∷
    (read_stops (older_list ++ top_word 3 0), stops (some 24)) ∷
    (read_stops (top_word 15 2 ++ top_word 0 0 ++ top_word 1 3 ++ top_word 2 30), stops (some 24)) ∷
    (read_stops (top_word 15 2 ++ top_word 1 3 ++ top_word 2 30), stops none) ∷
    (read_stops (newer_list ++ top_word 3 0), stops (some 24)) ∷
    (read_stops (newer_list ++ top_word 14 0), stops (some 24)) ∷
    (read_stops (newer_list ++ top_word 15 2), stops (some 24)) ∷
    (read_stops (top_word 15 1 ++ top_word 2 301 ++ top_word 1 16), stops (some 24)) ∷
    (read_stops (top_word 15 1 ++ top_word 1 15 ++ top_word 2 300), stops none) ∷
    (read_stops (top_word 15 1 ++ top_word 1 16 ++ top_word 2 300), stops (some 25)) ∷
    (read_stops (top_word 15 1 ++ top_word 1 0 ++ top_word 2 4), stops (some 25)) ∷
    (read_stops (top_word 15 1 ++ top_word 1 0 ++ top_word 2 5), stops none) ∷
    (read_stops (top_word 15 1 ++ top_word 1 0 ++ top_word 2 301), stops (some 25)) ∷ []

abbrev pub lists_written : List (Value × Value)
lists_written =
    (writes older_list 1 15, holds (top_word 15 1 ++ top_word 1 15 ++ top_word 2 30)) ∷
    (writes newer_list 2 300, holds (top_word 15 2 ++ top_word 1 3 ++ top_word 2 300 ++ top_word 7 4711 ++ top_word 14 0)) ∷
    (writes newer_list 7 268435455, holds (top_word 15 2 ++ top_word 1 3 ++ top_word 2 30 ++ top_word 7 268435455 ++ top_word 14 0)) ∷
    (write_stops newer_list 7 268435455, stops none) ∷
    (write_stops newer_list 7 268435456, stops (some 25)) ∷
    (write_stops newer_list 2 301, stops (some 25)) ∷
    (write_stops newer_list 2 4, stops (some 25)) ∷
    (write_stops newer_list 1 16, stops (some 25)) ∷
    (write_stops newer_list 15 1, stops (some 24)) ∷
    (write_stops newer_list 3 0, stops (some 24)) ∷
    (write_stops newer_list 17 3, stops (some 24)) ∷
    (write_stops (top_word 15 1 ++ top_word 1 16 ++ top_word 2 30) 1 3, stops (some 25)) ∷
    (write_stops (top_word 15 1 ++ top_word 1 16 ++ top_word 2 30) 3 0, stops (some 24)) ∷
    (write_stops (top_word 15 1 ++ top_word 2 30 ++ top_word 1 3) 1 16, stops (some 24)) ∷
    (write_stops (0 ∷ older_list) 15 0, stops (some 23)) ∷
    (writes (top_word 15 1 ++ top_word 1 16 ++ top_word 2 30) 1 3, holds (top_word 15 1 ++ top_word 1 16 ++ top_word 2 30)) ∷ []

abbrev pub Agree : List (Value × Value) → Type 0
Agree rows = map (λ v. v.0) rows ≡ map (λ v. v.1) rows

unfoldable pub Values : Type 0
Values = Agree table × Agree orders × Agree one_save × Agree keys × Agree rings × Agree new_units × Agree chains × Agree many_entries × Agree lists_read × Agree lists_written
