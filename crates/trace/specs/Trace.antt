-- A recorded bench trace (document 02, A.4): which traces are run, what each of their words does to the bench's unit, and which lines are printed.
-- `key` is the unit's, the same throughout a trace. Document 02 has it zero: that is what the program gives.
use Rattle.std.specs.Prelude.{ℕ, zero, suc, ◌+◌, ◌*◌, ◌/◌, Bool, not, cond, List, [], ◌∷◌, ◌++◌, length, replicate, eqb, ltb}
use Rattle.std.proofs.Math.Option.{Option, none, some}
use Rattle.octets.specs.Limits.{slot_length, part_limit, key_lengths, nonce_length, tag_length, trace_limit}
use Rattle.octets.specs.Octets.{put, blank, erased, bytes}
use Rattle.octets.specs.Word.{top_kind, low_value}
use Rattle.stops.specs.Stops.{first_of}
use Rattle.protocol.specs.Types.{Session, Progress, GoingOn, Saved, Restored, Refused, Start, Begun, Stopped, this_firmware}
use Rattle.protocol.specs.Calls.{Sizes, sizes, From, from_tag, from_session, SaveArguments, Saves, saves, PowersUp}
use Rattle.protocol.specs.Operations.{key_wrong, Begin, Moved, no_job, no_session, save, power_up, advance}
use Rattle.protocol.specs.Recovery.{is_going}
use Rattle.ring_line.specs.Text.{refused_line, ring_text}
use Rattle.ring_line.specs.Line.{line_limit}
use Rattle.trace_words.specs.Words.{is_cut, words_of, trace_wrong}

-- ---- the bench's unit

abbrev pub bench_pages : ℕ
bench_pages = 3

abbrev pub bench_slots : ℕ
bench_slots = 2

abbrev pub bench_sizes : Sizes
bench_sizes = sizes bench_pages bench_slots

abbrev pub ring_length : ℕ
ring_length = slot_length * (bench_pages * bench_slots)

abbrev pub fram_length : ℕ
fram_length = 128

abbrev pub bench_half : ℕ
bench_half = fram_length / 2

-- its staging buffer before a start
abbrev pub bench_staging : List ℕ
bench_staging = replicate bench_half 0

-- what an operation with the value v is given
abbrev pub nonce_of : ℕ → List ℕ
nonce_of v = bytes nonce_length v

abbrev pub arguments : (key : List ℕ) → ℕ → List ℕ → SaveArguments
arguments key v staging = record { sizes = bench_sizes; key = key; nonce = nonce_of v; packet = v; open_part = []; secret = bytes 4 v; staging = staging }

abbrev pub saving : (key : List ℕ) → ℕ → List ℕ → From → Saves
saving key v staging from = saves (arguments key v staging) from

-- a first save's starting tag
abbrev pub zero_tag : From
zero_tag = from_tag (replicate tag_length 0)

abbrev pub powering_up : (key : List ℕ) → ℕ → List ℕ → PowersUp
powering_up key v staging = record { sizes = bench_sizes; key = key; nonce = nonce_of v; staging = staging; state = replicate part_limit 0 }

-- ---- an operation

unfoldable pub start_progress : Start → Progress
start_progress Begun = GoingOn
start_progress (Stopped n) = Refused n

module _ (key ring fram : List ℕ) where
  -- with no session a save is refused: 6 on a blank ring, else 8
  unfoldable pub save_with : Option Session → ℕ → List ℕ → Begin
  save_with none v staging = record { answer = Stopped (cond (blank ring) 6 8); job = no_job; secret_length = 0; staging = staging; state = [] }
  save_with (some z) v staging = save this_firmware ring fram (saving key v staging (from_session z))

  -- the start that a word names
  unfoldable pub start : Option Session → ℕ → List ℕ → Begin
  start session w staging =
      cond (eqb (top_kind w) 1) (save this_firmware ring fram (saving key (low_value w) staging zero_tag))
      (cond (eqb (top_kind w) 2) (save_with session (low_value w) staging)
      (power_up this_firmware ring fram (powering_up key (low_value w) staging)))

-- a start before its first store
unfoldable pub started : (ring fram : List ℕ) → Begin → Moved
started ring fram b = record { progress = start_progress b.answer; job = b.job; session = no_session; ring = ring; fram = fram }

-- at most n stores more, while the job is going on
unfoldable pub stored_on : ℕ → List ℕ → Moved → Moved
stored_on zero staging m = m
stored_on (suc n) staging m =
    cond (is_going m.progress) (stored_on n staging (advance this_firmware m.ring m.fram (record { sizes = bench_sizes; job = m.job; staging = staging }))) m

-- no job has more stores: an erase, the words of a half, the record and an erase
abbrev pub most_stores : ℕ
most_stores = bench_half / 4 + 3

-- with a cut set, as many stores as it says
unfoldable pub stores_until : Option ℕ → ℕ
stores_until none = most_stores
stores_until (some n) = n

-- the memories, the session and the cut that is set for the next operation
pub record Bench : Type 0 where
  pub ring : List ℕ
  pub fram : List ℕ
  pub session : Option Session
  pub cut : Option ℕ

-- what an operation answers and leaves
unfoldable pub operation : (key : List ℕ) → Bench → ℕ → Moved
operation key b w =
    let s = start key b.ring b.fram b.session w bench_staging in
    stored_on (stores_until b.cut) s.staging (started b.ring b.fram s)

-- ---- a trace

-- the session handed out, or else the one before
unfoldable pub session_from : Progress → Session → Option Session → Option Session
session_from GoingOn new before = before
session_from Saved new before = some new
session_from Restored new before = some new
session_from (Refused n) new before = before

-- after a cut there is none
unfoldable pub session_after : Option ℕ → Moved → Option Session → Option Session
session_after none m before = session_from m.progress m.session before
session_after (some n) m before = none

unfoldable pub operated : (key : List ℕ) → Bench → ℕ → Bench
operated key b w =
    let m = operation key b w in
    record { ring = m.ring; fram = m.fram; session = session_after b.cut m b.session; cut = none }

unfoldable pub cut_set : Bench → ℕ → Bench
cut_set b n = record { ring = b.ring; fram = b.fram; session = b.session; cut = some n }

unfoldable pub step : (key : List ℕ) → Bench → ℕ → Bench
step key b w = cond (is_cut w) (cut_set b (low_value w)) (operated key b w)

unfoldable pub after : (key : List ℕ) → Bench → List ℕ → Bench
after key b [] = b
after key b (w ∷ more) = after key (step key b w) more

unfoldable pub line_after : Progress → List ℕ → List ℕ
line_after GoingOn ring = ring_text bench_pages bench_slots ring
line_after Saved ring = ring_text bench_pages bench_slots ring
line_after Restored ring = ring_text bench_pages bench_slots ring
line_after (Refused n) ring = refused_line n

-- an operation prints a line, a cut none
unfoldable pub printed : (key : List ℕ) → Bench → ℕ → List ℕ
printed key b w = let m = operation key b w in cond (is_cut w) [] (line_after m.progress m.ring)

unfoldable pub lines : (key : List ℕ) → Bench → List ℕ → List ℕ
lines key b [] = []
lines key b (w ∷ more) = printed key b w ++ lines key (step key b w) more

-- both memories blank, no session, no cut
unfoldable pub blank_bench : Bench
blank_bench = record { ring = erased ring_length; fram = erased fram_length; session = none; cut = none }

-- room for the lines of the longest trace
abbrev pub text_length : ℕ
text_length = trace_limit * line_limit

-- what running a trace answers and leaves: the memories, and the lines at the front of a text, or a stop that leaves all as it was
pub record Run : Type 0 where
  pub stop : Option ℕ
  pub written : ℕ
  pub ring : List ℕ
  pub fram : List ℕ
  pub text : List ℕ

-- stop 3, of the key
abbrev pub key_refused : List ℕ → Bool
key_refused key = key_wrong key_lengths (length key)

unfoldable pub trace_stop : (key trace ring fram text : List ℕ) → Option ℕ
trace_stop key trace ring fram text = first_of (
    (1, not (eqb (length ring) ring_length)) ∷
    (2, not (eqb (length fram) fram_length)) ∷
    (3, key_refused key) ∷
    (4, ltb (length text) text_length) ∷
    (20, trace_wrong trace) ∷ [])

unfoldable pub run_by : Option ℕ → (key trace ring fram text : List ℕ) → Run
run_by (some s) key trace ring fram text = record { stop = some s; written = 0; ring = ring; fram = fram; text = text }
run_by none key trace ring fram text =
    let b = after key blank_bench (words_of trace) in
    let l = lines key blank_bench (words_of trace) in
    record { stop = none; written = length l; ring = b.ring; fram = b.fram; text = put text 0 l }

unfoldable pub run_trace : (key trace ring fram text : List ℕ) → Run
run_trace key trace ring fram text = run_by (trace_stop key trace ring fram text) key trace ring fram text

-- what the program prints: a trace's lines, or of a key or a trace that is wrong only its refusal
unfoldable pub output : (key trace : List ℕ) → List ℕ
output key trace = cond (key_refused key) (refused_line 3) (cond (trace_wrong trace) (refused_line 20) (lines key blank_bench (words_of trace)))
