-- The cut rule for traces (document 02, A.4): a trace as a list of calls and power losses of the theorem Recovery, and what that theorem says of
-- the memories that the trace leaves.
use Rattle.std.specs.Prelude.{ℕ, zero, suc, ◌≡◌, false, cond, eqb}
use Rattle.std.proofs.Math.Option.{Option, none, some}
use mathlib.Core.List.{List, [], ◌∷◌, ◌++◌, Memᴰ}
use Rattle.octets.specs.Word.{top_kind, low_value}
use Rattle.protocol.specs.Types.{Session, Start, Begun, Stopped, this_firmware}
use Rattle.protocol.specs.Calls.{Advances, PowersUp, from_session, Setup, Event, saved, powered_up, advanced_by, PowerLoss, updated_to, lost_in_store}
use Rattle.protocol.specs.Operations.{no_session, save, power_up, advance}
use Rattle.protocol.specs.History as history
use Rattle.protocol.specs.History.{State, Handed, fresh, is_stopped, refused, run, Allowed}
use Rattle.protocol.specs.Recovery.{is_going, with_handed, Exactly, Seen, Last, Outcome}
use Rattle.ring_line.specs.Text.{refused_line, ring_text}
use Rattle.trace_words.specs.Words.{is_cut}
use Rattle.trace.specs.Trace.{bench_pages, bench_slots, bench_sizes, bench_staging, nonce_of, saving, zero_tag, powering_up, start, stores_until, Bench, operation, step, after, lines, blank_bench, key_refused}

abbrev pub bench_setup : (key : List ℕ) → Setup
bench_setup key = record { sizes = bench_sizes; key = key }

-- ---- the events of a trace

-- a save without a session stands in the list as one that every unit refuses
abbrev pub given : Option Session → Session
given none = no_session
given (some z) = z

-- the call that begins the operation of a word
unfoldable pub call : (key : List ℕ) → Option Session → ℕ → Event
call key session w =
    cond (eqb (top_kind w) 1) (saved (saving key (low_value w) bench_staging zero_tag))
    (cond (eqb (top_kind w) 2) (saved (saving key (low_value w) bench_staging (from_session (given session))))
    (powered_up (powering_up key (low_value w) bench_staging)))

abbrev pub advance_of : Handed → Advances
advance_of h = record { sizes = bench_sizes; job = h.job; staging = h.staging }

-- at most n advances of the job handed out last, while it is going on
unfoldable pub advances_while : (key : List ℕ) → ℕ → State → List Event
advances_while key zero s = []
advances_while key (suc n) s = with_handed s.handed (λ h.
    let e = advanced_by (advance_of h) in
    e ∷ cond (is_going (advance s.firmware s.ring s.fram (advance_of h)).progress) (advances_while key n (history.step (bench_setup key) s e)) [])

unfoldable pub loss_if : Option ℕ → List Event
loss_if none = []
loss_if (some n) = PowerLoss ∷ []

-- an operation's call, its advances, and the power loss if a cut is set
unfoldable pub operation_events : (key : List ℕ) → Bench → State → ℕ → List Event
operation_events key b s w =
    let e = call key b.session w in
    (e ∷ cond (refused s e) [] (advances_while key (stores_until b.cut) (history.step (bench_setup key) s e))) ++ loss_if b.cut

unfoldable pub events_of : (key : List ℕ) → Bench → State → List ℕ → List Event
events_of key b s [] = []
events_of key b s (w ∷ more) =
    let events = cond (is_cut w) [] (operation_events key b s w) in
    events ++ events_of key (step key b w) (run (bench_setup key) s events) more

-- ---- the lines, from what the list's calls answer

-- what a start answers; it is asked of no other event
unfoldable pub call_answer : State → Event → Start
call_answer s (saved a) = (save s.firmware s.ring s.fram a).answer
call_answer s (powered_up a) = (power_up s.firmware s.ring s.fram a).answer
call_answer s (advanced_by a) = Begun
call_answer s PowerLoss = Begun
call_answer s (updated_to firmware) = Begun
call_answer s (lost_in_store left) = Begun

-- of a call that begins, the line of the ring that the operation leaves
unfoldable pub call_line : Start → State → List ℕ
call_line Begun t = ring_text bench_pages bench_slots t.ring
call_line (Stopped n) t = refused_line n

unfoldable pub list_lines : (key : List ℕ) → Bench → State → List ℕ → List ℕ
list_lines key b s [] = []
list_lines key b s (w ∷ more) =
    let events = cond (is_cut w) [] (operation_events key b s w) in
    let t = run (bench_setup key) s events in
    cond (is_cut w) [] (call_line (call_answer s (call key b.session w)) t) ++ list_lines key (step key b w) t more

-- ---- the theorem

-- the nonces of a trace's operations, refused ones included
unfoldable pub nonces : List ℕ → List (List ℕ)
nonces [] = []
nonces (w ∷ more) = cond (is_cut w) (nonces more) (nonce_of (low_value w) ∷ nonces more)

unfoldable pub AllDiffer : List (List ℕ) → Type 0
AllDiffer [] = Unit {0}
AllDiffer (n ∷ more) = (Memᴰ n more → ⊥) × AllDiffer more

unfoldable pub blank_state : State
blank_state = fresh this_firmware blank_bench.ring blank_bench.fram

abbrev pub trace_events : (key words : List ℕ) → List Event
trace_events key words = events_of key blank_bench blank_state words

-- the state of the theorem Recovery after a trace
abbrev pub state_after : (key words : List ℕ) → State
state_after key words = run (bench_setup key) blank_state (trace_events key words)

-- the list keeps the rules, leaves the trace's memories and answers its lines, and so the theorem's conclusion holds of them
pub record Ruled (key words : List ℕ) : Type 0 where
  pub allowed : Allowed (bench_setup key) blank_state (trace_events key words)
  pub firmware : (state_after key words).firmware ≡ this_firmware
  pub ring : (state_after key words).ring ≡ (after key blank_bench words).ring
  pub fram : (state_after key words).fram ≡ (after key blank_bench words).fram
  pub printed : lines key blank_bench words ≡ list_lines key blank_bench blank_state words
  pub exactly : Exactly (bench_setup key) blank_state (trace_events key words)
  pub seen : Seen (bench_setup key) (state_after key words)
  pub outcome : (a : PowersUp) → Last (bench_setup key) (state_after key words) a → Outcome (bench_setup key) (state_after key words) a
  -- and of the power-up of a next word, if its nonce differs too
  pub next : (w : ℕ) → is_cut w ≡ false → AllDiffer (nonces (words ++ w ∷ [])) → Outcome (bench_setup key) (state_after key words) (powering_up key (low_value w) bench_staging)
  -- the next word's operation, once it has begun, is stopped at no store
  pub unstopped : (w : ℕ) → is_cut w ≡ false → AllDiffer (nonces (words ++ w ∷ [])) → let b = after key blank_bench words in
      (start key b.ring b.fram b.session w bench_staging).answer ≡ Begun → is_stopped (operation key b w).progress ≡ false

-- of every key that is not refused, and every list of words whose nonces all differ, those that pass the check among them
unfoldable pub TraceRecovery : Type 0
TraceRecovery = (key : List ℕ) → key_refused key ≡ false → (words : List ℕ) → AllDiffer (nonces words) → Ruled key words

-- ---- of every key and every trace, with repeated nonces too

-- wherever a trace has come to, the next operation is not left in the midst of its stores if no cut is set: `most_stores` are enough
unfoldable pub RunsToItsEnd : Type 0
RunsToItsEnd = (key words : List ℕ) (w : ℕ) → (after key blank_bench words).cut ≡ none → is_going (operation key (after key blank_bench words) w).progress ≡ false
