-- What the code's values stand for.
use Rattle.std.specs.Prelude.{ℕ, ◌+◌, ◌≤◌, List, [], ◌≡◌, length, Result, Ok, Err}
use Rattle.std.specs.Prelude as code
use Rattle.std.proofs.Math.Option.{Option, none, some}
use Rattle.octets.specs.Octets.{put}
use Rattle.stops.specs.declared.Stop.{Stop}
use Rattle.stops.specs.View.{stop_number}
use Rattle.protocol.specs.Types as types
use Rattle.protocol.specs.Operations.{Begin, Moved, no_job}
use Rattle.jobs.specs.View.{view_session, view_progress, session_out, view_started}
use Rattle.jobs.specs.declared.types.Job.{Job}
use Rattle.jobs.specs.declared.types.Progress.{Progress}
use Rattle.jobs.specs.declared.types.Session.{Session}
use Rattle.ring_line.specs.Line.{line_limit}
use Rattle.trace.specs.Trace.{Bench, step, after, printed, lines, blank_bench, Run}
use Rattle.trace.specs.declared.unit.Unit.{Unit}

-- the session, if there is one
abbrev pub view_held : code.Option Session → Option types.Session
view_held code.None = none
view_held (code.Some z) = some (view_session z)

-- the cut, if one is set
abbrev pub view_cut : code.Option ℕ → Option ℕ
view_cut code.None = none
view_cut (code.Some n) = some n

-- the unit, with what its memories hold
abbrev pub view_unit : Unit → List ℕ → List ℕ → Bench
view_unit u ring fram = record { ring = ring; fram = fram; session = view_held u.session; cut = view_cut u.cut }

-- what a word did to the unit, and the line that was written at an offset of the text
pub record Stepped (key : List ℕ) (b : Bench) (w : ℕ) (text : List ℕ) (at : ℕ) (b' : Bench) (end : ℕ) (text' : List ℕ) : Type 0 where
  pub unit : b' ≡ step key b w
  pub line_put : text' ≡ put text at (printed key b w)
  pub ends : end ≡ at + length (printed key b w)
  pub short : length (printed key b w) ≤ line_limit

-- what a start answers, with what it left in staging
pub record Starts (r : Result Job Stop) (staging : List ℕ) (b : Begin) : Type 0 where
  pub answer : (view_started r staging).answer ≡ b.answer
  pub job : (view_started r staging).job ≡ b.job
  pub sealed : staging ≡ b.staging

-- what an operation answers, with what it left in the memories
pub record Leaves (r : Result Progress Stop) (ring' fram' : List ℕ) (m : Moved) : Type 0 where
  pub progress : view_progress r ≡ m.progress
  pub session : session_out r ≡ m.session
  pub ring : ring' ≡ m.ring
  pub fram : fram' ≡ m.fram

-- the answer alone
abbrev pub said : Result Progress Stop → Moved
said r = record { progress = view_progress r; job = no_job; session = session_out r; ring = []; fram = [] }

-- the answer, with what the lent buffers then hold
abbrev pub view_traced : Result ℕ Stop → List ℕ → List ℕ → List ℕ → Run
view_traced (Ok n) ring fram text = record { stop = none; written = n; ring = ring; fram = fram; text = text }
view_traced (Err s) ring fram text = record { stop = some (stop_number s); written = 0; ring = ring; fram = fram; text = text }

-- the words were run on the blank bench, and their lines written to the front of a text
pub record Ran (key words text : List ℕ) (written : ℕ) (ring' fram' text' : List ℕ) : Type 0 where
  pub ring : ring' ≡ (after key blank_bench words).ring
  pub fram : fram' ≡ (after key blank_bench words).fram
  pub lines_put : text' ≡ put text 0 (lines key blank_bench words)
  pub long : written ≡ length (lines key blank_bench words)
  pub fits : written ≤ length text
