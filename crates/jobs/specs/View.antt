-- What jobs, sessions and the answers of starts and advances stand for (document 01, "What the unit calls"): for each case of each enum and for each struct the number or value of the crate `protocol`.
-- A stop stands for its number in document 01's table.
use Rattle.std.specs.Prelude.{ℕ, List, [], Result, Ok, Err}
use Rattle.stops.specs.declared.Stop.{Stop}
use Rattle.stops.specs.View.{stop_number}
use Rattle.protocol.specs.Types as types
use Rattle.protocol.specs.Calls as calls
use Rattle.protocol.specs.Operations as operations
use Rattle.jobs.specs.declared.types.Phase.{Phase}
use Rattle.jobs.specs.declared.types.Phase.TheVariants.{EraseFirst, Words, Record, EraseAfter, Done}
use Rattle.jobs.specs.declared.types.Origin.{Origin}
use Rattle.jobs.specs.declared.types.Origin.TheVariants.{Save, PowerUp}
use Rattle.jobs.specs.declared.types.Job.{Job}
use Rattle.jobs.specs.declared.types.Session.{Session}
use Rattle.jobs.specs.declared.types.Progress.{Progress}
use Rattle.jobs.specs.declared.types.Progress.TheVariants.{GoingOn, Saved, Restored}
use Rattle.jobs.specs.declared.types.Advanced.{Advanced}

-- ---- jobs and sessions

abbrev pub view_phase : Phase → types.Phase
view_phase (EraseFirst p) = types.EraseFirst p
view_phase (Words w) = types.Words w
view_phase Record = types.Record
view_phase (EraseAfter p) = types.EraseAfter p
view_phase Done = types.Done

abbrev pub view_origin : Origin → types.Origin
view_origin Save = types.Save
view_origin PowerUp = types.PowerUp

abbrev pub view_job : Job → types.Job
view_job j = record {
  phase = view_phase j.phase;
  origin = view_origin j.origin;
  half = j.half;
  length = j.length;
  page = j.page;
  slot = j.slot;
  nonce = j.nonce;
  tag = j.tag;
  restarts = j.restarts;
  packet = j.packet;
}

abbrev pub view_session : Session → types.Session
view_session s = record { page = s.page; slot = s.slot; latest = s.latest; tag = s.tag; restarts = s.restarts; packet = s.packet }

-- ---- answers, with what the lent buffers then hold

-- what an advance says: a stop is a refusal
abbrev pub view_progress : Result Progress Stop → types.Progress
view_progress (Ok GoingOn) = types.GoingOn
view_progress (Ok (Saved s)) = types.Saved
view_progress (Ok (Restored s)) = types.Restored
view_progress (Err s) = types.Refused (stop_number s)

-- the session that it hands out: all zeros where it hands out none
abbrev pub session_out : Result Progress Stop → types.Session
session_out (Ok GoingOn) = operations.no_session
session_out (Ok (Saved s)) = view_session s
session_out (Ok (Restored s)) = view_session s
session_out (Err s) = operations.no_session

-- an advance of a lent job leaves the job where it lives
abbrev pub view_moved : Result Progress Stop → Job → List ℕ → List ℕ → operations.Moved
view_moved a job ring fram = record { progress = view_progress a; job = view_job job; session = session_out a; ring = ring; fram = fram }

-- an advance of a job by value answers the job moved on; where it stops, the caller's is the job
abbrev pub view_advanced : Job → Result Advanced Stop → List ℕ → List ℕ → operations.Moved
view_advanced job (Ok a) ring fram = view_moved (Ok a.progress) a.job ring fram
view_advanced job (Err s) ring fram = view_moved (Err s) job ring fram

-- a save has no state buffer, and restores nothing; where it stops there is no job
abbrev pub view_started : Result Job Stop → List ℕ → operations.Begin
view_started (Ok j) staging = record { answer = types.Begun; job = view_job j; secret_length = 0; staging = staging; state = [] }
view_started (Err s) staging = record { answer = types.Stopped (stop_number s); job = operations.no_job; secret_length = 0; staging = staging; state = [] }

-- ---- arguments

abbrev pub advances : ℕ → ℕ → Job → List ℕ → calls.Advances
advances pages slots job staging = record { sizes = calls.sizes pages slots; job = view_job job; staging = staging }
