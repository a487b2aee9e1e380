-- What a start and an advance leave behind each pointer, by what they say, and what the bytes of `from` are; no call's contract names it.
use Rattle.std.specs.Prelude.{ℕ, Bool, true, false, cond, List, eqb, length}
use Rattle.protocol.specs.Types.{Job, Start, Begun, Stopped, Progress, GoingOn, Saved, Restored, Refused}
use Rattle.protocol.specs.Calls.{From, from_tag, from_session}
use Rattle.saves.specs.View.{whole_tag}
use Rattle.job_bytes.specs.Bytes.{session_length, job_bytes, session_in}

-- ---- a start

-- what a save follows, with a starting tag of another length as an empty one
abbrev pub whole_from : List ℕ → From
whole_from b = cond (eqb (length b) session_length) (from_session (session_in b)) (from_tag (whole_tag b))

-- 0, or the number of a stop
abbrev pub start_number : Start → ℕ
start_number Begun = 0
start_number (Stopped n) = n

-- what a start leaves in the buffer for its job, and behind the pointer to the secret part's length
abbrev pub job_after : Start → Job → List ℕ → List ℕ
job_after Begun made job = job_bytes made
job_after (Stopped n) made job = job

abbrev pub length_after : Start → ℕ → ℕ → ℕ
length_after Begun restored stood = restored
length_after (Stopped n) restored stood = stood

-- ---- an advance

-- not a refusal
abbrev pub goes : Progress → Bool
goes GoingOn = true
goes Saved = true
goes Restored = true
goes (Refused n) = false

-- what an advance leaves in the buffer of its job
abbrev pub job_moved : Progress → Job → List ℕ → List ℕ
job_moved GoingOn made job = job_bytes made
job_moved Saved made job = job_bytes made
job_moved Restored made job = job_bytes made
job_moved (Refused n) made job = job
