-- Each view is one to one: two values that stand for one value of the protocol are equal. Assumes nothing.
use Rattle.std.proofs.Common.{◌≡◌, ℕ, List, Result, Ok, Err, refl, sym, ap, ◌∙◌}
use Rattle.stops.specs.declared.Stop.{Stop}
use Rattle.stops.proofs.Laws.{stop_number_injective}
use Rattle.protocol.specs.Types as types
use Rattle.protocol.specs.Operations as operations
use Rattle.jobs.specs.View.{view_phase, view_origin, view_job, view_session, view_progress, session_out, view_moved, view_advanced, view_started}
use Rattle.jobs.specs.declared.types.Phase.{Phase}
use Rattle.jobs.specs.declared.types.Phase.TheVariants.{EraseFirst, Words, Record, EraseAfter, Done}
use Rattle.jobs.specs.declared.types.Origin.{Origin}
use Rattle.jobs.specs.declared.types.Origin.TheVariants.{Save, PowerUp}
use Rattle.jobs.specs.declared.types.Job.{Job}
use Rattle.jobs.specs.declared.types.Session.{Session}
use Rattle.jobs.specs.declared.types.Progress.{Progress}
use Rattle.jobs.specs.declared.types.Progress.TheVariants.{GoingOn, Saved, Restored}
use Rattle.jobs.specs.declared.types.Advanced.{Advanced}

-- ---- jobs and sessions, made again from what they stand for

phase_of : types.Phase → Phase
phase_of (types.EraseFirst p) = EraseFirst p
phase_of (types.Words w) = Words w
phase_of types.Record = Record
phase_of (types.EraseAfter p) = EraseAfter p
phase_of types.Done = Done

phase_again : (x : Phase) → phase_of (view_phase x) ≡ x
unfolding phase_of
phase_again (EraseFirst p) = refl
phase_again (Words w) = refl
phase_again Record = refl
phase_again (EraseAfter p) = refl
phase_again Done = refl

pub phase_one : (x y : Phase) → view_phase x ≡ view_phase y → x ≡ y
phase_one x y e = sym (phase_again x) ∙ ap phase_of e ∙ phase_again y

pub origin_one : (x y : Origin) → view_origin x ≡ view_origin y → x ≡ y
origin_one Save Save e = refl
origin_one Save PowerUp e = cc
origin_one PowerUp Save e = cc
origin_one PowerUp PowerUp e = refl

pub job_one : (x y : Job) → view_job x ≡ view_job y → x ≡ y
job_one x y e = λ i. record {
  phase = phase_one x.phase y.phase (ap (λ (j : types.Job). j.phase) e) i;
  origin = origin_one x.origin y.origin (ap (λ (j : types.Job). j.origin) e) i;
  half = (e i).half;
  length = (e i).length;
  page = (e i).page;
  slot = (e i).slot;
  nonce = (e i).nonce;
  tag = (e i).tag;
  restarts = (e i).restarts;
  packet = (e i).packet;
}

pub session_one : (x y : Session) → view_session x ≡ view_session y → x ≡ y
session_one x y e = λ i. record { page = (e i).page; slot = (e i).slot; latest = (e i).latest; tag = (e i).tag; restarts = (e i).restarts; packet = (e i).packet }

-- ---- answers

pub progress_one : (x y : Result Progress Stop) → view_progress x ≡ view_progress y → session_out x ≡ session_out y → x ≡ y
progress_one (Ok GoingOn) (Ok GoingOn) e f = refl
progress_one (Ok GoingOn) (Ok (Saved t)) e f = cc
progress_one (Ok GoingOn) (Ok (Restored t)) e f = cc
progress_one (Ok GoingOn) (Err t) e f = cc
progress_one (Ok (Saved s)) (Ok GoingOn) e f = cc
progress_one (Ok (Saved s)) (Ok (Saved t)) e f = ap (λ (x : Session). Ok (Saved x)) (session_one s t f)
progress_one (Ok (Saved s)) (Ok (Restored t)) e f = cc
progress_one (Ok (Saved s)) (Err t) e f = cc
progress_one (Ok (Restored s)) (Ok GoingOn) e f = cc
progress_one (Ok (Restored s)) (Ok (Saved t)) e f = cc
progress_one (Ok (Restored s)) (Ok (Restored t)) e f = ap (λ (x : Session). Ok (Restored x)) (session_one s t f)
progress_one (Ok (Restored s)) (Err t) e f = cc
progress_one (Err s) (Ok GoingOn) e f = cc
progress_one (Err s) (Ok (Saved t)) e f = cc
progress_one (Err s) (Ok (Restored t)) e f = cc
progress_one (Err s) (Err t) e f = ap Err (stop_number_injective s t (cc))

-- the answer of an advance of a lent job, with the job and both memories
pub moved_one : (x y : Result Progress Stop) (j k : Job) (ring fram ring' fram' : List ℕ) → view_moved x j ring fram ≡ view_moved y k ring' fram'
    → (x ≡ y) × (j ≡ k) × (ring ≡ ring') × (fram ≡ fram')
moved_one x y j k ring fram ring' fram' e = (
  progress_one x y (ap (λ (m : operations.Moved). m.progress) e) (ap (λ (m : operations.Moved). m.session) e),
  job_one j k (ap (λ (m : operations.Moved). m.job) e),
  (λ i. (e i).ring),
  (λ i. (e i).fram),
)

-- that of an advance by value
pub advanced_one : (j : Job) (x y : Result Advanced Stop) (ring fram ring' fram' : List ℕ) → view_advanced j x ring fram ≡ view_advanced j y ring' fram'
    → (x ≡ y) × (ring ≡ ring') × (fram ≡ fram')
advanced_one j (Ok x) (Ok y) ring fram ring' fram' e =
    let m = moved_one (Ok x.progress) (Ok y.progress) x.job y.job ring fram ring' fram' e in
    (ap Ok (λ i. record { progress = ok_one x.progress y.progress m.0 i; job = m.1 i }), m.2, m.3)
  where
    progress_in : Progress → Result Progress Stop → Progress
    progress_in d (Ok p) = p
    progress_in d (Err s) = d

    ok_one : (p q : Progress) → ◌≡◌ {A = Result Progress Stop} (Ok p) (Ok q) → p ≡ q
    ok_one p q e = ap (progress_in p) e
advanced_one j (Ok x) (Err t) ring fram ring' fram' e =
    let m = moved_one (Ok x.progress) (Err t) x.job j ring fram ring' fram' e in
    absurd (different x.progress t m.0)
  where
    different : (p : Progress) (t : Stop) → ◌≡◌ {A = Result Progress Stop} (Ok p) (Err t) → ⊥
    different p t e = cc
advanced_one j (Err s) (Ok y) ring fram ring' fram' e =
    let m = moved_one (Err s) (Ok y.progress) j y.job ring fram ring' fram' e in
    absurd (different s y.progress m.0)
  where
    different : (s : Stop) (p : Progress) → ◌≡◌ {A = Result Progress Stop} (Err s) (Ok p) → ⊥
    different s p e = cc
advanced_one j (Err s) (Err t) ring fram ring' fram' e =
    let m = moved_one (Err s) (Err t) j j ring fram ring' fram' e in
    (ap Err (stop_number_injective s t (cc)), m.2, m.3)

-- and that of a save
pub started_one : (x y : Result Job Stop) (staging staging' : List ℕ) → view_started x staging ≡ view_started y staging' → (x ≡ y) × (staging ≡ staging')
started_one (Ok x) (Ok y) staging staging' e = (ap Ok (job_one x y (ap (λ (b : operations.Begin). b.job) e)), (λ i. (e i).staging))
started_one (Ok x) (Err t) staging staging' e = let f = ap (λ (b : operations.Begin). b.answer) e in cc
started_one (Err s) (Ok y) staging staging' e = let f = ap (λ (b : operations.Begin). b.answer) e in cc
started_one (Err s) (Err t) staging staging' e =
    let f = ap (λ (b : operations.Begin). b.answer) e in
    (ap Err (stop_number_injective s t (cc)), (λ i. (e i).staging))
