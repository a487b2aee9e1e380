-- From what an advance answers to what the call on bytes does. Assumes nothing.
use Prim.Native.Nat.{ℕ}
use mathlib.Core.Path.{◌≡◌, refl, sym, ap, ◌∙◌}
use mathlib.Core.Bool.{Bool, true, false, cond, ◌||◌}
use mathlib.Core.Option.{Option, none, some}
use mathlib.Core.List.{List, [], ◌∷◌}
use Rattle.std.proofs.Common.{Ok}
use borrow.Author.Tests.{eq-eqb, ne_eqb}
use lib.ListN.{length}
use Rattle.octets.specs.Limits.{fram_limit}
use Rattle.stops.specs.Stops.{first_of, then_stop}
use Rattle.stops.proofs.Laws.{passes}
use Rattle.ring.specs.Ring.{ring_wrong, page_before}
use Rattle.checkpoint.specs.Fram.{fram_wrong}
use Rattle.memories.specs.Stages.{of_memories}
use Rattle.checkpoint.specs.Checkpoint.{Longer}
use Rattle.protocol.specs.Types.{Phase, EraseFirst, Words, Record, EraseAfter, Done, Origin, Save, PowerUp, Job, Progress, GoingOn, Saved, Restored, Refused, this_firmware}
use Rattle.protocol.specs.Calls.{Sizes, Advances}
use Rattle.protocol.specs.Operations.{Moved, staging_wrong, job_wrong, advance_stop, going_on, finished, ended, recorded, erase_follows, after_record, store, advance_by, advance}
use Rattle.protocol.proofs.Facts.{no_fact}
use Rattle.protocol.proofs.FreeResults.{no_job_wrong}
use Rattle.jobs.specs.declared.types.Progress as answers
use Rattle.jobs.specs.declared.types.Progress.TheVariants as code
use Rattle.jobs.specs.View.{view_progress}
use Rattle.job_bytes.specs.Bytes.{job_length, session_length, job_bytes, no_job_in, job_in}
use Rattle.job_bytes.proofs.BytesLaws.{job_long, unread}
use Rattle.keeper_c.specs.Calls.{Advancing, answer, progress_number, session_after, advances_in, advancing_left, advancing_by, advance_call_stop, advance_call}
use Rattle.keeper_c.specs.Inner.{goes, job_moved}
use Rattle.keeper_c.proofs.Either.{or_false}

-- ---- a store goes on or ends; it does not refuse

finish_goes : (o : Origin) → goes (finished o) ≡ true
unfolding finished
finish_goes Save = refl
finish_goes PowerUp = refl

either_goes : (b : Bool) (x y : Moved) → goes x.progress ≡ true → goes y.progress ≡ true → goes (cond b x y).progress ≡ true
either_goes true x y p q = p
either_goes false x y p q = q

store_goes : (p : Phase) (ring fram : List ℕ) (a : Advances) → goes (store p ring fram a).progress ≡ true
unfolding store going_on ended after_record
store_goes (EraseFirst p) ring fram a = refl
store_goes (Words w) ring fram a = refl
store_goes Record ring fram a =
    let new = recorded ring a.sizes.slots a.job in
    either_goes (erase_follows new a.sizes a.job) (going_on a.job (EraseAfter (page_before a.sizes.pages a.job.page)) new fram) (ended a.job new fram)
    refl (finish_goes a.job.origin)
store_goes (EraseAfter p) ring fram a = finish_goes a.job.origin
store_goes Done ring fram a = finish_goes a.job.origin

job_goes : (p : Progress) (made : Job) (job : List ℕ) → goes p ≡ true → job_moved p made job ≡ job_bytes made
job_goes GoingOn made job e = refl
job_goes Saved made job e = refl
job_goes Restored made job e = refl
job_goes (Refused n) made job e = no_fact (sym e)

-- an answer that is no stop
pub on_goes : (p : answers.Progress) → goes (view_progress (Ok p)) ≡ true
on_goes code.GoingOn = refl
on_goes (code.Saved s) = refl
on_goes (code.Restored s) = refl

pub on_moves : (p : answers.Progress) (made : Job) (job : List ℕ) → job_bytes made ≡ job_moved (view_progress (Ok p)) made job
on_moves code.GoingOn made job = refl
on_moves (code.Saved s) made job = refl
on_moves (code.Restored s) made job = refl

goes_by : (S : Option ℕ) (ring fram : List ℕ) (a : Advances) → goes (advance_by S ring fram a).progress ≡ true → S ≡ none
unfolding advance_by
goes_by none ring fram a e = refl
goes_by (some s) ring fram a e = no_fact (sym e)

-- what an advance leaves in its buffers
left_of : (job session : List ℕ) → Moved → Advancing
left_of job session m = advancing_left (progress_number m.progress) m.ring m.fram (job_moved m.progress m.job job) (session_after m.progress m.session session)

left_by : (S : Option ℕ) (ring fram : List ℕ) (a : Advances) (job session : List ℕ)
    → left_of job session (advance_by S ring fram a) ≡ advancing_by S (advance_by S ring fram a) ring fram job session
unfolding left_of advance_by
left_by (some n) ring fram a job session = refl
left_by none ring fram a job session =
    let m = store a.job.phase ring fram a in
    ap (λ (b : List ℕ). advancing_left (progress_number m.progress) m.ring m.fram b (session_after m.progress m.session session))
    (job_goes m.progress m.job job (store_goes a.job.phase ring fram a))

-- ---- stops

-- a session buffer of another length
bad_stop : (a b w d : Bool) → (k : ℕ) × (first_of ((1, a) ∷ (2, b) ∷ (4, w || true) ∷ (14, d) ∷ []) ≡ some k) × (then_stop (first_of ((1, a) ∷ (2, b) ∷ [])) 4 true ≡ some k)
unfolding first_of
bad_stop true b w d = (1, refl, refl)
bad_stop false true w d = (2, refl, refl)
bad_stop false false true d = (4, refl, refl)
bad_stop false false false d = (4, refl, refl)

-- the job that cannot be read is refused
unread_job : (b : List ℕ) (z : Sizes) (ring fram : List ℕ) → job_wrong Longer (job_in b) z ring fram ≡ false → no_job_in b ≡ false
unread_job b z ring fram e = go (no_job_in b) refl
  where
    go : (u : Bool) → no_job_in b ≡ u → u ≡ false
    go false f = refl
    go true f = no_fact (sym (no_job_wrong Longer z ring fram) ∙ ap (λ (j : Job). job_wrong Longer j z ring fram) (sym (unread b f)) ∙ e)

module _ (ring fram : List ℕ) (z : Sizes) (staging job session : List ℕ) where
  -- the call's stop 4
  pub no_buffer : (length session ≡ session_length → ⊥) → (q : Option ℕ) (r : ℕ) → q ≡ first_of (of_memories z.pages z.slots ring fram)
      → r ≡ answer (then_stop q 4 true) → advancing_left r ring fram job session ≡ advance_call ring fram z staging job session
  unfolding advance_call advance_call_stop
  no_buffer n q r e f =
      let s = bad_stop (ring_wrong z.pages z.slots ring) (fram_wrong fram_limit fram) (staging_wrong staging fram) (job_wrong Longer (job_in job) z ring fram) in
      let h : r ≡ s.0 = f ∙ ap answer (ap (λ (p : Option ℕ). then_stop p 4 true) e ∙ s.2) in
      rw (ne_eqb (length session) session_length n, s.1) (ap (λ (k : ℕ). advancing_left k ring fram job session) h)

  module _ (right : length session ≡ session_length) (M : Moved) (m : M ≡ advance this_firmware ring fram (advances_in z job staging)) where
    stops_alike : advance_call_stop ring fram (advances_in z job staging) session ≡ advance_stop this_firmware ring fram (advances_in z job staging)
    unfolding advance_call_stop advance_stop
    stops_alike = rw (eq-eqb (length session) session_length right, or_false _ false refl)

    -- a job that was moved on was read, so its buffer is as long as a job
    pub held : goes M.progress ≡ true → length job ≡ job_length
    unfolding advance advance_stop
    held e =
        let passed = goes_by (advance_stop this_firmware ring fram (advances_in z job staging)) ring fram (advances_in z job staging) (ap (λ (x : Moved). goes x.progress) (sym m) ∙ e) in
        job_long job (unread_job job z ring fram (passes _ passed).1.1.1.0)

    pub left : (r : ℕ) (job' session' : List ℕ) → r ≡ progress_number M.progress → job' ≡ job_moved M.progress M.job job
        → session' ≡ session_after M.progress M.session session → advancing_left r M.ring M.fram job' session' ≡ advance_call ring fram z staging job session
    unfolding left_of advance advance_call
    left r job' session' h j s =
        (λ i. advancing_left (h i) M.ring M.fram (j i) (s i)) ∙ ap (left_of job session) m
        ∙ left_by (advance_stop this_firmware ring fram (advances_in z job staging)) ring fram (advances_in z job staging) job session
        ∙ ap (λ (o : Option ℕ). advancing_by o (advance this_firmware ring fram (advances_in z job staging)) ring fram job session) (sym stops_alike)
