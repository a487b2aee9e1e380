-- From what a start answers to what the call with a buffer for the job does. Assumes nothing.
use Prim.Native.Nat.{ℕ}
use mathlib.Core.Path.{◌≡◌, refl, ap, ◌∙◌}
use mathlib.Core.Bool.{true, false}
use mathlib.Core.Option.{Option, none, some}
use mathlib.Core.List.{List, []}
use borrow.Author.Tests.{eq-eqb, ne_eqb}
use lib.ListN.{length}
use Rattle.stops.specs.Stops.{then_stop}
use Rattle.checkpoint.specs.Checkpoint.{Checkpoint}
use Rattle.protocol.specs.Types.{Job, this_firmware}
use Rattle.protocol.specs.Calls.{Saves, PowersUp}
use Rattle.protocol.specs.Operations.{Begin, begin, save_stop, save, power_up_stop, power_up}
use Rattle.job_bytes.specs.Bytes.{job_length}
use Rattle.keeper_c.specs.Calls.{Starting, answer, with_job, starting_left, saving_left, starting_by, save_call, power_up_call}
use Rattle.keeper_c.specs.Inner.{start_number, job_after, length_after}

-- a buffer for the job that has another length
bad_by : (S : Option ℕ) (b : Begin) (staging state job : List ℕ) (k r : ℕ) → r ≡ answer (then_stop S 14 true)
    → starting_left r staging state job k ≡ starting_by (then_stop S 14 true) b staging state job k
bad_by none b staging state job k r e = ap (λ (n : ℕ). starting_left n staging state job k) e
bad_by (some s) b staging state job k r e = ap (λ (n : ℕ). starting_left n staging state job k) e

bad : (S : Option ℕ) (b : Begin) (staging state job : List ℕ) (k : ℕ) → (length job ≡ job_length → ⊥) → (p : Option ℕ) (r : ℕ) → p ≡ S → r ≡ answer (then_stop p 14 true)
    → starting_left r staging state job k ≡ starting_by (with_job S job) b staging state job k
bad S b staging state job k n p r e f =
    rw (ne_eqb (length job) job_length n) (bad_by S b staging state job k r (f ∙ ap (λ (q : Option ℕ). answer (then_stop q 14 true)) e))

-- one of the right length
left_of : (job : List ℕ) (k : ℕ) → Begin → Starting
left_of job k b = starting_left (start_number b.answer) b.staging b.state (job_after b.answer b.job job) (length_after b.answer b.secret_length k)

good_by : (S : Option ℕ) (key : List ℕ) (c : Checkpoint) (j : Job) (staging state secret job : List ℕ) (k : ℕ)
    → left_of job k (begin S key c j staging state secret) ≡ starting_by (then_stop S 14 false) (begin S key c j staging state secret) staging state job k
unfolding left_of begin
good_by none key c j staging state secret job k = refl
good_by (some s) key c j staging state secret job k = refl

good : (S : Option ℕ) (key : List ℕ) (c : Checkpoint) (j : Job) (staging state secret job : List ℕ) (k : ℕ) → length job ≡ job_length
    → (B : Begin) → B ≡ begin S key c j staging state secret → (r k' : ℕ) (job' : List ℕ)
    → r ≡ start_number B.answer → job' ≡ job_after B.answer B.job job → k' ≡ length_after B.answer B.secret_length k
    → starting_left r B.staging B.state job' k' ≡ starting_by (with_job S job) (begin S key c j staging state secret) staging state job k
unfolding left_of
good S key c j staging state secret job k l B m r k' job' h g n =
    rw (eq-eqb (length job) job_length l) ((λ i. starting_left (h i) B.staging B.state (g i) (n i)) ∙ ap (left_of job k) m ∙ good_by S key c j staging state secret job k)

-- ---- both starts

module _ (ring fram job : List ℕ) where
  pub save_bad : (a : Saves) → (length job ≡ job_length → ⊥) → (p : Option ℕ) (r : ℕ) → p ≡ save_stop this_firmware ring fram a → r ≡ answer (then_stop p 14 true)
      → saving_left r a.arguments.staging job ≡ save_call ring fram a job
  unfolding save_call
  save_bad a n p r = bad (save_stop this_firmware ring fram a) (save this_firmware ring fram a) a.arguments.staging [] job 0 n p r

  pub power_up_bad : (a : PowersUp) (k : ℕ) → (length job ≡ job_length → ⊥) → (p : Option ℕ) (r : ℕ) → p ≡ power_up_stop this_firmware ring fram a → r ≡ answer (then_stop p 14 true)
      → starting_left r a.staging a.state job k ≡ power_up_call ring fram a job k
  unfolding power_up_call
  power_up_bad a k n p r = bad (power_up_stop this_firmware ring fram a) (power_up this_firmware ring fram a) a.staging a.state job k n p r

  module _ (l : length job ≡ job_length) (B : Begin) (r : ℕ) (job' : List ℕ) where
    pub save_good : (a : Saves) → B ≡ save this_firmware ring fram a → r ≡ start_number B.answer → job' ≡ job_after B.answer B.job job
        → 0 ≡ length_after B.answer B.secret_length 0 → starting_left r B.staging B.state job' 0 ≡ save_call ring fram a job
    unfolding save_call save
    save_good a m h g n = good _ _ _ _ _ _ _ job 0 l B m r 0 job' h g n

    pub power_up_good : (a : PowersUp) (k k' : ℕ) → B ≡ power_up this_firmware ring fram a → r ≡ start_number B.answer → job' ≡ job_after B.answer B.job job
        → k' ≡ length_after B.answer B.secret_length k → starting_left r B.staging B.state job' k' ≡ power_up_call ring fram a job k
    unfolding power_up_call power_up
    power_up_good a k k' m h g n = good _ _ _ _ _ _ _ job k l B m r k' job' h g n
