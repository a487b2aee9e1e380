-- Where a save with a starting tag begins (document 01: "half A, page 0, slot 0"), and the order of a checkpoint's words (document 01: "Words go from
-- front to back"). Assumes nothing.
use Prim.Native.Nat.{ℕ, ◌+◌, ◌*◌, ◌<◌, ◌%◌}
use mathlib.Core.Path.{◌≡◌, refl, ap, subst, ◌∙◌}
use mathlib.Core.Bool.{Bool, true, false, cond}
use mathlib.Core.Logic.{◌⊎◌, inl, inr}
use mathlib.Core.Option.{Option, none, some}
use mathlib.Core.List.{List, []}
use native.Mathlib.Omega.{arith}
use lib.Dec.{eqb}
use borrow.Author.Tests.{eqb-true, eqb-false, leb-false, not-false}
use Rattle.stops.proofs.Laws.{neither}
use Rattle.checkpoint.specs.Checkpoint.{Form, Checkpoint}
use Rattle.protocol.specs.Types.{Firmware, Phase, Words, Record, Job, Begun, Save}
use Rattle.protocol.specs.Calls.{Sizes, from_tag, SaveArguments, saves, Advances}
use Rattle.protocol.specs.Operations.{begin, job_of, save_checkpoint, save_target, save_stop, save, in_phase, phase_wrong, job_wrong, going_on, store, advance_stop, advance_by, advance}
use Rattle.protocol.proofs.Advancing.{job_passes}

-- ---- a save with a starting tag

begin_job : (o : Option ℕ) (key : List ℕ) (c : Checkpoint) (job : Job) (staging state secret : List ℕ)
    → (begin o key c job staging state secret).answer ≡ Begun → (begin o key c job staging state secret).job ≡ job
unfolding begin
begin_job none key c job staging state secret e = refl
begin_job (some x) key c job staging state secret e = absurd (let z : ◌≡◌ {A = ℕ} 0 1 = cc in omega arith)

-- one that begins answers a job whose next store is word 0 of half A, and whose target is page 0, slot 0
pub first_target : (firmware : Firmware) (ring fram : List ℕ) (a : SaveArguments) (tag : List ℕ)
    → (let b = save firmware ring fram (saves a (from_tag tag)) in
    b.answer ≡ Begun → (b.job.phase ≡ Words 0) × (b.job.half ≡ 0) × (b.job.page ≡ 0) × (b.job.slot ≡ 0))
unfolding save save_target job_of
first_target firmware ring fram a tag e =
    let c = save_checkpoint firmware.form (saves a (from_tag tag)) in
    let j = begin_job (save_stop firmware ring fram (saves a (from_tag tag))) a.key c (job_of a.key c (Words 0) Save 0 0 0) a.staging [] [] e in
    (ap (λ (y : Job). y.phase) j, ap (λ (y : Job). y.half) j, ap (λ (y : Job). y.page) j, ap (λ (y : Job). y.slot) j)

-- ---- words

word_step : (w : ℕ) (ring fram : List ℕ) (a : Advances) (b : Bool) → eqb (4 * (w + 1)) a.job.length ≡ b
    → (store (Words w) ring fram a).job ≡ in_phase a.job (cond b Record (Words (w + 1)))
unfolding store going_on
word_step w ring fram a b e = ap (λ (t : Bool). in_phase a.job (cond t Record (Words (w + 1)))) e

word_stored : (firmware : Firmware) (ring fram : List ℕ) (a : Advances) (w : ℕ) → a.job.phase ≡ Words w → advance_stop firmware ring fram a ≡ none
    → (advance firmware ring fram a).job ≡ (store (Words w) ring fram a).job
unfolding advance advance_by
word_stored firmware ring fram a w p e = rw (e, p)

-- a job in order is whole words long, and word w is one of them
word_fits : (form : Form) (j : Job) (z : Sizes) (ring fram : List ℕ) (w : ℕ) → job_wrong form j z ring fram ≡ false → j.phase ≡ Words w → (j.length % 4 ≡ 0) × (4 * w < j.length)
unfolding job_wrong phase_wrong
word_fits form j z ring fram w e p =
    let a = neither _ _ e in
    let b = neither _ _ a.0 in
    let c = neither _ _ b.0 in
    let d = neither _ _ c.0 in
    let f = neither _ _ d.0 in
    let g = neither _ _ f.0 in (
      eqb-true (j.length % 4) 0 (not-false _ g.0),
      leb-false j.length (4 * w) (subst (λ (q : Phase). phase_wrong q j z ring ≡ false) p a.1),
    )

-- an advance at word w that does not stop leaves word w + 1 to come, or the record if w was the last word
pub words_in_order : (firmware : Firmware) (ring fram : List ℕ) (a : Advances) (w : ℕ) → a.job.phase ≡ Words w → advance_stop firmware ring fram a ≡ none
    → ((4 * (w + 1) < a.job.length) × ((advance firmware ring fram a).job ≡ in_phase a.job (Words (w + 1))))
    ⊎ ((4 * (w + 1) ≡ a.job.length) × ((advance firmware ring fram a).job ≡ in_phase a.job Record))
words_in_order firmware ring fram a w p e = go (eqb (4 * (w + 1)) a.job.length) refl
  where
    fits : (a.job.length % 4 ≡ 0) × (4 * w < a.job.length)
    fits = word_fits firmware.form a.job a.sizes ring fram w (job_passes firmware ring fram a e) p

    go : (b : Bool) → eqb (4 * (w + 1)) a.job.length ≡ b
        → ((4 * (w + 1) < a.job.length) × ((advance firmware ring fram a).job ≡ in_phase a.job (Words (w + 1))))
        ⊎ ((4 * (w + 1) ≡ a.job.length) × ((advance firmware ring fram a).job ≡ in_phase a.job Record))
    go true q = inr (eqb-true _ _ q, word_stored firmware ring fram a w p e ∙ word_step w ring fram a true q)
    go false q = inl (omega (arith, eqb-false (4 * (w + 1)) a.job.length q, fits.0, fits.1), word_stored firmware ring fram a w p e ∙ word_step w ring fram a false q)
