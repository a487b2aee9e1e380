-- What holds of a job, its staging buffer and the memories where an advance does not stop. Assumes nothing.
use Prim.Native.Nat.{ℕ, ◌+◌, ◌*◌, ◌/◌, ◌%◌, ◌≤◌, ◌<◌}
use mathlib.Core.Path.{◌≡◌, refl, sym, ap, ◌∙◌}
use mathlib.Core.Bool.{Bool, true, false, not, ◌||◌}
use mathlib.Core.Option.{none, some}
use mathlib.Core.List.{List, [], ◌∷◌}
use native.Mathlib.Omega.{arith}
use lib.ListN.{length}
use lib.Dec.{eqb, leb, ltb}
use borrow.Author.Tests.{eqb-true, leb-false, leb-true, ltb-false, not-false, le-leb, lt-leb}
use Rattle.octets.specs.Limits.{slot_length, fram_limit}
use Rattle.stops.specs.Stops.{first_of, then_stop}
use Rattle.stops.proofs.Laws.{passes, neither, tried, first_append}
use Rattle.ring.specs.Ring.{ring_wrong}
use Rattle.ring.proofs.SizeLaws.{sized, page_ends, slot_ends}
use Rattle.checkpoint.specs.Fram.{fram_wrong, half_length}
use Rattle.checkpoint.specs.Checkpoint.{Longer, empty_length}
use Rattle.checkpoint.proofs.FramLaws.{an_image, half_within}
use Rattle.memories.specs.Stages.{of_memories}
use Rattle.protocol.specs.Types.{Phase, EraseFirst, Words, EraseAfter, Job, this_firmware}
use Rattle.protocol.specs.Calls.{Sizes, Advances}
use Rattle.protocol.specs.Operations.{staging_wrong, phase_wrong, job_wrong, advance_stop, Moved, store}

-- whether word w lies behind a length of whole words
pub words_left : (n w : ℕ) → n % 4 ≡ 0 → leb (n / 4) w ≡ leb n (4 * w)
words_left n w e = go (leb (n / 4) w) refl
  where
    go : (b : Bool) → leb (n / 4) w ≡ b → b ≡ leb n (4 * w)
    go true h = let l : n / 4 ≤ w = leb-true (n / 4) w h in sym (le-leb n (4 * w) (omega arith))
    go false h = let l : w < n / 4 = leb-false (n / 4) w h in sym (lt-leb n (4 * w) (omega arith))

-- the tests of stop 14 on a job's numbers, whatever its phase
abbrev pub numbers_wrong : Job → Sizes → List ℕ → Bool
numbers_wrong j z fram =
    not (eqb (j.length % 4) 0) || ltb j.length (empty_length Longer) || ltb (half_length fram) j.length ||
    leb z.pages j.page || leb z.slots j.slot || ltb 1 j.half

pub record Placed (j : Job) (z : Sizes) (fram : List ℕ) : Type 0 where
  pub words : j.length % 4 ≡ 0
  pub long : empty_length Longer ≤ j.length
  pub fits : j.length ≤ half_length fram
  pub page : j.page < z.pages
  pub slot : j.slot < z.slots
  pub half : j.half < 2

pub placed : (j : Job) (z : Sizes) (fram : List ℕ) → numbers_wrong j z fram ≡ false → Placed j z fram
placed j z fram e =
    let half = neither _ _ e in
    let slot = neither _ _ half.0 in
    let page = neither _ _ slot.0 in
    let fits = neither _ _ page.0 in
    let long = neither _ _ fits.0 in
    record {
      words = eqb-true (j.length % 4) 0 (not-false _ long.0);
      long = ltb-false j.length (empty_length Longer) long.1;
      fits = ltb-false (half_length fram) j.length fits.1;
      page = leb-false z.pages j.page page.1;
      slot = leb-false z.slots j.slot slot.1;
      half = let h : j.half ≤ 1 = ltb-false 1 j.half half.1 in omega arith;
    }

pub record Ready (j : Job) (z : Sizes) (ring fram staging : List ℕ) : Type 0 where
  pub ring_right : ring_wrong z.pages z.slots ring ≡ false
  pub fram_right : fram_wrong fram_limit fram ≡ false
  pub staging_long : half_length fram ≤ length staging
  pub numbers : Placed j z fram
  pub phase_right : phase_wrong j.phase j z ring ≡ false

pub ready : (ring fram : List ℕ) (a : Advances) → advance_stop this_firmware ring fram a ≡ none → Ready a.job a.sizes ring fram a.staging
unfolding advance_stop job_wrong staging_wrong
ready ring fram a e =
    let p = passes _ e in
    let n = neither (numbers_wrong a.job a.sizes fram) (phase_wrong a.job.phase a.job a.sizes ring) p.1.1.1.0 in
    record {
      ring_right = p.0;
      fram_right = p.1.0;
      staging_long = ltb-false (length a.staging) (half_length fram) p.1.1.0;
      numbers = placed a.job a.sizes fram n.0;
      phase_right = n.1;
    }

module _ {j : Job} {z : Sizes} {ring fram staging : List ℕ} (r : Ready j z ring fram staging) where
  page_ready : (p : ℕ) → leb z.pages p ≡ false → slot_length * (p * z.slots) + slot_length * z.slots ≤ length ring
  page_ready p h = page_ends (sized z.pages z.slots ring r.ring_right) p (leb-false z.pages p h)

  pub first_ready : (p : ℕ) → j.phase ≡ EraseFirst p → slot_length * (p * z.slots) + slot_length * z.slots ≤ length ring
  unfolding phase_wrong
  first_ready p e = page_ready p (rw e at r.phase_right)

  pub after_ready : (p : ℕ) → j.phase ≡ EraseAfter p → slot_length * (p * z.slots) + slot_length * z.slots ≤ length ring
  unfolding phase_wrong
  after_ready p e = page_ready p (rw e at r.phase_right)

  pub slot_ready : slot_length * (j.page * z.slots + j.slot) + slot_length ≤ length ring
  slot_ready = slot_ends (sized z.pages z.slots ring r.ring_right) j.page r.numbers.page j.slot r.numbers.slot

  pub word_ready : (w : ℕ) → j.phase ≡ Words w → 4 * w < j.length
  unfolding phase_wrong
  word_ready w e = leb-false j.length (4 * w) (rw e at r.phase_right)

  pub word_fits : (w : ℕ) → j.phase ≡ Words w → (j.half * half_length fram + 4 * w + 4 ≤ length fram) × (4 * w + 4 ≤ length staging)
  word_fits w e =
      let n = r.numbers in
      let l : 4 * w < j.length = word_ready w e in
      let h : j.half ≤ 1 = omega arith in
      (omega (arith, half_within fram j.half (an_image fram_limit fram r.fram_right) h), omega arith)

-- ---- the stops in two stages: those of the memories, then those of the job

module _ (ring fram : List ℕ) (a : Advances) where
  abbrev memory_lines : List (ℕ × Bool)
  memory_lines = of_memories a.sizes.pages a.sizes.slots ring fram

  abbrev job_lines : List (ℕ × Bool)
  job_lines = (4, staging_wrong a.staging fram) ∷ (14, job_wrong Longer a.job a.sizes ring fram) ∷ []

  pub memories_stop : (s : ℕ) → first_of memory_lines ≡ some s → advance_stop this_firmware ring fram a ≡ some s
  unfolding advance_stop tried
  memories_stop s e = first_append memory_lines job_lines e

  pub memories_pass : first_of memory_lines ≡ none → advance_stop this_firmware ring fram a ≡ then_stop (then_stop none 4 (staging_wrong a.staging fram)) 14 (job_wrong Longer a.job a.sizes ring fram)
  unfolding advance_stop tried
  memories_pass e = first_append memory_lines job_lines e

-- a phase that is known decides the store
pub stored_by : (ring fram : List ℕ) (a : Advances) {x y : Phase} {m : Moved} → x ≡ y → m ≡ store y ring fram a → m ≡ store x ring fram a
stored_by ring fram a e h = h ∙ sym (ap (λ (x : Phase). store x ring fram a) e)
