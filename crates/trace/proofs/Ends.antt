-- Without a cut an operation runs to its end (document 02, A.4): no job makes more stores than `most_stores`. Assumes nothing.
use Rattle.std.proofs.Common.{ℕ, zero, suc, ◌+◌, ◌*◌, ◌/◌, ◌%◌, ◌≤◌, ◌<◌, ◌≡◌, refl, ap, ◌∙◌, Bool, true, false, not, cond, ◌||◌, ◌⊎◌, inl, inr, List, [], ◌∷◌, arith, eqb, leb, ltb, length, ltb-false}
use mathlib.Core.Option.{Option, none, some}
use lib.ListN.{length-replicate}
use Rattle.octets.specs.Octets.{part}
use Rattle.octets.proofs.Laws.{length_part, length_put}
use Rattle.octets.specs.Word.{low_value}
use Rattle.stops.proofs.Laws.{passes, neither}
use Rattle.ring.specs.Ring.{page_before}
use Rattle.checkpoint.specs.Fram.{half_length}
use Rattle.checkpoint.specs.Checkpoint.{Longer, empty_length}
use Rattle.protocol.specs.Types.{Phase, EraseFirst, Words, Record, EraseAfter, Done, Job, this_firmware}
use Rattle.protocol.specs.Calls.{Sizes, Advances}
use Rattle.protocol.specs.Operations.{staging_wrong, Moved, in_phase, phase_wrong, job_wrong, going_on, ended, stored_word, recorded, erase_follows, after_record, store, advance_stop, advance_by, advance}
use Rattle.protocol.specs.Recovery.{is_going}
use Rattle.protocol.proofs.Advancing.{job_passes}
use Rattle.protocol.proofs.Sequence.{words_in_order}
use Rattle.trace_words.specs.Words.{is_cut}
use Rattle.trace.specs.Trace.{bench_sizes, fram_length, bench_staging, start, started, stored_on, most_stores, stores_until, Bench, operation, operated, cut_set, step, after, blank_bench}
use Rattle.trace.specs.Rule.{RunsToItsEnd}
use Rattle.trace.proofs.Stores.{left_of, left_most, advance_fewer, refused_still, stored_still, stored_more}

-- ---- all of its stores

abbrev call_of : List ℕ → Moved → Advances
call_of staging m = record { sizes = bench_sizes; job = m.job; staging = staging }

abbrev next : List ℕ → Moved → Moved
next staging m = advance this_firmware m.ring m.fram (call_of staging m)

-- n stores are enough for a job that is not refused at once and has no more
abbrev Ends : List ℕ → ℕ → Type 0
Ends staging n = (m : Moved) → 1 ≤ n → (advance_stop this_firmware m.ring m.fram (call_of staging m) ≡ none → left_of m.job ≤ n)
    → is_going (stored_on n staging m).progress ≡ false

ends_more : (staging : List ℕ) (n : ℕ) → Ends staging n → Ends staging (suc n)
ends_more staging n ih m h f = going (is_going m.progress) refl
  where
    still : is_going (next staging m).progress ≡ false → is_going (stored_on n staging (next staging m)).progress ≡ false
    still e = ap (λ (y : Moved). is_going y.progress) (stored_still n staging (next staging m) e) ∙ e

    fewer : advance_stop this_firmware m.ring m.fram (call_of staging m) ≡ none → (b : Bool) → is_going (next staging m).progress ≡ b
        → is_going (stored_on n staging (next staging m)).progress ≡ false
    fewer e false g = still g
    fewer e true g =
        let k = advance_fewer m.ring m.fram (call_of staging m) e g in
        let l = f e in
        ih (next staging m) (omega (arith, k.0, k.1, l)) (λ q. omega (arith, k.1, l))

    advanced : (o : Option ℕ) → advance_stop this_firmware m.ring m.fram (call_of staging m) ≡ o → is_going (stored_on n staging (next staging m)).progress ≡ false
    advanced none e = fewer e (is_going (next staging m).progress) refl
    advanced (some x) e = still (refused_still m.ring m.fram (call_of staging m) x e)

    going : (b : Bool) → is_going m.progress ≡ b → is_going (stored_on (suc n) staging m).progress ≡ false
    going false e = ap (λ (y : Moved). is_going y.progress) (stored_still (suc n) staging m e) ∙ e
    going true e = ap (λ (y : Moved). is_going y.progress) (stored_more n staging m e) ∙ advanced (advance_stop this_firmware m.ring m.fram (call_of staging m)) refl

ends : (staging : List ℕ) (n : ℕ) → Ends staging n
ends staging zero m h f = absurd (omega arith)
ends staging (suc n) m h f = ends_more staging n (ends staging n) m h f

-- ---- the FRAM keeps its length

-- what a job in order has
record Right (j : Job) (fram : List ℕ) : Type 0 where
  fits : j.length ≤ half_length fram
  half : j.half ≤ 1

right : (j : Job) (z : Sizes) (ring fram : List ℕ) → job_wrong Longer j z ring fram ≡ false → Right j fram
unfolding job_wrong
right j z ring fram e =
    let x : Bool = not (eqb (j.length % 4) 0) || ltb j.length (empty_length Longer) in
    let y : Bool = ltb (half_length fram) j.length in
    let page : Bool = leb z.pages j.page in
    let slot : Bool = leb z.slots j.slot in
    let whole = (neither (x || y || page || slot || ltb 1 j.half) (phase_wrong j.phase j z ring) e).0 in
    let half = neither (x || y || page || slot) (ltb 1 j.half) whole in
    let place = (neither (x || y || page) slot half.0).0 in
    record {
      fits = ltb-false (half_length fram) j.length (neither x y (neither (x || y) page place).0).1;
      half = ltb-false 1 j.half half.1;
    }

-- a part of a half lies in the FRAM
inside : (h n i : ℕ) → h ≤ 1 → i ≤ n / 2 → h * (n / 2) + i ≤ n
inside zero n i e l = omega arith
inside (suc zero) n i e l = omega arith
inside (suc (suc h)) n i e l = absurd (omega arith)

module _ (ring fram : List ℕ) (a : Advances) (s : advance_stop this_firmware ring fram a ≡ none) where
  r : Right a.job fram
  r = right a.job a.sizes ring fram (job_passes this_firmware ring fram a s)

  staging_long : half_length fram ≤ length a.staging
  unfolding advance_stop staging_wrong
  staging_long = ltb-false (length a.staging) (half_length fram) (passes _ s).1.1.0

  word_ends : (w : ℕ) → a.job.phase ≡ Words w → 4 * w + 4 ≤ a.job.length
  word_ends w e = go (words_in_order this_firmware ring fram a w e s)
    where
      go : ((4 * (w + 1) < a.job.length) × ((advance this_firmware ring fram a).job ≡ in_phase a.job (Words (w + 1))))
          ⊎ ((4 * (w + 1) ≡ a.job.length) × ((advance this_firmware ring fram a).job ≡ in_phase a.job Record))
          → 4 * w + 4 ≤ a.job.length
      go (inl (h, f)) = omega (arith, h)
      go (inr (h, f)) = omega (arith, h)

  word_kept : (w : ℕ) → a.job.phase ≡ Words w → length (stored_word fram a.staging a.job w) ≡ length fram
  unfolding stored_word half_length
  word_kept w e =
      let l = word_ends w e in
      let long : length (part a.staging (4 * w) 4) ≡ 4 = length_part a.staging (4 * w) 4 (omega (arith, l, r.fits, staging_long)) in
      length_put fram (a.job.half * (length fram / 2) + 4 * w) (part a.staging (4 * w) 4)
      (omega (arith, long, inside a.job.half (length fram) (4 * w + 4) r.half (omega (arith, l, r.fits))))

  store_kept : (p : Phase) → a.job.phase ≡ p → length (store p ring fram a).fram ≡ length fram
  unfolding store going_on after_record ended
  store_kept (EraseFirst p) e = refl
  store_kept (Words w) e = word_kept w e
  store_kept Record e = go (erase_follows (recorded ring a.sizes.slots a.job) a.sizes a.job)
    where
      go : (b : Bool) → length (cond b (going_on a.job (EraseAfter (page_before a.sizes.pages a.job.page)) (recorded ring a.sizes.slots a.job) fram) (ended a.job (recorded ring a.sizes.slots a.job) fram)).fram ≡ length fram
      go true = refl
      go false = refl
  store_kept (EraseAfter p) e = refl
  store_kept Done e = refl

advance_kept : (ring fram : List ℕ) (a : Advances) → length (advance this_firmware ring fram a).fram ≡ length fram
unfolding advance advance_by
advance_kept ring fram a = go (advance_stop this_firmware ring fram a) refl
  where
    go : (o : Option ℕ) → advance_stop this_firmware ring fram a ≡ o → length (advance_by o ring fram a).fram ≡ length fram
    go (some x) e = refl
    go none e = store_kept ring fram a e a.job.phase refl

kept_if : (b : Bool) (x y : Moved) → length x.fram ≡ length y.fram → length (cond b x y).fram ≡ length y.fram
kept_if true x y e = e
kept_if false x y e = refl

stored_kept : (n : ℕ) (staging : List ℕ) (m : Moved) → length (stored_on n staging m).fram ≡ length m.fram
unfolding stored_on
stored_kept zero staging m = refl
stored_kept (suc n) staging m =
    kept_if (is_going m.progress) (stored_on n staging (next staging m)) m (stored_kept n staging (next staging m) ∙ advance_kept m.ring m.fram (call_of staging m))

pub operation_kept : (key : List ℕ) (b : Bench) (w : ℕ) → length (operation key b w).fram ≡ length b.fram
unfolding operation started
operation_kept key b w =
    let s = start key b.ring b.fram b.session w bench_staging in
    stored_kept (stores_until b.cut) s.staging (started b.ring b.fram s)

step_kept : (key : List ℕ) (b : Bench) (w : ℕ) → length (step key b w).fram ≡ length b.fram
unfolding step cut_set operated
step_kept key b w = go (is_cut w)
  where
    go : (c : Bool) → length (cond c (cut_set b (low_value w)) (operated key b w)).fram ≡ length b.fram
    go true = refl
    go false = operation_kept key b w

after_kept : (key words : List ℕ) (b : Bench) → length (after key b words).fram ≡ length b.fram
unfolding after
after_kept key [] b = refl
after_kept key (w ∷ more) b = after_kept key more (step key b w) ∙ step_kept key b w

-- ---- every operation of a trace

runs_on : (key : List ℕ) (b : Bench) (w : ℕ) → length b.fram ≡ fram_length → b.cut ≡ none → is_going (operation key b w).progress ≡ false
unfolding operation started stores_until half_length
runs_on key b w l c =
    let s = start key b.ring b.fram b.session w bench_staging in
    let m = started b.ring b.fram s in
    ap (λ (o : Option ℕ). is_going (stored_on (stores_until o) s.staging m).progress) c
    ∙ ends s.staging most_stores m (omega arith)
    (λ e. omega (arith, left_most m.job.phase m.job.length, (right m.job bench_sizes b.ring b.fram (job_passes this_firmware b.ring b.fram (call_of s.staging m) e)).fits, l))

pub runs_to_its_end : RunsToItsEnd
unfolding RunsToItsEnd blank_bench
runs_to_its_end key words w c = runs_on key (after key blank_bench words) w (after_kept key words blank_bench ∙ length-replicate {A = ℕ} fram_length 0xFF) c
