-- The stores of a job: at most so many are made, and each leaves fewer. Assumes nothing.
use Rattle.std.proofs.Common.{ℕ, zero, suc, ◌+◌, ◌-◌, ◌*◌, ◌/◌, ◌≤◌, ◌<◌, ◌≡◌, refl, sym, ap, subst, ◌∙◌, Bool, true, false, cond, ◌⊎◌, inl, inr, List, arith}
use mathlib.Core.Option.{Option, none, some}
use Rattle.protocol.specs.Types.{Phase, EraseFirst, Words, Record, EraseAfter, Done, Origin, Save, PowerUp, Job, this_firmware}
use Rattle.protocol.specs.Calls.{Advances}
use Rattle.protocol.specs.Operations.{Moved, in_phase, going_on, finished, ended, recorded, erase_follows, after_record, store, advance_stop, advance_by, advance}
use Rattle.protocol.specs.Recovery.{is_going}
use Rattle.protocol.proofs.Facts.{no_fact}
use Rattle.protocol.proofs.Sequence.{words_in_order}
use Rattle.trace.specs.Trace.{bench_sizes, stored_on}

-- ---- at most n stores

pub stored_still : (n : ℕ) (staging : List ℕ) (m : Moved) → is_going m.progress ≡ false → stored_on n staging m ≡ m
unfolding stored_on
stored_still zero staging m e = refl
stored_still (suc n) staging m e = rw e

pub stored_more : (n : ℕ) (staging : List ℕ) (m : Moved) → is_going m.progress ≡ true
    → stored_on (suc n) staging m ≡ stored_on n staging (advance this_firmware m.ring m.fram (record { sizes = bench_sizes; job = m.job; staging = staging }))
unfolding stored_on
stored_more n staging m e = rw e

-- ---- the stores that are left

-- the stores that a job of so many bytes still has, at most
unfoldable pub left : Phase → ℕ → ℕ
left (EraseFirst p) n = n / 4 + 3
left (Words w) n = n / 4 - w + 2
left Record n = 2
left (EraseAfter p) n = 1
left Done n = 0

abbrev pub left_of : Job → ℕ
left_of j = left j.phase j.length

pub left_most : (p : Phase) (n : ℕ) → left p n ≤ n / 4 + 3
unfolding left
left_most (EraseFirst p) n = omega arith
left_most (Words w) n = omega arith
left_most Record n = omega arith
left_most (EraseAfter p) n = omega arith
left_most Done n = omega arith

-- ---- an advance that goes on

not_finished : (o : Origin) → is_going (finished o) ≡ false
unfolding finished is_going
not_finished Save = refl
not_finished PowerUp = refl

-- a job with fewer stores, and one at least
abbrev pub Fewer : Job → Job → Type 0
Fewer j k = (1 ≤ left_of k) × (suc (left_of k) ≤ left_of j)

picked : (b : Bool) (x y : Moved) (j : Job) → Fewer j x.job → is_going y.progress ≡ false → is_going (cond b x y).progress ≡ true → Fewer j (cond b x y).job
picked true x y j f e g = f
picked false x y j f e g = no_fact (sym g ∙ e)

module _ (ring fram : List ℕ) (a : Advances) (s : advance_stop this_firmware ring fram a ≡ none) where
  stores_is : (p : Phase) → a.job.phase ≡ p → advance this_firmware ring fram a ≡ store p ring fram a
  unfolding advance advance_by
  stores_is p e = rw (s, e)

  after_words : (w : ℕ) → a.job.phase ≡ Words w → Fewer a.job (advance this_firmware ring fram a).job
  unfolding left in_phase
  after_words w e = go (words_in_order this_firmware ring fram a w e s)
    where
      before : left_of a.job ≡ a.job.length / 4 - w + 2
      before = ap (λ (p : Phase). left p a.job.length) e

      go : ((4 * (w + 1) < a.job.length) × ((advance this_firmware ring fram a).job ≡ in_phase a.job (Words (w + 1))))
          ⊎ ((4 * (w + 1) ≡ a.job.length) × ((advance this_firmware ring fram a).job ≡ in_phase a.job Record))
          → Fewer a.job (advance this_firmware ring fram a).job
      go (inl (h, f)) = let g : left_of (advance this_firmware ring fram a).job ≡ a.job.length / 4 - (w + 1) + 2 = ap left_of f in (omega (arith, g), omega (arith, g, before, h))
      go (inr (h, f)) = let g : left_of (advance this_firmware ring fram a).job ≡ 2 = ap left_of f in (omega (arith, g), omega (arith, g, before, h))

  after_store : (p : Phase) → a.job.phase ≡ p → is_going (store p ring fram a).progress ≡ true → Fewer a.job (store p ring fram a).job
  unfolding store going_on in_phase left after_record ended
  after_store (EraseFirst p) e g = let before : left_of a.job ≡ a.job.length / 4 + 3 = ap (λ (p : Phase). left p a.job.length) e in (omega arith, omega (arith, before))
  after_store (Words w) e g = subst (λ (m : Moved). Fewer a.job m.job) (stores_is (Words w) e) (after_words w e)
  after_store Record e g =
      let before : left_of a.job ≡ 2 = ap (λ (p : Phase). left p a.job.length) e in
      picked (erase_follows (recorded ring a.sizes.slots a.job) a.sizes a.job) _ _ a.job (omega arith, omega (arith, before)) (not_finished a.job.origin) g
  after_store (EraseAfter p) e g = no_fact (sym g ∙ not_finished a.job.origin)
  after_store Done e g = no_fact (sym g ∙ not_finished a.job.origin)

  pub advance_fewer : is_going (advance this_firmware ring fram a).progress ≡ true → Fewer a.job (advance this_firmware ring fram a).job
  advance_fewer g =
      let e = stores_is a.job.phase refl in
      subst (λ (m : Moved). Fewer a.job m.job) (sym e) (after_store a.job.phase refl (ap (λ (m : Moved). is_going m.progress) (sym e) ∙ g))

pub refused_still : (ring fram : List ℕ) (a : Advances) (x : ℕ) → advance_stop this_firmware ring fram a ≡ some x → is_going (advance this_firmware ring fram a).progress ≡ false
unfolding advance advance_by is_going
refused_still ring fram a x e = rw e

-- a job that goes on has a store to come
pub store_to_come : (ring fram : List ℕ) (a : Advances) → is_going (advance this_firmware ring fram a).progress ≡ true → 1 ≤ left_of (advance this_firmware ring fram a).job
store_to_come ring fram a g = go (advance_stop this_firmware ring fram a) refl
  where
    go : (o : Option ℕ) → advance_stop this_firmware ring fram a ≡ o → 1 ≤ left_of (advance this_firmware ring fram a).job
    go none e = (advance_fewer ring fram a e g).0
    go (some x) e = no_fact (sym g ∙ refused_still ring fram a x e)
