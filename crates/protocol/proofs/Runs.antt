-- A start run to its end: the list is allowed, and its draft is recorded.
use Prim.Native.Nat.{ℕ, zero, suc, ◌+◌, ◌/◌, ◌%◌}
use mathlib.Core.Path.{◌≡◌, refl, sym, ap, subst, ◌∙◌}
use mathlib.Core.Bool.{Bool, true, false, cond, ◌&&◌}
use mathlib.Core.Logic.{inl, inr}
use mathlib.Core.Option.{Option, none, some}
use mathlib.Core.List.{List, [], ◌∷◌, ◌++◌, append-nil}
use native.Mathlib.Omega.{arith}
use lib.ListN.{length, replicate}
use lib.Dec.{eqb, ltb}
use Rattle.checkpoint.specs.Checkpoint.{Checkpoint, sealed}
use Rattle.protocol.specs.Types.{Origin, Phase, EraseFirst, Words, Record, EraseAfter, Done, Progress, GoingOn, Saved, Restored, Refused}
use Rattle.protocol.specs.Calls.{Advances, Setup, Event, advanced_by}
use Rattle.protocol.specs.Operations.{Moved, stored_word, store, advance_stop, advance_by, advance}
use Rattle.protocol.specs.Journal.{Journal, Draft, Store, erase, word, record_slot, erase_if, stores_of, made, advanced, entered}
use Rattle.protocol.specs.History.{State, Handed, broken_fram, bytes_of, moved, left_by, step, run, refused, is_stopped, Keeps, Allowed}
use Rattle.protocol.specs.Recovery.{advances_of}
use Rattle.protocol.specs.Histories.{stores_left, to_its_end}
use Rattle.protocol.proofs.Invariant.{draft_of, DurableAt, Doing, Holds, Ended}
use Rattle.protocol.proofs.Advances.{Moves, call, word_kept}
use Rattle.protocol.proofs.Exact.{store_leaves}
use Rattle.protocol.proofs.Advancing.{advancing, going}
use Rattle.protocol.proofs.PowerUps.{Entry}
use Rattle.protocol.proofs.LastRun.{advances_on, stores_some}
use Rattle.protocol.proofs.Blind.{blind}

-- ---- what one advance leaves

-- the nonces and the firmware stay, and the FRAM is what the advance left
moved_keeps : (s : State) (x : Progress) (m : Moved) (staging : List ℕ) (j : Journal)
    → ((moved s x m staging j).nonces ≡ s.nonces) × ((moved s x m staging j).firmware ≡ s.firmware) × ((moved s x m staging j).fram ≡ m.fram)
unfolding moved
moved_keeps s GoingOn m staging j = (refl, refl, refl)
moved_keeps s Saved m staging j = (refl, refl, refl)
moved_keeps s Restored m staging j = (refl, refl, refl)
moved_keeps s (Refused y) m staging j = (refl, refl, refl)

advance_keeps : (u : Setup) (s : State) (a : Advances)
    → ((step u s (advanced_by a)).nonces ≡ s.nonces) × ((step u s (advanced_by a)).firmware ≡ s.firmware) × ((step u s (advanced_by a)).fram ≡ (advance s.firmware s.ring s.fram a).fram)
unfolding step left_by
advance_keeps u s a = moved_keeps s _ _ _ _

-- the FRAM keeps its length
module _ (u : Setup) (s : State) (h : Handed) (inv : Holds u s) where
  store_kept : (p : Phase) → Doing u s h p → length (store p s.ring s.fram (call u h)).fram ≡ length s.fram
  unfolding broken_fram bytes_of stored_word
  store_kept (EraseFirst p) d = ap (λ (l : List ℕ). length l) (store_leaves (EraseFirst p) s.ring s.fram (call u h)).1
  store_kept (Words w) d = ap (λ (l : List ℕ). length l) (store_leaves (Words w) s.ring s.fram (call u h)).1 ∙ word_kept inv w d.left d.left_is d.before
  store_kept Record d = ap (λ (l : List ℕ). length l) (store_leaves Record s.ring s.fram (call u h)).1
  store_kept (EraseAfter p) d = ap (λ (l : List ℕ). length l) (store_leaves (EraseAfter p) s.ring s.fram (call u h)).1
  store_kept Done d = ap (λ (l : List ℕ). length l) (store_leaves Done s.ring s.fram (call u h)).1

  advance_kept : (o : Option ℕ) → Doing u s h h.job.phase → length (advance_by o s.ring s.fram (call u h)).fram ≡ length s.fram
  unfolding advance_by
  advance_kept (some x) d = refl
  advance_kept none d = store_kept h.job.phase d

  pub fram_long : s.handed ≡ some h → length (step u s (advanced_by (call u h))).fram ≡ length s.fram
  unfolding advance
  fram_long e = ap (λ (l : List ℕ). length l) (advance_keeps u s (call u h)).2 ∙ advance_kept (advance_stop s.firmware s.ring s.fram (call u h)) (inv.doing h e)

advance_journal : (u : Setup) (s : State) (a : Advances) → refused s (advanced_by a) ≡ false
    → (step u s (advanced_by a)).journal ≡ advanced s.journal s.journal.draft
unfolding entered
advance_journal u s a e =
    blind u s (advanced_by a) ∙ ap (λ (b : Bool). cond b s.journal (advanced s.journal s.journal.draft)) e

-- the records among the stores to come
abbrev pub records_in : List Store → ℕ
records_in [] = 0
records_in (erase ∷ rest) = records_in rest
records_in (word ∷ rest) = records_in rest
records_in (record_slot ∷ rest) = suc (records_in rest)

made_count : (j : Journal) (d : Draft) (x : Store) (first rest : List Store) → (made j d (x ∷ rest)).count + records_in first ≡ j.count + records_in (x ∷ first)
unfolding made
made_count j d erase first rest = refl
made_count j d word first rest = refl
made_count j d record_slot first rest = omega arith

-- ---- the first stores of a draft made, and `rest` left

pub record Made (u : Setup) (t : State) (c : Checkpoint) (origin : Origin) (events : List Event) (records : ℕ) (rest : List Store) : Type 0 where
  pub allowed : Allowed u t events
  pub holds : Holds u (run u t events)
  pub draft_is : (run u t events).journal.draft ≡ some (draft_of c origin rest)
  pub handed : Handed
  pub handed_is : (run u t events).handed ≡ some handed
  pub ended : rest ≡ [] → Ended u (run u t events) c
  pub count : (run u t events).journal.count ≡ t.journal.count + records
  pub nonces : (run u t events).nonces ≡ t.nonces
  pub firmware : (run u t events).firmware ≡ t.firmware
  pub fram_long : length (run u t events).fram ≡ length t.fram

module _ (u : Setup) (c : Checkpoint) (origin : Origin) (rest : List Store) where
  more_made : (x : Store) (first : List Store) (t : State) (h : Handed) → Holds u t → t.handed ≡ some h → t.journal.draft ≡ some (draft_of c origin (x ∷ (first ++ rest)))
      → Moves u t h c origin (first ++ rest)
      → Made u (step u t (advanced_by (call u h))) c origin (advances_of u (length first) (step u t (advanced_by (call u h)))) (records_in first) rest
      → Made u t c origin (advanced_by (call u h) ∷ advances_of u (length first) (step u t (advanced_by (call u h)))) (records_in (x ∷ first)) rest
  unfolding Allowed run Keeps refused advanced
  more_made x first t h inv e d m more =
      let r : is_stopped (advance t.firmware t.ring t.fram (call u h)).progress ≡ false = ap is_stopped m.answered ∙ going origin (first ++ rest) in
      let j : (step u t (advanced_by (call u h))).journal ≡ made t.journal (draft_of c origin (x ∷ (first ++ rest))) (x ∷ (first ++ rest)) =
      advance_journal u t (call u h) r ∙ ap (λ (o : Option Draft). advanced t.journal o) d in
      record {
        allowed = (inr (refl, e), more.allowed);
        holds = more.holds;
        draft_is = more.draft_is;
        handed = more.handed;
        handed_is = more.handed_is;
        ended = more.ended;
        count = more.count ∙ ap (λ (k : Journal). k.count + records_in first) j
            ∙ made_count t.journal (draft_of c origin (x ∷ (first ++ rest))) x first (first ++ rest);
        nonces = more.nonces ∙ (advance_keeps u t (call u h)).0;
        firmware = more.firmware ∙ (advance_keeps u t (call u h)).1;
        fram_long = more.fram_long ∙ fram_long u t h inv e;
      }

  pub made_first : (first : List Store) (t : State) (h : Handed) → Holds u t → t.handed ≡ some h → t.journal.draft ≡ some (draft_of c origin (first ++ rest))
      → (first ++ rest ≡ [] → Ended u t c) → Made u t c origin (advances_of u (length first) t) (records_in first) rest
  unfolding Allowed run advances_of
  made_first [] t h inv e d f =
      record { allowed = tt; holds = inv; draft_is = d; handed = h; handed_is = e; ended = f; count = omega arith; nonces = refl; firmware = refl; fram_long = refl }
  made_first (x ∷ first) t h inv e d f =
      let m = advancing u t h inv c origin x (first ++ rest) d e in
      let more = made_first first (step u t (advanced_by (call u h))) m.handed m.holds m.handed_is m.draft_is m.ended in
      subst (λ (events : List Event). Made u t c origin events (records_in (x ∷ first)) rest) (sym (advances_on u (length first) t h e)) (more_made x first t h inv e d m more)

-- ---- a start's stores hold one record

pub one_record : (a b : Bool) (n : ℕ) → records_in (erase_if a ++ replicate n word ++ record_slot ∷ erase_if b) ≡ 1
unfolding erase_if
one_record true true zero = refl
one_record true false zero = refl
one_record false true zero = refl
one_record false false zero = refl
one_record true b (suc n) = one_record true b n
one_record false b (suc n) = one_record false b n

pub stores_record : (key : List ℕ) (slots : ℕ) (j : Journal) (c : Checkpoint) → records_in (stores_of key slots j c) ≡ 1
unfolding stores_of
stores_record key slots j c = one_record j.owed (ltb 0 j.count && eqb (j.count % slots) 0) (length (sealed key c) / 4)

-- ---- a start and its stores

-- the events are allowed, and keep the firmware's form and the FRAM's length
pub record Passed (u : Setup) (s : State) (events : List Event) : Type 0 where
  pub allowed : Allowed u s events
  pub firmware : (run u s events).firmware ≡ s.firmware
  pub fram_long : length (run u s events).fram ≡ length s.fram

-- from state s, the start of a draft of c under `nonce` and all of its stores
pub record Whole (u : Setup) (s : State) (c : Checkpoint) (nonce : List ℕ) (events : List Event) : Type 0 where
  pub passed : Passed u s events
  pub holds : Holds u (run u s events)
  pub ended : Ended u (run u s events) c
  pub count : (run u s events).journal.count ≡ s.journal.count + 1
  pub nonces : (run u s events).nonces ≡ nonce ∷ s.nonces

pub whole : (u : Setup) (s : State) (e : Event) (c : Checkpoint) (origin : Origin) (nonce : List ℕ) (h : Handed) → Keeps u s e
    → Holds u (step u s e) → (step u s e).handed ≡ some h
    → (step u s e).journal.draft
    ≡ some (draft_of c origin (stores_of u.key u.sizes.slots s.journal c))
    → (step u s e).journal.count ≡ s.journal.count → (step u s e).nonces ≡ nonce ∷ s.nonces
    → (step u s e).firmware ≡ s.firmware → (step u s e).fram ≡ s.fram → Whole u s c nonce (to_its_end u s e)
unfolding to_its_end Allowed run stores_left
whole u s e c origin nonce h k inv q d n m o r =
    subst (λ (l : ℕ). Whole u s c nonce (e ∷ advances_of u l (step u s e))) (sym (ap stores_left d))
    (record {
      passed = record { allowed = (inr k, f.allowed); firmware = f.firmware ∙ o; fram_long = f.fram_long ∙ ap (λ (l : List ℕ). length l) r };
      holds = f.holds;
      ended = f.ended refl;
      count = f.count ∙ (λ i. n i + stores_record u.key u.sizes.slots s.journal c i);
      nonces = f.nonces ∙ m;
    })
  where
    stores : List Store
    stores = stores_of u.key u.sizes.slots s.journal c

    f : Made u (step u s e) c origin (advances_of u (length stores) (step u s e)) (records_in stores) []
    f = made_first u c origin [] stores (step u s e) h inv q (d ∙ ap (λ (l : List Store). some (draft_of c origin l)) (sym (append-nil stores)))
        (λ z. absurd (let y = stores_some u.key u.sizes.slots s.journal c in
        let a = ap (λ (l : List Store). length l) y.2 in let b = ap (λ (l : List Store). length l) (sym (append-nil stores) ∙ z) in omega arith))

-- lists one after the other
pub run_append : (u : Setup) (xs ys : List Event) (s : State) → run u s (xs ++ ys) ≡ run u (run u s xs) ys
unfolding run
run_append u [] ys s = refl
run_append u (e ∷ xs) ys s = run_append u xs ys (step u s e)

pub allowed_append : (u : Setup) (xs ys : List Event) (s : State) → Allowed u s xs → Allowed u (run u s xs) ys → Allowed u s (xs ++ ys)
unfolding run Allowed
allowed_append u [] ys s k l = l
allowed_append u (e ∷ xs) ys s (k, m) l = (k, allowed_append u xs ys (step u s e) m l)

pub passed_append : (u : Setup) (xs ys : List Event) (s : State) → Passed u s xs → Passed u (run u s xs) ys → Passed u s (xs ++ ys)
passed_append u xs ys s p q = record {
  allowed = allowed_append u xs ys s p.allowed q.allowed;
  firmware = ap (λ (t : State). t.firmware) (run_append u xs ys s) ∙ q.firmware ∙ p.firmware;
  fram_long = ap (λ (t : State). length t.fram) (run_append u xs ys s) ∙ q.fram_long ∙ p.fram_long;
}

-- ---- the journal's entry is recorded

pub recorded_entry : (u : Setup) (s : State) (c : Checkpoint) → Holds u s → s.journal.entry ≡ some c → Entry u s c
recorded_entry u s c inv e = go inv.durable
  where
    go : DurableAt u s s.ring s.fram s.journal.owed → Entry u s c
    go (inl y) = absurd (let p = y.no_entry in let z : ◌≡◌ {A = ℕ} 0 1 = cc in omega arith)
    go (inr (d, r)) = let p = r.entry_is in let q : d ≡ c = cc in subst (λ (y : Checkpoint). Entry u s y) q r
