-- The stores of an operation beside the advances of a list: both go on together. Assumes nothing.
use Rattle.std.proofs.Common.{ℕ, zero, suc, ◌≤◌, ◌≡◌, refl, sym, ap, subst, ◌∙◌, Bool, true, false, cond, inr, List, [], ◌∷◌, arith}
use mathlib.Core.Option.{Option, none, some}
use mathlib.Core.List.{Memᴰ}
use Rattle.checkpoint.specs.Checkpoint.{Checkpoint}
use Rattle.protocol.specs.Types.{Session, Origin, Phase, EraseFirst, Words, Record, EraseAfter, Done, Progress, GoingOn, Saved, Restored, Refused, this_firmware}
use Rattle.protocol.specs.Calls.{Event, advanced_by}
use Rattle.protocol.specs.Operations.{Moved, advance}
use Rattle.protocol.specs.Journal.{Store, Journal, entered}
use Rattle.protocol.specs.History as history
use Rattle.protocol.specs.History.{State, Handed, moved, left_by, is_stopped, refused, run, Keeps, Allowed}
use Rattle.protocol.specs.Recovery.{is_going, with_handed}
use Rattle.protocol.proofs.Invariant.{Doing, Holds, Moving}
use Rattle.protocol.proofs.Advances.{erasing_first, writing}
use Rattle.protocol.proofs.Records.{recording}
use Rattle.protocol.proofs.Advancing.{erasing_after, hold_advanced}
use Rattle.protocol.proofs.Advancing as advancing
use Rattle.trace.specs.Trace.{bench_sizes, stored_on, session_from}
use Rattle.trace.proofs.Stores.{left, left_of, stored_still, stored_more, store_to_come}
use Rattle.trace.specs.Rule.{bench_setup, advance_of, advances_while}

-- ---- beside them, the list

-- t' comes after t in a list, and has the memories and the session of m, which no stop ended
pub record Beside (m : Moved) (t t' : State) : Type 0 where
  pub ring : t'.ring ≡ m.ring
  pub fram : t'.fram ≡ m.fram
  pub firmware : t'.firmware ≡ this_firmware
  pub nonces : t'.nonces ≡ t.nonces
  pub kept : (z : Session) → Memᴰ z t.sessions → Memᴰ z t'.sessions
  pub new : (z : Session) → session_from m.progress m.session none ≡ some z → Memᴰ z t'.sessions
  pub unrefused : is_stopped m.progress ≡ false

some_is : (z y : Session) → some y ≡ some z → z ≡ y
some_is z y e = cc

-- no session is handed out while a job is going on
not_some : (z : Session) → none ≡ some z → ⊥
not_some z q = let y : ◌≡◌ {A = ℕ} 0 1 = cc in omega arith

none_handed : (p : Progress) (new z : Session) → p ≡ GoingOn → session_from p new none ≡ some z → ⊥
unfolding session_from
none_handed p new z e k = not_some z (ap (λ (q : Progress). session_from q new none) (sym e) ∙ k)

-- the answer to an advance of the job, and what it leaves
abbrev answer : State → Handed → Moved
answer t h = advance t.firmware t.ring t.fram (advance_of h)

-- two stretches of a list
beside_on : {m m' : Moved} {t t' t'' : State} → Beside m t t' → Beside m' t' t'' → Beside m' t t''
beside_on a b = record {
  ring = b.ring;
  fram = b.fram;
  firmware = b.firmware;
  nonces = b.nonces ∙ a.nonces;
  kept = λ z k. b.kept z (a.kept z k);
  new = b.new;
  unrefused = b.unrefused;
}

module _ (key : List ℕ) where
  -- the job of m is handed out last in t
  pub record Out (m : Moved) (staging : List ℕ) (t : State) (h : Handed) : Type 0 where
    pub ring : t.ring ≡ m.ring
    pub fram : t.fram ≡ m.fram
    pub firmware : t.firmware ≡ this_firmware
    pub handed : t.handed ≡ some h
    pub job : h.job ≡ m.job
    pub lent : h.staging ≡ staging
    pub going : m.progress ≡ GoingOn
    pub holds : Holds (bench_setup key) t
    pub to_come : 1 ≤ left_of h.job

  abbrev next : State → Handed → State
  next t h = history.step (bench_setup key) t (advanced_by (advance_of h))

  advances_on : (n : ℕ) (t : State) (h : Handed) → t.handed ≡ some h
      → advances_while key (suc n) t ≡ advanced_by (advance_of h) ∷ cond (is_going (answer t h).progress) (advances_while key n (next t h)) []
  unfolding advances_while with_handed
  advances_on n t h e = ap (λ (o : Option Handed). with_handed o (λ h. advanced_by (advance_of h) ∷ cond (is_going (answer t h).progress) (advances_while key n (next t h)) [])) e

  abbrev journal : State → Handed → Journal
  journal t h = entered (bench_setup key) t.firmware.form t.journal (advanced_by (advance_of h)) (refused t (advanced_by (advance_of h)))

  next_is : (t : State) (h : Handed) (p : Progress) → (answer t h).progress ≡ p → next t h ≡ moved t p (answer t h) h.staging (journal t h)
  unfolding history.step left_by
  next_is t h p e = ap (λ (q : Progress). moved t q (answer t h) h.staging (journal t h)) e

  -- an advance of a job that has a store to come does not stop
  unstopped : {t : State} {a : Progress} {c : Checkpoint} {origin : Origin} {rest : List Store} → Moving (bench_setup key) t a c origin rest → is_stopped a ≡ false
  unstopped {origin = origin} {rest = rest} m = ap is_stopped m.answered ∙ advancing.going origin rest

  not_refused_in : (t : State) (h : Handed) (inv : Holds (bench_setup key) t) → 1 ≤ left_of h.job → (p : Phase) → h.job.phase ≡ p → Doing (bench_setup key) t h p
      → is_stopped (answer t h).progress ≡ false
  unfolding left
  not_refused_in t h inv l (EraseFirst p) q x = unstopped (erasing_first (bench_setup key) t h inv p q x)
  not_refused_in t h inv l (Words w) q x = unstopped (writing (bench_setup key) t h inv w q x)
  not_refused_in t h inv l Record q x = unstopped (recording inv x q)
  not_refused_in t h inv l (EraseAfter p) q x = unstopped (erasing_after (bench_setup key) t h inv p q x)
  not_refused_in t h inv l Done q x = absurd (omega (arith, ap (λ (p : Phase). left p h.job.length) q, l))

  not_refused : (t : State) (h : Handed) → Holds (bench_setup key) t → t.handed ≡ some h → 1 ≤ left_of h.job → is_stopped (answer t h).progress ≡ false
  not_refused t h inv e l = not_refused_in t h inv l h.job.phase refl (inv.doing h e)

  -- what an advance leaves, by what it answers
  beside_next : (t : State) (h : Handed) (p : Progress) → t.firmware ≡ this_firmware → is_stopped (answer t h).progress ≡ false → (answer t h).progress ≡ p → Beside (answer t h) t (moved t p (answer t h) h.staging (journal t h))
  unfolding moved session_from
  beside_next t h GoingOn f g e = record { ring = refl; fram = refl; firmware = f; nonces = refl; kept = λ z m. m; new = λ z k. absurd (none_handed _ _ z e k); unrefused = g }
  beside_next t h Saved f g e = record {
    ring = refl;
    fram = refl;
    firmware = f;
    nonces = refl;
    kept = λ z m. Memᴰ.tail m;
    new = λ z k. Memᴰ.head (some_is z _ (sym (ap (λ (q : Progress). session_from q (answer t h).session none) e) ∙ k));
    unrefused = g;
  }
  beside_next t h Restored f g e = record {
    ring = refl;
    fram = refl;
    firmware = f;
    nonces = refl;
    kept = λ z m. Memᴰ.tail m;
    new = λ z k. Memᴰ.head (some_is z _ (sym (ap (λ (q : Progress). session_from q (answer t h).session none) e) ∙ k));
    unrefused = g;
  }
  beside_next t h (Refused n) f g e = record {
    ring = refl;
    fram = refl;
    firmware = f;
    nonces = refl;
    kept = λ z m. m;
    new = λ z k. absurd (not_some z (sym (ap (λ (q : Progress). session_from q (answer t h).session none) e) ∙ k));
    unrefused = g;
  }

  -- the advances beside at most n stores
  abbrev Moves : ℕ → List ℕ → Moved → State → Type 0
  Moves n staging m t =
      Allowed (bench_setup key) t (advances_while key n t) × Beside (stored_on n staging m) t (run (bench_setup key) t (advances_while key n t))

  module _ (staging : List ℕ) where
    moves_zero : (m : Moved) (t : State) (h : Handed) → Out m staging t h → Moves zero staging m t
    unfolding advances_while stored_on run Allowed is_stopped
    moves_zero m t h o = (
      tt,
      record {
        ring = o.ring;
        fram = o.fram;
        firmware = o.firmware;
        nonces = refl;
        kept = λ z k. k;
        new = λ z k. absurd (none_handed _ _ z o.going k);
        unrefused = ap is_stopped o.going;
      },
    )

    module _ (n : ℕ) (ih : (m : Moved) (t : State) (h : Handed) → Out m staging t h → Moves n staging m t) (m : Moved) (t : State) (h : Handed) (o : Out m staging t h) where
      -- the answer is the trace's
      same : answer t h ≡ advance this_firmware m.ring m.fram (record { sizes = bench_sizes; job = m.job; staging = staging })
      same i = advance (o.firmware i) (o.ring i) (o.fram i) (record { sizes = bench_sizes; job = o.job i; staging = o.lent i })

      -- the answer, and at most n stores more
      stored : stored_on (suc n) staging m ≡ stored_on n staging (answer t h)
      unfolding is_going
      stored = stored_more n staging m (ap is_going o.going) ∙ ap (stored_on n staging) (sym same)

      handed_out : Keeps (bench_setup key) t (advanced_by (advance_of h))
      unfolding Keeps
      handed_out = (refl, o.handed)

      answered : is_stopped (answer t h).progress ≡ false
      answered = not_refused t h o.holds o.handed o.to_come

      -- the list goes on with `more` behind the advance
      on : (more : List Event) → cond (is_going (answer t h).progress) (advances_while key n (next t h)) [] ≡ more
          → Allowed (bench_setup key) (next t h) more → Beside (stored_on n staging (answer t h)) (next t h) (run (bench_setup key) (next t h) more)
          → (p : Progress) → (answer t h).progress ≡ p → Moves (suc n) staging m t
      unfolding run Allowed
      on more e allowed beside p a =
          let list : advances_while key (suc n) t ≡ advanced_by (advance_of h) ∷ more = advances_on n t h o.handed ∙ ap (λ (l : List Event). advanced_by (advance_of h) ∷ l) e in
          let first : Beside (answer t h) t (next t h) = subst (λ (y : State). Beside (answer t h) t y) (sym (next_is t h p a)) (beside_next t h p o.firmware answered a) in
          subst (λ (l : List Event). Allowed (bench_setup key) t l × Beside (stored_on (suc n) staging m) t (run (bench_setup key) t l)) (sym list)
          ((inr handed_out, allowed), subst (λ (y : Moved). Beside y t (run (bench_setup key) (next t h) more)) (sym stored) (beside_on first beside))

      still : (p : Progress) → (answer t h).progress ≡ p → is_going p ≡ false → Moves (suc n) staging m t
      unfolding run Allowed
      still p a e =
          let g : is_going (answer t h).progress ≡ false = ap is_going a ∙ e in
          on [] (ap (λ (b : Bool). cond b (advances_while key n (next t h)) []) g) tt
          (subst (λ (y : Moved). Beside y (next t h) (next t h)) (sym (stored_still n staging (answer t h) g))
          (let first = beside_next t h p o.firmware answered a in
          subst (λ (y : State). Beside (answer t h) y y) (sym (next_is t h p a)) (record {
            ring = first.ring;
            fram = first.fram;
            firmware = first.firmware;
            nonces = refl;
            kept = λ z k. k;
            new = first.new;
            unrefused = first.unrefused;
          }))) p a

      to_come_next : is_going (answer t h).progress ≡ true → 1 ≤ left_of (answer t h).job
      to_come_next g =
          let l = store_to_come m.ring m.fram (record { sizes = bench_sizes; job = m.job; staging = staging }) (sym (ap (λ (y : Moved). is_going y.progress) same) ∙ g) in
          subst (λ (y : Moved). 1 ≤ left_of y.job) (sym same) l

      going : (answer t h).progress ≡ GoingOn → Moves (suc n) staging m t
      unfolding is_going moved
      going a =
          let is = next_is t h GoingOn a in
          let x = ih (answer t h) (next t h) (record { job = (answer t h).job; staging = h.staging }) (record {
            ring = ap (λ (y : State). y.ring) is;
            fram = ap (λ (y : State). y.fram) is;
            firmware = ap (λ (y : State). y.firmware) is ∙ o.firmware;
            handed = ap (λ (y : State). y.handed) is;
            job = refl;
            lent = o.lent;
            going = a;
            holds = hold_advanced (bench_setup key) t o.holds (advance_of h) handed_out;
            to_come = to_come_next (ap is_going a);
          }) in
          on (advances_while key n (next t h)) (ap (λ (p : Progress). cond (is_going p) (advances_while key n (next t h)) []) a) x.0 x.1 GoingOn a

      moves_more : Moves (suc n) staging m t
      unfolding is_going
      moves_more = go (answer t h).progress refl
        where
          go : (p : Progress) → (answer t h).progress ≡ p → Moves (suc n) staging m t
          go GoingOn e = going e
          go Saved e = still Saved e refl
          go Restored e = still Restored e refl
          go (Refused x) e = still (Refused x) e refl

    pub moves : (n : ℕ) (m : Moved) (t : State) (h : Handed) → Out m staging t h → Moves n staging m t
    moves zero m t h o = moves_zero m t h o
    moves (suc n) m t h o = moves_more n (moves n) m t h o
