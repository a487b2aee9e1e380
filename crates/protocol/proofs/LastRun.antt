-- The end of a power-up that no power loss interrupts.
use Prim.Native.Nat.{ℕ, suc, ◌-◌, ◌/◌, ◌%◌}
use mathlib.Core.Path.{◌≡◌, refl, sym, ap, subst, ◌∙◌}
use mathlib.Core.Bool.{Bool, true, false, ◌&&◌}
use mathlib.Core.Logic.{◌⊎◌, inl, inr}
use mathlib.Core.Option.{Option, some}
use mathlib.Core.List.{List, [], ◌∷◌, ◌++◌}
use native.Mathlib.Omega.{arith}
use lib.ListN.{length, take, replicate}
use lib.Dec.{T, eqb, ltb}
use lib.Seq.{take-append_seam}
use Rattle.ring.specs.Ring.{newest_record}
use Rattle.checkpoint.specs.Checkpoint.{Checkpoint, own_tag, sealed}
use Rattle.protocol.specs.Types.{PowerUp, Progress, GoingOn, Restored}
use Rattle.protocol.specs.Calls.{Advances, Setup, Event, saved, powered_up, advanced_by, PowerLoss, lost_in_store, updated_to}
use Rattle.protocol.specs.Operations.{finished, advance, newest_half}
use Rattle.protocol.specs.Journal.{Journal, Store, word, record_slot, erase_if, stores_of}
use Rattle.protocol.specs.History.{State, Handed, step, run, refused, is_stopped, Keeps}
use Rattle.protocol.specs.Recovery.{is_advance, Uninterrupted, answered, answers, with_handed, advances_of, Stands}
use Rattle.protocol.proofs.Facts.{T_true}
use Rattle.protocol.proofs.Invariant.{draft_of, page_in, slot_in, DurableAt, Recorded, Holds, answer_of, Ended, Moving}
use Rattle.protocol.proofs.Reading.{record_found, reads, nonce_found, newest_half_is}
use Rattle.protocol.proofs.Refused.{T→true, step_refused}
use Rattle.protocol.proofs.Advances.{call}
use Rattle.protocol.proofs.Advancing.{advancing, going}

stands : (u : Setup) (t : State) (new : Checkpoint) → Holds u t → Ended u t new → Stands u t new
unfolding newest_record newest_half
stands u t new inv x = go inv.durable
  where
    recorded_stands : (c : Checkpoint) → Recorded u t.ring t.fram t.nonces t.journal.entry t.journal.count false t.journal.power_ups c → c ≡ new → Ended u t c → Stands u t new
    recorded_stands c r q z = subst (λ (y : Checkpoint). Stands u t y) q (record {
      entry = r.entry_is;
      page = page_in u t.journal.count;
      slot = slot_in u t.journal.count;
      readable = reads inv.fram_right r;
      nonce = nonce_found inv.fram_right r;
      there = ap (λ (l : List ℕ). take (length (sealed u.key c)) l)
          (newest_half_is inv.fram_right r)
          ∙ take-append_seam (sealed u.key c) _;
      earlier = z.earlier;
      session = z.session ∙ (λ i. record {
        page = page_in u t.journal.count;
        slot = slot_in u t.journal.count;
        latest = sym (record_found inv.fram_right r) i;
        tag = own_tag u.key c;
        restarts = c.restarts;
        packet = c.packet;
      } ∷ z.earlier);
    })

    same_entry : (c : Checkpoint) → t.journal.entry ≡ some c → c ≡ new
    same_entry c p = let e = x.entry in cc

    go : DurableAt u t t.ring t.fram t.journal.owed → Stands u t new
    go (inl y) = absurd (let p = y.no_entry in let e = x.entry in let z : ◌≡◌ {A = ℕ} 0 1 = cc in omega arith)
    go (inr (c, r)) = recorded_stands c (subst (λ (b : Bool). Recorded u t.ring t.fram t.nonces t.journal.entry t.journal.count b t.journal.power_ups c) x.owed r)
        (same_entry c r.entry_is) (subst (λ (y : Checkpoint). Ended u t y) (sym (same_entry c r.entry_is)) x)

abbrev pub answers_of : List Store → List Progress
answers_of [] = []
answers_of (x ∷ rest) = answer_of PowerUp rest ∷ answers_of rest

length_answers : (stores : List Store) → length (answers_of stores) ≡ length stores
length_answers [] = refl
length_answers (x ∷ rest) = ap suc (length_answers rest)

answers_are : (x : Store) (rest : List Store) → answers_of (x ∷ rest) ≡ replicate (length rest) GoingOn ++ Restored ∷ []
unfolding finished
answers_are x [] = refl
answers_are x (y ∷ rest) = ap (λ (l : List Progress). GoingOn ∷ l) (answers_are y rest)

-- the same as a relation: from state s the events are refused calls and advances of the job handed out last; these answer `answers`
unfoldable pub Answering : Setup → State → List Event → List Progress → Type 0
Answering u s [] answers = answers ≡ []
Answering u s (e ∷ more) answers =
    (T (refused s e) × Answering u (step u s e) more answers) ⊎
    ((a : Advances) × (e ≡ advanced_by a) × (a.sizes ≡ u.sizes) × (s.handed ≡ some (record { job = a.job; staging = a.staging })) ×
    (later : List Progress) × (answers ≡ (advance s.firmware s.ring s.fram a).progress ∷ later) × Answering u (step u s e) more later)

refused_answers : (u : Setup) (s : State) (e : Event) (more : List Event) → refused s e ≡ true → answers u (e ∷ more) s ≡ answers u more (step u s e)
unfolding answers
refused_answers u s e more r = rw r

advance_answers : (u : Setup) (s : State) (a : Advances) (more : List Event) → refused s (advanced_by a) ≡ false
    → answers u (advanced_by a ∷ more) s ≡ (advance s.firmware s.ring s.fram a).progress ∷ answers u more (step u s (advanced_by a))
unfolding answers answered
advance_answers u s a more r = rw r

answering_refused : (u : Setup) (s : State) (e : Event) (more : List Event) → T (refused s e) → Answering u (step u s e) more (answers u more (step u s e))
    → Answering u s (e ∷ more) (answers u (e ∷ more) s)
unfolding Answering
answering_refused u s e more r k =
    inl (r, subst (λ (l : List Progress). Answering u (step u s e) more l) (sym (refused_answers u s e more (T→true (refused s e) r))) k)

answering_advance : (u : Setup) (s : State) (e : Event) (more : List Event) → T (is_advance e) → Keeps u s e → Answering u (step u s e) more (answers u more (step u s e))
    → Answering u s (e ∷ more) (answers u (e ∷ more) s)
unfolding Answering is_advance Keeps
answering_advance u s (saved a) more t k l = absurd t
answering_advance u s (powered_up a) more t k l = absurd t
answering_advance u s PowerLoss more t k l = absurd t
answering_advance u s (lost_in_store left) more t k l = absurd t
answering_advance u s (updated_to next) more t k l = absurd t
answering_advance u s (advanced_by a) more t k l = go (refused s (advanced_by a)) refl
  where
    go : (b : Bool) → refused s (advanced_by a) ≡ b → Answering u s (advanced_by a ∷ more) (answers u (advanced_by a ∷ more) s)
    go true e = answering_refused u s (advanced_by a) more (T_true (refused s (advanced_by a)) e) l
    go false e = inr (a, refl, k.0, k.1, answers u more (step u s (advanced_by a)), advance_answers u s a more e, l)

pub answering : (u : Setup) (events : List Event) (s : State) → Uninterrupted u s events → Answering u s events (answers u events s)
unfolding Uninterrupted Answering answers
answering u [] s k = refl
answering u (e ∷ more) s (inl r, k) = answering_refused u s e more r (answering u more (step u s e) k)
answering u (e ∷ more) s (inr (t, p), k) = answering_advance u s e more t p (answering u more (step u s e) k)

-- from any state in which `stores` are left of the draft `new` of a power-up
abbrev pub Ends : Setup → Checkpoint → List Event → Type 0
Ends u new events = (t : State) → Holds u t → (stores : List Store) → t.journal.draft ≡ some (draft_of new PowerUp stores)
    → (stores ≡ [] → Ended u t new) → (answers : List Progress) → Answering u t events answers → length answers ≡ length stores
    → (answers ≡ answers_of stores) × Stands u (run u t events) new

no_stores : (l : List Store) → 0 ≡ length l → l ≡ []
no_stores [] e = refl
no_stores (x ∷ l) e = absurd (omega arith)

ends_nil : (u : Setup) (new : Checkpoint) → Ends u new []
unfolding Answering run
ends_nil u new t inv stores d f answers k l =
    let p : stores ≡ [] = no_stores stores (sym (ap (λ (a : List Progress). length a) k) ∙ l) in
    (k ∙ sym (ap (λ (y : List Store). answers_of y) p), stands u t new inv (f p))

ends_cons : (u : Setup) (new : Checkpoint) (e : Event) (more : List Event) → Ends u new more → Ends u new (e ∷ more)
unfolding Answering run
ends_cons u new e more ih t inv stores d f answers (inl (r, k)) l =
    let all = subst (λ (y : State). Holds u y × (y.journal.draft ≡ some (draft_of new PowerUp stores))
    × (stores ≡ [] → Ended u y new)) (sym (step_refused u t e r)) (inv, d, f) in
    ih (step u t e) all.0 stores all.1 all.2 answers k l
ends_cons u new e more ih t inv [] d f answers (inr (a, e', z, h, later, q, k)) l =
    let w : length answers ≡ suc (length later) = ap (λ (y : List Progress). length y) q in absurd (omega arith)
ends_cons u new e more ih t inv (x ∷ rest) d f answers (inr (a, e', z, h, later, q, k)) l =
    let path : call u (record { job = a.job; staging = a.staging }) ≡ a = λ i. record { sizes = sym z i; job = a.job; staging = a.staging } in
    let m = subst (λ (b : Advances). Moving u (step u t (advanced_by b)) (advance t.firmware t.ring t.fram b).progress new PowerUp rest) path
    (advancing u t (record { job = a.job; staging = a.staging }) inv new PowerUp x rest d h) in
    let m' = subst (λ (y : Event). Moving u (step u t y) (advance t.firmware t.ring t.fram a).progress new PowerUp rest) (sym e') m in
    let w : length answers ≡ suc (length later) = ap (λ (y : List Progress). length y) q in
    let v : length later ≡ length rest = omega arith in
    let y = ih (step u t e) m'.holds rest m'.draft_is m'.ended later k v in
    (q ∙ (λ i. m'.answered i ∷ y.0 i), y.1)

pub ends : (u : Setup) (new : Checkpoint) (events : List Event) → Ends u new events
ends u new [] = ends_nil u new
ends u new (e ∷ more) = ends_cons u new e more (ends u new more)

-- one advance for each store to come
pub advances_on : (u : Setup) (n : ℕ) (t : State) (h : Handed) → t.handed ≡ some h
    → advances_of u (suc n) t ≡ advanced_by (call u h) ∷ advances_of u n (step u t (advanced_by (call u h)))
unfolding advances_of with_handed
advances_on u n t h e = ap (λ (o : Option Handed). with_handed o (λ h. advanced_by (call u h) ∷ advances_of u n (step u t (advanced_by (call u h))))) e

runs_more : (u : Setup) (t : State) (h : Handed) (n : ℕ) → t.handed ≡ some h → is_stopped (advance t.firmware t.ring t.fram (call u h)).progress ≡ false
    → Uninterrupted u (step u t (advanced_by (call u h))) (advances_of u n (step u t (advanced_by (call u h))))
    → length (answers u (advances_of u n (step u t (advanced_by (call u h)))) (step u t (advanced_by (call u h)))) ≡ n
    → Uninterrupted u t (advances_of u (suc n) t) × (length (answers u (advances_of u (suc n) t) t) ≡ suc n)
unfolding Uninterrupted is_advance Keeps refused
runs_more u t h n e r k l =
    subst (λ (events : List Event). Uninterrupted u t events × (length (answers u events t) ≡ suc n)) (sym (advances_on u n t h e))
    ((inr (tt, (refl, e)), k), ap (λ (a : List Progress). length a) (advance_answers u t (call u h) (advances_of u n (step u t (advanced_by (call u h)))) r) ∙ ap suc l)

pub runs_on : (u : Setup) (new : Checkpoint) (stores : List Store) (t : State) (h : Handed) → Holds u t → t.handed ≡ some h
    → t.journal.draft ≡ some (draft_of new PowerUp stores)
    → Uninterrupted u t (advances_of u (length stores) t) × (length (answers u (advances_of u (length stores) t) t) ≡ length stores)
unfolding Uninterrupted answers advances_of
runs_on u new [] t h inv e d = (tt, refl)
runs_on u new (x ∷ rest) t h inv e d =
    let m = advancing u t h inv new PowerUp x rest d e in
    let more = runs_on u new rest (step u t (advanced_by (call u h))) m.handed m.holds m.handed_is m.draft_is in
    runs_more u t h (length rest) e (ap is_stopped m.answered ∙ going PowerUp rest) more.0 more.1

some_store : (xs : List Store) (y : Store) (ys : List Store) → (x : Store) × (rest : List Store) × (xs ++ y ∷ ys ≡ x ∷ rest)
some_store [] y ys = (y, ys, refl)
some_store (x ∷ xs) y ys = (x, xs ++ y ∷ ys, refl)

pub stores_some : (key : List ℕ) (slots : ℕ) (j : Journal) (c : Checkpoint) → (x : Store) × (rest : List Store) × (stores_of key slots j c ≡ x ∷ rest)
unfolding stores_of
stores_some key slots j c = some_store (erase_if j.owed ++ replicate (length (sealed key c) / 4) word) record_slot (erase_if (ltb 0 j.count && eqb (j.count % slots) 0))

pub answers_end : (stores : List Store) (answers : List Progress) (x : Store) (rest : List Store) → stores ≡ x ∷ rest → answers ≡ answers_of stores → length answers ≡ length stores
    → answers ≡ replicate (length stores - 1) GoingOn ++ Restored ∷ []
answers_end stores answers x rest e f l =
    let k : length stores ≡ suc (length rest) = ap (λ (y : List Store). length y) e in
    let n : length rest ≡ length stores - 1 = omega arith in
    f ∙ ap (λ (y : List Store). answers_of y) e ∙ answers_are x rest ∙ ap (λ (m : ℕ). replicate m GoingOn ++ Restored ∷ []) n
