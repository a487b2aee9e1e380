-- The theorem TraceRecovery: a trace whose nonces all differ goes on beside a list of the theorem Recovery. Assumes nothing.
use Rattle.std.proofs.Common.{ℕ, ◌^◌, ◌≤◌, ◌<◌, ◌≡◌, refl, sym, ap, subst, ◌∙◌, Bool, true, false, cond, ◌⊎◌, inl, inr, List, [], ◌∷◌, ◌++◌, append-nil, mod-lt, arith, T, eqb, lit<, length}
use mathlib.Core.Option.{Option, none, some}
use mathlib.Core.List.Memᴰ
use mathlib.Core.List.{Memᴰ}
use lib.ListN.{length-replicate}
use Rattle.octets.specs.Octets.{blank}
use Rattle.octets.proofs.Laws.{blank_erased}
use Rattle.octets.specs.Limits.{fram_limit, part_limit, nonce_length}
use Rattle.octets.proofs.Numbers.{length_bytes}
use Rattle.octets.specs.Word.{top_kind, low_value}
use Rattle.ring.specs.Ring.{Newest, Blank, Unreadable, At, AtPending, ring_wrong}
use Rattle.checkpoint.proofs.FramLaws.{an_image}
use Rattle.checkpoint.specs.Checkpoint.{Checkpoint}
use Rattle.checkpoint.specs.Fram.{fram_wrong, half_length}
use Rattle.protocol.specs.Types.{Job, Session, Progress, GoingOn, Saved, Restored, Refused, Start, Begun, Stopped, Firmware, this_firmware}
use Rattle.protocol.specs.Calls.{From, from_session, Event, saved, powered_up}
use Rattle.protocol.specs.Operations.{Begin, begin, job_of, first_phase, Moved, no_session, save, power_up}
use Rattle.protocol.specs.Journal.{Journal}
use Rattle.protocol.specs.History as history
use Rattle.protocol.specs.History.{State, fresh, begun, left_by, is_stop, is_stopped, refused, run, HandedOut, Keeps, Allowed}
use Rattle.protocol.specs.Recovery.{is_going, Fits, Last, Recovery}
use Rattle.protocol.proofs.Refused.{step_refused}
use Rattle.protocol.proofs.FreeResults.{no_session_stops}
use Rattle.protocol.proofs.Facts.{no_fact, T_true}
use Rattle.protocol.proofs.Invariant.{Holds}
use Rattle.protocol.proofs.Lists.{hold_run, hold_fresh}
use Rattle.protocol.proofs.Runs.{run_append, allowed_append}
use Rattle.protocol.proofs.Recovery.{recovery}
use Rattle.trace_words.specs.Words.{is_cut}
use Rattle.trace.specs.Trace.{bench_pages, bench_slots, ring_length, fram_length, bench_half, bench_staging, nonce_of, arguments, saving, zero_tag, powering_up, save_with, start, start_progress, started, stores_until, Bench, operation, session_from, session_after, operated, cut_set, step, after, line_after, printed, lines, blank_bench, key_refused}
use Rattle.trace.specs.Rule.{bench_setup, given, call, advances_while, loss_if, operation_events, events_of, call_answer, call_line, list_lines, nonces, AllDiffer, blank_state, trace_events, state_after, Ruled, TraceRecovery}
use Rattle.ring_line.specs.Text.{ring_text}
use Rattle.trace.proofs.Stores.{left, left_of, stored_still}
use Rattle.trace.proofs.WithoutSession.{without_session}
use Rattle.trace.proofs.Ends.{operation_kept}
use Rattle.trace.proofs.Moves.{moves}

-- ---- whatever the key

-- t comes after the call of a start that begins, and hands its job out
record Opened (s t : State) (b : Begin) (nonce : List ℕ) : Type 0 where
  ring : t.ring ≡ s.ring
  fram : t.fram ≡ s.fram
  firmware : t.firmware ≡ s.firmware
  handed : t.handed ≡ some (record { job = b.job; staging = b.staging })
  sessions : t.sessions ≡ s.sessions
  nonces : t.nonces ≡ nonce ∷ s.nonces

opened : (s : State) (answer : Start) (b c : Begin) (nonce : List ℕ) (j : Journal) → answer ≡ Begun → b ≡ c → Opened s (begun s answer b nonce j) c nonce
unfolding begun
opened s answer b c nonce j e f =
    let t = ap (λ (a : Start). begun s a b nonce j) e in
    record {
      ring = ap (λ (y : State). y.ring) t;
      fram = ap (λ (y : State). y.fram) t;
      firmware = ap (λ (y : State). y.firmware) t;
      handed = ap (λ (y : State). y.handed) t ∙ ap (λ (y : Begin). some (record { job = y.job; staging = y.staging })) f;
      sessions = ap (λ (y : State). y.sessions) t;
      nonces = ap (λ (y : State). y.nonces) t;
    }

stopped_not_begun : (x : ℕ) → Stopped x ≡ Begun → ⊥
stopped_not_begun x e = let z : ◌≡◌ {A = ℕ} 0 1 = cc in omega arith

-- a start that begins has a store to come
begin_to_come : (o : Option ℕ) (key : List ℕ) (c : Checkpoint) (job : Job) (staging state secret : List ℕ) → (begin o key c job staging state secret).answer ≡ Begun
    → 1 ≤ left_of job → 1 ≤ left_of (begin o key c job staging state secret).job
unfolding begin
begin_to_come (some x) key c job staging state secret e l = absurd (stopped_not_begun x e)
begin_to_come none key c job staging state secret e l = l

first_phase_left : (n : Newest) (k : ℕ) → 1 ≤ left (first_phase n) k
unfolding first_phase left
first_phase_left Blank k = omega arith
first_phase_left Unreadable k = omega arith
first_phase_left (At p q) k = omega arith
first_phase_left (AtPending p q) k = omega arith

-- where no stop ended the operation its line is the ring's
unrefused_line : (p : Progress) (ring : List ℕ) → is_stopped p ≡ false → line_after p ring ≡ ring_text bench_pages bench_slots ring
unfolding line_after is_stopped
unrefused_line GoingOn ring e = refl
unrefused_line Saved ring e = refl
unrefused_line Restored ring e = refl
unrefused_line (Refused n) ring e = no_fact e

-- what a power loss, or none, leaves
record Same (s t : State) : Type 0 where
  ring : t.ring ≡ s.ring
  fram : t.fram ≡ s.fram
  firmware : t.firmware ≡ s.firmware
  sessions : t.sessions ≡ s.sessions
  nonces : t.nonces ≡ s.nonces

line_kept : (a : Start) (s t : State) → t.ring ≡ s.ring → call_line a s ≡ call_line a t
unfolding call_line
line_kept Begun s t e = ap (ring_text bench_pages bench_slots) (sym e)
line_kept (Stopped n) s t e = refl

later_differ : (w : ℕ) (more : List ℕ) → AllDiffer (nonces (w ∷ more)) → (c : Bool) → is_cut w ≡ c → AllDiffer (nonces more)
unfolding nonces AllDiffer
later_differ w more d true e = subst (λ (c : Bool). AllDiffer (cond c (nonces more) (nonce_of (low_value w) ∷ nonces more))) e d
later_differ w more d false e = (subst (λ (c : Bool). AllDiffer (cond c (nonces more) (nonce_of (low_value w) ∷ nonces more))) e d).1

blank_ring : blank blank_bench.ring ≡ true
unfolding blank_bench
blank_ring = blank_erased ring_length

no_session_held : (z : Session) → blank_bench.session ≡ some z → ⊥
unfolding blank_bench
no_session_held z e = let y : ◌≡◌ {A = ℕ} 0 1 = cc in omega arith

blank_long : length blank_bench.fram ≡ fram_length
unfolding blank_bench
blank_long = length-replicate {A = ℕ} fram_length 0xFF

module _ (key : List ℕ) (right : key_refused key ≡ false) where
  -- ---- the call that begins an operation

  -- in state s the event is the call of the start b
  record CallOf (s : State) (e : Event) (b : Begin) (nonce : List ℕ) : Type 0 where
    stops : refused s e ≡ is_stop b.answer
    answers : call_answer s e ≡ b.answer
    opens : b.answer ≡ Begun → Opened s (history.step (bench_setup key) s e) b nonce
    keeps : (Memᴰ nonce s.nonces → ⊥) → T (refused s e) ⊎ Keeps (bench_setup key) s e

  -- the bench's unit and the list's state: the same memories, the unit's session handed out in the list, and no nonce of a start that began still to come
  record Like (b : Bench) (s : State) (words : List ℕ) : Type 0 where
    ring : s.ring ≡ b.ring
    fram : s.fram ≡ b.fram
    firmware : s.firmware ≡ this_firmware
    session : (z : Session) → b.session ≡ some z → Memᴰ z s.sessions
    holds : Holds (bench_setup key) s
    long : length b.fram ≡ fram_length
    unused : (n : List ℕ) → Memᴰ n s.nonces → Memᴰ n (nonces words) → ⊥

  module _ (s : State) (ring fram : List ℕ) (er : s.ring ≡ ring) (ef : s.fram ≡ fram) (eo : s.firmware ≡ this_firmware) (v : ℕ) (small : v < 2 ^ 28) where
    -- a save that may be given what it follows
    follows : (from : From) → HandedOut from s.sessions → CallOf s (saved (saving key v bench_staging from)) (save this_firmware ring fram (saving key v bench_staging from)) (nonce_of v)
    unfolding refused history.step left_by Keeps call_answer
    follows from m =
        let same : save s.firmware s.ring s.fram (saving key v bench_staging from) ≡ save this_firmware ring fram (saving key v bench_staging from) =
        λ i. save (eo i) (er i) (ef i) (saving key v bench_staging from) in
        record {
          stops = ap (λ (y : Begin). is_stop y.answer) same;
          answers = ap (λ (y : Begin). y.answer) same;
          opens = λ e. opened s _ _ _ _ _ (ap (λ (y : Begin). y.answer) same ∙ e) same;
          keeps = λ n. inr (refl, refl, n, m);
        }

    first_call : CallOf s (saved (saving key v bench_staging zero_tag)) (save this_firmware ring fram (saving key v bench_staging zero_tag)) (nonce_of v)
    unfolding HandedOut
    first_call = follows zero_tag tt

    next_call : Holds (bench_setup key) s → length s.fram ≡ fram_length → (o : Option Session) → ((z : Session) → o ≡ some z → Memᴰ z s.sessions)
        → CallOf s (saved (saving key v bench_staging (from_session (given o)))) (save_with key ring fram o v bench_staging) (nonce_of v)
    unfolding refused history.step left_by call_answer save_with is_stop HandedOut
    next_call inv long none m =
        let x = no_session_stops s.firmware s.ring s.fram (arguments key v bench_staging) no_session refl in
        let r : is_stop (save s.firmware s.ring s.fram (saving key v bench_staging (from_session no_session))).answer ≡ true = ap is_stop x.1 in
        let answer : (save s.firmware s.ring s.fram (saving key v bench_staging (from_session no_session))).answer ≡ Stopped (cond (blank ring) 6 8) =
        (λ i. (save (eo i) s.ring s.fram (saving key v bench_staging (from_session no_session))).answer) ∙ without_session key right s inv long v small ∙ ap (λ (y : List ℕ). Stopped (cond (blank y) 6 8)) er in
        record {
          stops = r;
          answers = answer;
          opens = λ e. absurd (stopped_not_begun _ e);
          keeps = λ n. inl (T_true _ r);
        }
    next_call inv long (some z) m = follows (from_session z) (m z refl)

    power_up_call : CallOf s (powered_up (powering_up key v bench_staging)) (power_up this_firmware ring fram (powering_up key v bench_staging)) (nonce_of v)
    unfolding refused history.step left_by Keeps call_answer
    power_up_call =
        let same : power_up s.firmware s.ring s.fram (powering_up key v bench_staging) ≡ power_up this_firmware ring fram (powering_up key v bench_staging) =
        λ i. power_up (eo i) (er i) (ef i) (powering_up key v bench_staging) in
        record {
          stops = ap (λ (y : Begin). is_stop y.answer) same;
          answers = ap (λ (y : Begin). y.answer) same;
          opens = λ e. opened s _ _ _ _ _ (ap (λ (y : Begin). y.answer) same ∙ e) same;
          keeps = λ n. inr (refl, refl, n);
        }

    any_call : Holds (bench_setup key) s → length s.fram ≡ fram_length → (first again : Bool) (o : Option Session) → ((z : Session) → o ≡ some z → Memᴰ z s.sessions)
        → CallOf s (cond first (saved (saving key v bench_staging zero_tag)) (cond again (saved (saving key v bench_staging (from_session (given o)))) (powered_up (powering_up key v bench_staging))))
        (cond first (save this_firmware ring fram (saving key v bench_staging zero_tag)) (cond again (save_with key ring fram o v bench_staging) (power_up this_firmware ring fram (powering_up key v bench_staging)))) (nonce_of v)
    any_call inv long true again o m = first_call
    any_call inv long false true o m = next_call inv long o m
    any_call inv long false false o m = power_up_call

  -- ---- an operation

  -- the bench's start of a word
  abbrev start_of : Bench → ℕ → Begin
  start_of b w = start key b.ring b.fram b.session w bench_staging

  called : (b : Bench) (s : State) (w : ℕ) (words : List ℕ) → Like b s words → CallOf s (call key b.session w) (start_of b w) (nonce_of (low_value w))
  unfolding call start
  called b s w words l = any_call s b.ring b.fram l.ring l.fram l.firmware (low_value w) (mod-lt w (lit< tt)) l.holds (ap length l.fram ∙ l.long) (eqb (top_kind w) 1) (eqb (top_kind w) 2) b.session l.session

  kind_to_come : (ring fram : List ℕ) (o : Option Session) (v : ℕ) (first again : Bool)
      → (cond first (save this_firmware ring fram (saving key v bench_staging zero_tag)) (cond again (save_with key ring fram o v bench_staging) (power_up this_firmware ring fram (powering_up key v bench_staging)))).answer ≡ Begun
      → 1 ≤ left_of (cond first (save this_firmware ring fram (saving key v bench_staging zero_tag)) (cond again (save_with key ring fram o v bench_staging) (power_up this_firmware ring fram (powering_up key v bench_staging)))).job
  unfolding save power_up save_with job_of left
  kind_to_come ring fram o v true again e = begin_to_come _ _ _ _ _ _ _ e (omega arith)
  kind_to_come ring fram none v false true e = absurd (stopped_not_begun _ e)
  kind_to_come ring fram (some z) v false true e = begin_to_come _ _ _ _ _ _ _ e (omega arith)
  kind_to_come ring fram o v false false e = begin_to_come _ _ _ _ _ _ _ e (first_phase_left _ _)

  start_to_come : (b : Bench) (w : ℕ) → (start_of b w).answer ≡ Begun → 1 ≤ left_of (start_of b w).job
  unfolding start
  start_to_come b w e = kind_to_come b.ring b.fram b.session (low_value w) (eqb (top_kind w) 1) (eqb (top_kind w) 2) e

  -- what the operation and its part of the list come to, before a power loss
  record Comes (b : Bench) (s t : State) (w : ℕ) : Type 0 where
    ring : t.ring ≡ (operation key b w).ring
    fram : t.fram ≡ (operation key b w).fram
    firmware : t.firmware ≡ this_firmware
    kept : (z : Session) → Memᴰ z s.sessions → Memᴰ z t.sessions
    new : (z : Session) → session_from (operation key b w).progress (operation key b w).session none ≡ some z → Memᴰ z t.sessions
    used : (n : List ℕ) → Memᴰ n t.nonces → (n ≡ nonce_of (low_value w)) ⊎ Memᴰ n s.nonces
    line : line_after (operation key b w).progress (operation key b w).ring ≡ call_line (call_answer s (call key b.session w)) t
    unstopped : (start_of b w).answer ≡ Begun → is_stopped (operation key b w).progress ≡ false

  -- its events up to a power loss
  abbrev main_events : Bench → State → ℕ → List Event
  main_events b s w =
      let e = call key b.session w in
      e ∷ cond (refused s e) [] (advances_while key (stores_until b.cut) (history.step (bench_setup key) s e))

  abbrev Main : Bench → State → ℕ → Type 0
  Main b s w = Allowed (bench_setup key) s (main_events b s w) × Comes b s (run (bench_setup key) s (main_events b s w)) w

  module _ (b : Bench) (s : State) (w : ℕ) (more : List ℕ) (l : Like b s (w ∷ more)) (op : is_cut w ≡ false) where
    here : nonces (w ∷ more) ≡ nonce_of (low_value w) ∷ nonces more
    unfolding nonces
    here = rw op

    c : CallOf s (call key b.session w) (start_of b w) (nonce_of (low_value w))
    c = called b s w (w ∷ more) l

    new_nonce : Memᴰ (nonce_of (low_value w)) s.nonces → ⊥
    new_nonce m = l.unused _ m (subst (λ (y : List (List ℕ)). Memᴰ (nonce_of (low_value w)) y) (sym here) (Memᴰ.head refl))

    -- a start that stops
    comes_stopped : (x : ℕ) → (start_of b w).answer ≡ Stopped x → Main b s w
    unfolding run Allowed is_stop operation started start_progress is_going session_from line_after call_line
    comes_stopped x e =
        let r : refused s (call key b.session w) ≡ true = c.stops ∙ ap is_stop e in
        let t : history.step (bench_setup key) s (call key b.session w) ≡ s = step_refused (bench_setup key) s (call key b.session w) (T_true _ r) in
        let m : operation key b w ≡ started b.ring b.fram (start_of b w) = stored_still (stores_until b.cut) _ _ (ap (λ (a : Start). is_going (start_progress a)) e) in
        let list : main_events b s w ≡ call key b.session w ∷ [] = ap (λ (y : Bool). call key b.session w ∷ cond y [] (advances_while key (stores_until b.cut) (history.step (bench_setup key) s (call key b.session w)))) r in
        subst (λ (y : List Event). Allowed (bench_setup key) s y × Comes b s (run (bench_setup key) s y) w) (sym list) (
          (c.keeps new_nonce, tt),
          subst (λ (y : State). Comes b s y w) (sym t) (record {
            ring = l.ring ∙ sym (ap (λ (y : Moved). y.ring) m);
            fram = l.fram ∙ sym (ap (λ (y : Moved). y.fram) m);
            firmware = l.firmware;
            kept = λ z k. k;
            new = λ z k. absurd (nothing z (sym (ap (λ (y : Moved). session_from y.progress y.session none) m ∙ ap (λ (a : Start). session_from (start_progress a) no_session none) e) ∙ k));
            used = λ n k. inr k;
            line = ap (λ (y : Moved). line_after y.progress y.ring) m ∙ ap (λ (a : Start). line_after (start_progress a) b.ring) e ∙ sym (ap (λ (a : Start). call_line a s) (c.answers ∙ e));
            unstopped = λ q. absurd (stopped_not_begun x (sym e ∙ q));
          }),
        )
      where
        nothing : (z : Session) → none ≡ some z → ⊥
        nothing z q = let y : ◌≡◌ {A = ℕ} 0 1 = cc in omega arith

    -- a start that begins
    comes_begun : (start_of b w).answer ≡ Begun → Main b s w
    unfolding run Allowed is_stop operation started start_progress call_line
    comes_begun e =
        let t = history.step (bench_setup key) s (call key b.session w) in
        let o = c.opens e in
        let r : refused s (call key b.session w) ≡ false = c.stops ∙ ap is_stop e in
        let x = moves key (start_of b w).staging (stores_until b.cut) (started b.ring b.fram (start_of b w)) t (record { job = (start_of b w).job; staging = (start_of b w).staging }) (record {
          ring = o.ring ∙ l.ring;
          fram = o.fram ∙ l.fram;
          firmware = o.firmware ∙ l.firmware;
          handed = o.handed;
          job = refl;
          lent = refl;
          going = ap start_progress e;
          holds = hold_run (bench_setup key) (call key b.session w ∷ []) s l.holds (c.keeps new_nonce, tt);
          to_come = start_to_come b w e;
        }) in
        let list : main_events b s w ≡ call key b.session w ∷ advances_while key (stores_until b.cut) t = ap (λ (y : Bool). call key b.session w ∷ cond y [] (advances_while key (stores_until b.cut) t)) r in
        subst (λ (y : List Event). Allowed (bench_setup key) s y × Comes b s (run (bench_setup key) s y) w) (sym list) (
          (c.keeps new_nonce, x.0),
          record {
            ring = x.1.ring;
            fram = x.1.fram;
            firmware = x.1.firmware;
            kept = λ z k. x.1.kept z (subst (λ (y : List Session). Memᴰ z y) (sym o.sessions) k);
            new = x.1.new;
            used = λ n k. Memᴰ.cases_cons (subst (λ (y : List (List ℕ)). Memᴰ n y) (x.1.nonces ∙ o.nonces) k);
            line = unrefused_line (operation key b w).progress (operation key b w).ring x.1.unrefused ∙ ap (ring_text bench_pages bench_slots) (sym x.1.ring)
                ∙ sym (ap (λ (a : Start). call_line a (run (bench_setup key) t (advances_while key (stores_until b.cut) t))) (c.answers ∙ e));
            unstopped = λ q. x.1.unrefused;
          },
        )

    comes : Main b s w
    comes = go (start_of b w).answer refl
      where
        go : (a : Start) → (start_of b w).answer ≡ a → Main b s w
        go Begun e = comes_begun e
        go (Stopped x) e = comes_stopped x e

  -- ---- a power loss behind it

  lost : (cut : Option ℕ) (s : State) → Allowed (bench_setup key) s (loss_if cut) × Same s (run (bench_setup key) s (loss_if cut))
  unfolding loss_if run Allowed Keeps history.step left_by
  lost none s = (tt, record { ring = refl; fram = refl; firmware = refl; sessions = refl; nonces = refl })
  lost (some n) s = ((inr tt, tt), record { ring = refl; fram = refl; firmware = refl; sessions = refl; nonces = refl })

  -- the session of the unit after an operation is handed out in the list
  session_in : (b : Bench) (s t : State) (w : ℕ) (words : List ℕ) → Like b s words → Comes b s t w → (cut : Option ℕ) (z : Session)
      → session_after cut (operation key b w) b.session ≡ some z → Memᴰ z t.sessions
  unfolding session_after session_from
  session_in b s t w words l k (some n) z e = absurd (let y : ◌≡◌ {A = ℕ} 0 1 = cc in omega arith)
  session_in b s t w words l k none z e = go (operation key b w).progress refl e
    where
      before : b.session ≡ some z → Memᴰ z t.sessions
      before q = k.kept z (l.session z q)

      go : (p : Progress) → (operation key b w).progress ≡ p → session_from p (operation key b w).session b.session ≡ some z → Memᴰ z t.sessions
      go GoingOn f q = before q
      go Saved f q = k.new z (ap (λ (p : Progress). session_from p (operation key b w).session none) f ∙ q)
      go Restored f q = k.new z (ap (λ (p : Progress). session_from p (operation key b w).session none) f ∙ q)
      go (Refused x) f q = before q

  -- the rest of a trace goes on beside the rest of the list, up to the words `to_come`
  abbrev Goes : State → List Event → Bench → List ℕ → Type 0
  Goes s events b' to_come = Allowed (bench_setup key) s events × Like b' (run (bench_setup key) s events) to_come

  operates : (b : Bench) (s : State) (w : ℕ) (more : List ℕ) → Like b s (w ∷ more) → is_cut w ≡ false → AllDiffer (nonces (w ∷ more))
      → Goes s (operation_events key b s w) (operated key b w) more
      × (line_after (operation key b w).progress (operation key b w).ring ≡ call_line (call_answer s (call key b.session w)) (run (bench_setup key) s (operation_events key b s w)))
  unfolding operation_events operated AllDiffer
  operates b s w more l op d =
      let x = comes b s w more l op in
      let events = main_events b s w in
      let t = run (bench_setup key) s events in
      let y = lost b.cut t in
      let path : run (bench_setup key) s (events ++ loss_if b.cut) ≡ run (bench_setup key) t (loss_if b.cut) = run_append (bench_setup key) events (loss_if b.cut) s in
      let allowed = allowed_append (bench_setup key) events (loss_if b.cut) s x.0 y.0 in
      let differ : AllDiffer (nonce_of (low_value w) ∷ nonces more) = subst AllDiffer (here b s w more l op) d in (
        (
          allowed,
          record {
            ring = ap (λ (q : State). q.ring) path ∙ y.1.ring ∙ x.1.ring;
            fram = ap (λ (q : State). q.fram) path ∙ y.1.fram ∙ x.1.fram;
            firmware = ap (λ (q : State). q.firmware) path ∙ y.1.firmware ∙ x.1.firmware;
            session = λ z e. subst (λ (q : List Session). Memᴰ z q) (sym (ap (λ (q : State). q.sessions) path ∙ y.1.sessions)) (session_in b s t w (w ∷ more) l x.1 b.cut z e);
            holds = hold_run (bench_setup key) (events ++ loss_if b.cut) s l.holds allowed;
            long = operation_kept key b w ∙ l.long;
            unused = λ n m k.
                unused_on n (x.1.used n (subst (λ (q : List (List ℕ)). Memᴰ n q) (ap (λ (q : State). q.nonces) path ∙ y.1.nonces) m)) differ.0 k;
          },
        ),
        x.1.line ∙ line_kept _ t _ (ap (λ (q : State). q.ring) path ∙ y.1.ring),
      )
    where
      unused_on : (n : List ℕ) → (n ≡ nonce_of (low_value w)) ⊎ Memᴰ n s.nonces → (Memᴰ (nonce_of (low_value w)) (nonces more) → ⊥) → Memᴰ n (nonces more) → ⊥
      unused_on n (inl e) f k = f (subst (λ (q : List ℕ). Memᴰ q (nonces more)) e k)
      unused_on n (inr m) f k = l.unused n m (subst (λ (q : List (List ℕ)). Memᴰ n q) (sym (here b s w more l op)) (Memᴰ.tail k))

  -- ---- a trace

  -- a cut is set
  sets : (b : Bench) (s : State) (w n : ℕ) (more : List ℕ) → Like b s (w ∷ more) → is_cut w ≡ true → Goes s [] (cut_set b n) more
  unfolding cut_set run Allowed nonces
  sets b s w n more l e = (
    tt,
    record {
      ring = l.ring;
      fram = l.fram;
      firmware = l.firmware;
      session = l.session;
      holds = l.holds;
      long = l.long;
      unused = λ m k h. l.unused m k (rw e h);
    },
  )

  -- a word, with the line that it prints
  one : (b : Bench) (s : State) (w : ℕ) (more : List ℕ) → Like b s (w ∷ more) → AllDiffer (nonces (w ∷ more)) → (c : Bool) → is_cut w ≡ c
      → Goes s (cond c [] (operation_events key b s w)) (cond c (cut_set b (low_value w)) (operated key b w)) more
      × (cond c [] (line_after (operation key b w).progress (operation key b w).ring)
      ≡ cond c [] (call_line (call_answer s (call key b.session w)) (run (bench_setup key) s (cond c [] (operation_events key b s w)))))
  one b s w more l d true e = (sets b s w (low_value w) more l e, refl)
  one b s w more l d false e = operates b s w more l e d

  goes : (to_come words : List ℕ) (b : Bench) (s : State) → Like b s (words ++ to_come) → AllDiffer (nonces (words ++ to_come))
      → Goes s (events_of key b s words) (after key b words) to_come × (lines key b words ≡ list_lines key b s words)
  unfolding events_of after step run Allowed lines printed list_lines
  goes to_come [] b s l d = ((tt, l), refl)
  goes to_come (w ∷ more) b s l d =
      let x = one b s w (more ++ to_come) l d (is_cut w) refl in
      let events = cond (is_cut w) [] (operation_events key b s w) in
      let rest = goes to_come more (step key b w) (run (bench_setup key) s events) x.0.1 (later_differ w (more ++ to_come) d (is_cut w) refl) in (
        (allowed_append (bench_setup key) events _ s x.0.0 rest.0.0, subst (λ (q : State). Like (after key (step key b w) more) q to_come) (sym (run_append (bench_setup key) events _ s)) rest.0.1),
        λ i. x.1 i ++ rest.1 i,
      )

  fits : Fits (bench_setup key) this_firmware blank_bench.ring blank_bench.fram
  unfolding blank_bench ring_wrong fram_wrong
  fits = record { ring_right = refl; fram_right = refl; key_right = right }

  like_blank : (words : List ℕ) → Like blank_bench blank_state words
  unfolding blank_state fresh
  like_blank words = record {
    ring = refl;
    fram = refl;
    firmware = refl;
    session = λ z e. absurd (no_session_held z e);
    holds = hold_fresh (bench_setup key) this_firmware blank_bench.ring blank_bench.fram fits.ring_right (an_image fram_limit blank_bench.fram fits.fram_right) blank_ring;
    long = blank_long;
    unused = λ n m k. Memᴰ.not-nil m;
  }

  -- the last power-up of Recovery, with what the bench gives it
  last_call : (words : List ℕ) (w : ℕ) → is_cut w ≡ false → Like (after key blank_bench words) (state_after key words) (w ∷ []) → Last (bench_setup key) (state_after key words) (powering_up key (low_value w) bench_staging)
  unfolding nonces half_length
  last_call words w op l = record {
    sizes = refl;
    key = refl;
    nonce_long = length_bytes nonce_length (low_value w);
    nonce_new = λ m. l.unused _ m (rw op (Memᴰ.head refl));
    staging = let e = ap length l.fram ∙ l.long in omega (arith, e, length-replicate {A = ℕ} bench_half 0);
    state = rw l.firmware (omega (arith, length-replicate {A = ℕ} part_limit 0));
  }

  ruled : (words : List ℕ) → AllDiffer (nonces words) → Ruled key words
  unfolding Recovery blank_state
  ruled words d =
      let x = goes [] words blank_bench blank_state (like_blank (words ++ [])) (subst (λ (y : List ℕ). AllDiffer (nonces y)) (sym (append-nil words)) d) in
      let r = recovery (bench_setup key) this_firmware blank_bench.ring blank_bench.fram blank_ring (trace_events key words) x.0.0 in
      let all = r.1 (subst (λ (f : Firmware). Fits (bench_setup key) f blank_bench.ring blank_bench.fram) (sym x.0.1.firmware) fits) in
      record {
        allowed = x.0.0;
        firmware = x.0.1.firmware;
        ring = x.0.1.ring;
        fram = x.0.1.fram;
        printed = x.1;
        exactly = r.0;
        seen = all.0;
        outcome = all.1;
        next = λ w op e. all.1 _ (last_call words w op (like_next w e));
        unstopped = λ w op e q. (comes (after key blank_bench words) (state_after key words) w [] (like_next w e) op).1.unstopped q;
      }
    where
      like_next : (w : ℕ) → AllDiffer (nonces (words ++ w ∷ [])) → Like (after key blank_bench words) (state_after key words) (w ∷ [])
      like_next w e = (goes (w ∷ []) words blank_bench blank_state (like_blank (words ++ w ∷ [])) e).0.1

pub trace_recovery : TraceRecovery
unfolding TraceRecovery
trace_recovery key right words d = ruled key right words d
