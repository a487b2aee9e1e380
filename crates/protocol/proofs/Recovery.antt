-- The theorem Recovery (document 01: demand 3, the cut rule).
use Prim.Native.Nat.{ℕ, ◌+◌, ◌≤◌, ◌<◌}
use mathlib.Core.Path.{◌≡◌, refl, sym, ap, subst, ◌∙◌}
use mathlib.Core.Bool.{Bool, true, false, cond}
use mathlib.Core.Logic.{inl, inr}
use mathlib.Core.Option.{Option, none, some}
use mathlib.Core.List.{List, [], ◌∷◌}
use native.Mathlib.Omega.{arith}
use lib.ListN.{length}
use lib.Dec.{eqb, ltb}
use borrow.Author.Tests.{eq-eqb, ne_eqb, le-ltb, lt-ltb, eqb-true, eqb-false, ltb-true, ltb-false}
use Rattle.octets.specs.Limits.{restart_limit}
use Rattle.octets.specs.Octets.{put, blank}
use Rattle.stops.specs.Stops.{first_of}
use Rattle.ring.specs.Ring.{ring_wrong, nonce_used}
use Rattle.checkpoint.proofs.FramLaws.{an_image, wrong_at_any}
use Rattle.checkpoint.specs.Checkpoint.{Checkpoint, sealed, sealed_length}
use Rattle.checkpoint.specs.Fram.{fram_wrong, half_length}
use Rattle.protocol.specs.Types.{Firmware, PowerUp, Begun, Stopped}
use Rattle.protocol.specs.Calls.{PowersUp, Setup, Event, powered_up}
use Rattle.protocol.specs.Operations.{key_wrong, newest_in, Begin, begin, power_up_stop, power_up}
use Rattle.protocol.specs.Journal.{Store, drafted, stores_of, power_up_draft}
use Rattle.protocol.specs.History.{State, fresh, step, run, Allowed}
use Rattle.protocol.specs.Orders.{AnyNonce}
use Rattle.protocol.specs.Recovery.{start_answer, Exactly, Fits, Last, answers, Resumes, Outgrown, Outcome, Recovery}
use Rattle.protocol.proofs.Lengths.{after}
use Rattle.protocol.proofs.Invariant.{draft_of, DurableAt, Untouched, Holds, Ended}
use Rattle.protocol.proofs.Reading.{reads, new_nonce}
use Rattle.protocol.proofs.Turns.{new_in_turn}
use Rattle.protocol.proofs.LastStops.{large, resealed_long, answer_is, stop_blank, stop_entry}
use Rattle.protocol.proofs.Starts.{started}
use Rattle.protocol.proofs.PowerUps.{power_call, Entry, resuming_job, power_up_is, resuming_holds, step_is}
use Rattle.protocol.proofs.Lists.{exactly, exactly_uninterrupted, exactly_unfit, hold_fresh}
use Rattle.protocol.proofs.LastRun.{ends, runs_on, answering, stores_some, answers_end}
use Rattle.protocol.proofs.Looking.{seen}

-- ---- what the last power-up answers

module _ (u : Setup) (s : State) (inv : Holds u s) (a : PowersUp) (keyed : key_wrong s.firmware.key_lengths (length u.key) ≡ false)
    (framed : fram_wrong s.firmware.largest_fram s.fram ≡ false) (l : Last u s (power_call u a)) where
  any : AnyNonce u s (power_call u a)
  any = record { sizes = l.sizes; key = l.key; nonce_long = l.nonce_long; staging = l.staging; state = l.state }

  abbrev stop : Option ℕ
  stop = power_up_stop s.firmware s.ring s.fram (power_call u a)

  unused : (c : Checkpoint) → Entry u s c → nonce_used s.ring u.sizes.slots (newest_in s.ring u.sizes) a.nonce ≡ false
  unused c r = rw (reads inv.fram_right r) (new_nonce inv.fram_right r a.nonce l.nonce_new)

  pub stop_recorded : (c : Checkpoint) → Entry u s c
      → stop ≡ cond (eqb c.restarts restart_limit) (some 13) (cond (ltb (half_length s.fram) (sealed_length s.firmware.form (length c.open_part) (length c.secret))) (some 4) none)
  unfolding first_of
  stop_recorded c r = stop_entry u s inv a keyed framed any s.firmware.order c r ∙ new_in_turn s.firmware.order _ _ 10 (unused c r)

  -- with nothing recorded
  outcome_blank : Untouched s.ring s.journal.entry s.journal.count s.journal.owed s.journal.power_ups → Outcome u s (power_call u a)
  unfolding start_answer
  outcome_blank x =
      let e : (power_up s.firmware s.ring s.fram (power_call u a)).answer ≡ Stopped 6 = answer_is s.firmware s (power_call u a) (some 6) (stop_blank u s inv a keyed framed any x.ring_blank) in
      record {
        nothing = (λ q. x.no_entry, λ q. e);
        worn = (λ q. absurd (let z : ◌≡◌ {A = ℕ} 0 1 = cc in omega arith), λ q. absurd (omega (arith, x.no_power_up)));
        outgrown = (λ q. absurd (let z : ◌≡◌ {A = ℕ} 0 1 = cc in omega arith), λ q. absurd (let p = x.no_entry in let y = q.1 in let z : ◌≡◌ {A = ℕ} 0 1 = cc in omega arith));
        resumes = λ c q f g. absurd (let p = x.no_entry in let z : ◌≡◌ {A = ℕ} 0 1 = cc in omega arith);
      }

  outcome_worn : (c : Checkpoint) → Entry u s c → c.restarts ≡ restart_limit → Outcome u s (power_call u a)
  unfolding start_answer
  outcome_worn c r w =
      let e : (power_up s.firmware s.ring s.fram (power_call u a)).answer ≡ Stopped 13 = answer_is s.firmware s (power_call u a) (some 13) (stop_recorded c r ∙ ap (λ (b : Bool). cond b (some 13) (cond (large s c) (some 4) none)) (eq-eqb c.restarts restart_limit w)) in
      let p = r.entry_is in
      record {
        nothing = (λ q. absurd (let z : ◌≡◌ {A = ℕ} 0 1 = cc in omega arith), λ q. absurd (let z : ◌≡◌ {A = ℕ} 0 1 = cc in omega arith));
        worn = (λ q. r.restarts_are ∙ w, λ q. e);
        outgrown = (λ q. absurd (let z : ◌≡◌ {A = ℕ} 0 1 = cc in omega arith), λ q. absurd (q.2 (r.restarts_are ∙ w)));
        resumes = λ c' q f g. absurd (f (r.restarts_are ∙ w));
      }

  outcome_outgrown : (c : Checkpoint) → Entry u s c → (c.restarts ≡ restart_limit → ⊥)
      → half_length s.fram < sealed_length s.firmware.form (length c.open_part) (length c.secret) → Outcome u s (power_call u a)
  unfolding start_answer
  outcome_outgrown c r few large-one =
      let w : large s c ≡ true = lt-ltb (half_length s.fram) (sealed_length s.firmware.form (length c.open_part) (length c.secret)) large-one in
      let e : (power_up s.firmware s.ring s.fram (power_call u a)).answer ≡ Stopped 4 = answer_is s.firmware s (power_call u a) (some 4) (stop_recorded c r ∙ (λ i. cond (ne_eqb c.restarts restart_limit few i) (some 13) (cond (w i) (some 4) none))) in
      let p = r.entry_is in
      let g : Outgrown u s (power_call u a) c = rw (resealed_long u s a c) large-one in
      record {
        nothing = (λ q. absurd (let z : ◌≡◌ {A = ℕ} 0 1 = cc in omega arith), λ q. absurd (let z : ◌≡◌ {A = ℕ} 0 1 = cc in omega arith));
        worn = (λ q. absurd (let z : ◌≡◌ {A = ℕ} 0 1 = cc in omega arith), λ q. absurd (few (sym r.restarts_are ∙ q)));
        outgrown = (λ q. (c, p, (λ k. few (sym r.restarts_are ∙ k)), g), λ q. e);
        resumes = λ c' q f f'. absurd (let z : c ≡ c' = cc in f' (subst (λ (y : Checkpoint). Outgrown u s (power_call u a) y) z g));
      }

  module _ (c : Checkpoint) (r : Entry u s c) (few : c.restarts ≡ restart_limit → ⊥)
      (fits : sealed_length s.firmware.form (length c.open_part) (length c.secret) ≤ half_length s.fram) where
    pub stop_none : stop ≡ none
    stop_none =
        let w : large s c ≡ false = le-ltb (half_length s.fram) (sealed_length s.firmware.form (length c.open_part) (length c.secret)) fits in
        stop_recorded c r ∙ (λ i. cond (ne_eqb c.restarts restart_limit few i) (some 13) (cond (w i) (some 4) none))

    pub power_up_begins : power_up s.firmware s.ring s.fram (power_call u a) ≡ record {
      answer = Begun;
      job = resuming_job u s (power_up_draft s.firmware.form u.key a.nonce c);
      secret_length = length c.secret;
      staging = put a.staging 0 (sealed u.key (power_up_draft s.firmware.form u.key a.nonce c));
      state = put a.state 0 c.secret;
    }
    unfolding begin
    power_up_begins = power_up_is u s inv a c r
        ∙ ap (λ (o : Option ℕ). begin o u.key (power_up_draft s.firmware.form u.key a.nonce c) (resuming_job u s (power_up_draft s.firmware.form u.key a.nonce c)) a.staging a.state c.secret) stop_none

    resumes_entry : Resumes u s (power_call u a) c
    unfolding drafted power_up_draft
    resumes_entry = record {
      begins = ap (λ (b : Begin). b.answer) power_up_begins;
      length_answered = ap (λ (b : Begin). b.secret_length) power_up_begins;
      restored = ap (λ (b : Begin). b.state) power_up_begins;
      runs = runs_on u new stores t (record { job = resuming_job u s new; staging = put a.staging 0 (sealed u.key new) }) holds (ap (λ (y : State). y.handed) is) draft;
      ends = λ events k n.
          let x = ends u new events t holds stores draft (λ q. no_end q) (answers u events t) (answering u events t k) n in
          (answers_end stores (answers u events t) y.0 y.1 y.2 x.0 n, exactly_uninterrupted u events t holds k, x.1);
    }
      where
        new : Checkpoint
        new = power_up_draft s.firmware.form u.key a.nonce c

        t : State
        t = step u s (powered_up (power_call u a))

        stores : List Store
        stores = stores_of u.key u.sizes.slots s.journal new

        is : t ≡ started u s new PowerUp (s.journal.power_ups + 1) (resuming_job u s new) a.staging
        is = step_is u s inv a c r stop_none

        holds : Holds u t
        holds = subst (λ (y : State). Holds u y) (sym is) (resuming_holds u s inv a c r framed l.nonce_long l.staging l.nonce_new few fits)

        draft : t.journal.draft ≡ some (draft_of new PowerUp stores)
        draft = ap (λ (y : State). y.journal.draft) is ∙ (λ i. some (record { checkpoint = new; origin = PowerUp; power_ups = r.restarts_are i + 1; stores = stores }))

        y : (x : Store) × (rest : List Store) × (stores ≡ x ∷ rest)
        y = stores_some u.key u.sizes.slots s.journal new

        no_end : stores ≡ [] → Ended u t new
        no_end q = absurd (let k = ap (λ (z : List Store). length z) y.2 in let k' = ap (λ (z : List Store). length z) q in omega arith)

    too_large : (d : Checkpoint) → s.journal.entry ≡ some d → Outgrown u s (power_call u a) d → ⊥
    too_large d q g =
        let p = r.entry_is in
        let z : d ≡ c = cc in
        let k : Outgrown u s (power_call u a) c = subst (λ (y : Checkpoint). Outgrown u s (power_call u a) y) z g in
        omega (arith, k, resealed_long u s a c, fits)

    outcome_resumes : Outcome u s (power_call u a)
    outcome_resumes =
        let e = ap (λ (b : Begin). b.answer) power_up_begins in
        let p = r.entry_is in
        record {
          nothing = (λ q. absurd (let z : ◌≡◌ {A = ℕ} 0 1 = cc in omega arith), λ q. absurd (let z : ◌≡◌ {A = ℕ} 0 1 = cc in omega arith));
          worn = (λ q. absurd (let z : ◌≡◌ {A = ℕ} 0 1 = cc in omega arith), λ q. absurd (few (sym r.restarts_are ∙ q)));
          outgrown = (λ q. absurd (let z : ◌≡◌ {A = ℕ} 0 1 = cc in omega arith), λ q. absurd (too_large q.0 q.1 q.3));
          resumes = λ c' q f g. let z : c ≡ c' = cc in subst (λ (y : Checkpoint). Resumes u s (power_call u a) y) z resumes_entry;
        }

  pub outcome : Outcome u s (power_call u a)
  outcome = go inv.durable
    where
      cases : (c : Checkpoint) → Entry u s c → (b b' : Bool) → eqb c.restarts restart_limit ≡ b → large s c ≡ b' → Outcome u s (power_call u a)
      cases c r true b' e f = outcome_worn c r (eqb-true c.restarts restart_limit e)
      cases c r false true e f = outcome_outgrown c r (eqb-false c.restarts restart_limit e) (ltb-true _ _ f)
      cases c r false false e f = outcome_resumes c r (eqb-false c.restarts restart_limit e) (ltb-false _ _ f)

      go : DurableAt u s s.ring s.fram s.journal.owed → Outcome u s (power_call u a)
      go (inl x) = outcome_blank x
      go (inr (c, r)) = cases c r (eqb c.restarts restart_limit) (large s c) refl refl

exactly_fresh : (u : Setup) (firmware : Firmware) (ring fram : List ℕ) → blank ring ≡ true → (events : List Event) → Allowed u (fresh firmware ring fram) events
    → (x y : Bool) → ring_wrong u.sizes.pages u.sizes.slots ring ≡ x → fram_wrong (length fram) fram ≡ y → Exactly u (fresh firmware ring fram) events
unfolding fresh
exactly_fresh u firmware ring fram b events k false false p q = exactly u events (fresh firmware ring fram) (hold_fresh u firmware ring fram p (an_image (length fram) fram q) b) k
exactly_fresh u firmware ring fram b events k true y p q = exactly_unfit u events (fresh firmware ring fram) (record { wrong = inl p; none_handed = refl }) k
exactly_fresh u firmware ring fram b events k false true p q = exactly_unfit u events (fresh firmware ring fram) (record { wrong = inr (wrong_at_any fram q); none_handed = refl }) k

pub recovery : Recovery
unfolding Recovery fresh
recovery u firmware ring fram b events k = (
  exactly_fresh u firmware ring fram b events k (ring_wrong u.sizes.pages u.sizes.slots ring) (fram_wrong (length fram) fram) refl refl,
  λ f. let x = after u firmware ring fram b events k f in (seen u s x.0 x.1 f.key_right, after_list f),
)
  where
    s : State
    s = run u (fresh firmware ring fram) events

    after_list : Fits u s.firmware ring fram → (a : PowersUp) → Last u s a → Outcome u s a
    after_list f a l =
        let x = after u firmware ring fram b events k f in
        let path : power_call u a ≡ a = λ i. record { sizes = sym l.sizes i; key = sym l.key i; nonce = a.nonce; staging = a.staging; state = a.state } in
        subst (λ (y : PowersUp). Outcome u s y) path (outcome u s x.0 a f.key_right x.1 (subst (λ (y : PowersUp). Last u s y) (sym path) l))
