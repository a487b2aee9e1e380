-- The two orders of a power-up's stops compared, and what a power-up after a list answers whatever its nonce.
use Prim.Native.Nat.{ℕ, ◌<◌}
use mathlib.Core.Path.{◌≡◌, refl, sym, ap, subst, ◌∙◌}
use mathlib.Core.Bool.{Bool, true, false, cond}
use mathlib.Core.Logic.{inl, inr}
use mathlib.Core.Option.{Option, none, some}
use mathlib.Core.List.{List, [], ◌∷◌, ◌++◌}
use native.Mathlib.Omega.{arith}
use lib.ListN.{length}
use lib.Dec.{eqb, lit<}
use borrow.Author.Tests.{eq-eqb, eqb-true, eqb-false, ltb-true, ltb-false}
use Rattle.octets.specs.Limits.{restart_limit}
use Rattle.stops.specs.Stops.{first_of}
use Rattle.ring.specs.Ring.{nonce_used}
use Rattle.checkpoint.specs.Checkpoint.{Checkpoint, sealed_length}
use Rattle.checkpoint.specs.Fram.{fram_wrong, half_length}
use Rattle.protocol.specs.Types.{Order, NonceFirst, HalfFirst, Firmware, Start, Begun, Stopped}
use Rattle.protocol.specs.Calls.{PowersUp, Setup, powered_up}
use Rattle.protocol.specs.Operations.{key_wrong, Begin, state_wrong, parts_wrong, newest_in, in_turn, half_lines, newest_checkpoint, ring_lines, save_stop, save, power_up_stop, power_up, look_stop, look, open_stretch, advance_stop, advance}
use Rattle.protocol.specs.History.{State, fresh, run}
use Rattle.protocol.specs.Recovery.{start_answer, Started, Exact, Outgrown}
use Rattle.protocol.specs.Orders.{ordered, Together, OthersSame, OrdersCompared, AnyNonce, Answers, WornAndUsed, WornWhateverNonce}
use Rattle.protocol.proofs.Exact.{exact}
use Rattle.protocol.proofs.Invariant.{DurableAt, Untouched, Holds}
use Rattle.protocol.proofs.PowerUps.{power_call, Entry}
use Rattle.protocol.proofs.Turns.{first_every, same_stop, half_stop}
use Rattle.protocol.proofs.LastStops.{large, answer_is, stop_blank, stop_entry, resealed_long}
use Rattle.protocol.proofs.Reading.{reads, entry_nonce}
use Rattle.protocol.proofs.Runs.{recorded_entry}
use Rattle.protocol.proofs.Lengths.{after}

-- ---- the two orders

module _ (firmware : Firmware) (ring fram : List ℕ) (a : PowersUp) where
  abbrev older : Firmware
  older = ordered NonceFirst firmware

  abbrev newer : Firmware
  newer = ordered HalfFirst firmware

  stops_same : ((x : ℕ) → Together firmware ring fram a x → ⊥) → power_up_stop newer ring fram a ≡ power_up_stop older ring fram a
  unfolding state_wrong half_lines power_up_stop
  stops_same f = same_stop (_ ∷ _ ∷ _ ∷ _ ∷ _ ∷ _ ∷ []) (_ ∷ _ ∷ _ ∷ []) (_ ∷ []) 10 _ (λ ten x e. f x (ten, e))

  stops_instead : (x : ℕ) → Together firmware ring fram a x → power_up_stop newer ring fram a ≡ some x
  unfolding state_wrong half_lines power_up_stop
  stops_instead x (ten, e) = half_stop (_ ∷ _ ∷ _ ∷ _ ∷ _ ∷ _ ∷ []) (_ ∷ _ ∷ _ ∷ []) (_ ∷ []) 10 _ x (lit< tt, (lit< tt, (lit< tt, (lit< tt, (lit< tt, (lit< tt, tt)))))) ten e

  above_ten : (x : ℕ) → Together firmware ring fram a x → 10 < x
  unfolding half_lines
  above_ten x (ten, e) = first_every (λ k. 10 < k) (_ ∷ _ ∷ _ ∷ []) x (lit< tt, (lit< tt, (lit< tt, tt))) e

  starts : (o : Order) (p : Option ℕ) → power_up_stop (ordered o firmware) ring fram a ≡ p → Started p (power_up (ordered o firmware) ring fram a) a.staging a.state
  unfolding Exact fresh
  starts o p e = subst (λ (q : Option ℕ). Started q (power_up (ordered o firmware) ring fram a) a.staging a.state) e (exact (fresh (ordered o firmware) ring fram) (powered_up a))

  same : ((x : ℕ) → Together firmware ring fram a x → ⊥) → power_up newer ring fram a ≡ power_up older ring fram a
  unfolding newest_checkpoint power_up
  same f = rw (stops_same f)

  apart : (power_up newer ring fram a).answer ≡ (power_up older ring fram a).answer → (x : ℕ) → Together firmware ring fram a x → ⊥
  unfolding start_answer
  apart e x t =
      let p : (power_up newer ring fram a).answer ≡ Stopped x = (starts HalfFirst (some x) (stops_instead x t)).0 in
      let q : (power_up older ring fram a).answer ≡ Stopped 10 = (starts NonceFirst (some 10) t.0).0 in
      let z : x ≡ 10 = cc in
      omega (arith, above_ten x t)

others_same : (firmware : Firmware) (ring fram : List ℕ) (order other : Order) → OthersSame firmware ring fram order other
unfolding save save_stop ring_lines look look_stop open_stretch advance advance_stop parts_wrong
others_same firmware ring fram order other = record { save = λ a. refl; look = λ a. refl; stretch = λ a. refl; advance = λ a. refl }

pub orders_compared : OrdersCompared
unfolding OrdersCompared
orders_compared firmware ring fram = (
  λ a. record {
    differ = (λ f. ap (λ (b : Begin). b.answer) (same firmware ring fram a f), apart firmware ring fram a);
    same = same firmware ring fram a;
    instead = λ x t. starts firmware ring fram a HalfFirst (some x) (stops_instead firmware ring fram a x t);
  },
  others_same firmware ring fram,
)

-- ---- after a list, whatever the nonce

module _ (u : Setup) (s : State) (inv : Holds u s) (a : PowersUp) (keyed : key_wrong s.firmware.key_lengths (length u.key) ≡ false)
    (framed : fram_wrong s.firmware.largest_fram s.fram ≡ false) (l : AnyNonce u s (power_call u a)) where
  abbrev used : Bool
  used = nonce_used s.ring u.sizes.slots (newest_in s.ring u.sizes) a.nonce

  abbrev answer : Start
  answer = (power_up s.firmware s.ring s.fram (power_call u a)).answer

  module _ (half_first : s.firmware.order ≡ HalfFirst) where
    stop_is : (c : Checkpoint) → Entry u s c
        → power_up_stop s.firmware s.ring s.fram (power_call u a) ≡ cond (eqb c.restarts restart_limit) (some 13) (cond used (some 10) (cond (large s c) (some 4) none))
    unfolding first_of
    stop_is c r = stop_entry u s inv a keyed framed l s.firmware.order c r ∙ rw half_first

    answers_blank : Untouched s.ring s.journal.entry s.journal.count s.journal.owed s.journal.power_ups → Answers u s (power_call u a)
    unfolding start_answer
    answers_blank x =
        let e : answer ≡ Stopped 6 = answer_is s.firmware s (power_call u a) (some 6) (stop_blank u s inv a keyed framed l x.ring_blank) in
        record {
          nothing = (λ q. x.no_entry, λ q. e);
          worn = (λ q. absurd (let z : ◌≡◌ {A = ℕ} 0 1 = cc in omega arith), λ q. absurd (omega (arith, x.no_power_up)));
          used = (λ q. absurd (let z : ◌≡◌ {A = ℕ} 0 1 = cc in omega arith), λ q. absurd (q.0 x.no_entry));
          otherwise = λ c q f g. absurd (let p = x.no_entry in let z : ◌≡◌ {A = ℕ} 0 1 = cc in omega arith);
        }

    module _ (c : Checkpoint) (r : Entry u s c) where
      entry : s.journal.entry ≡ none → ⊥
      entry q = let p = r.entry_is in let z : ◌≡◌ {A = ℕ} 0 1 = cc in omega arith

      few : eqb c.restarts restart_limit ≡ false → s.journal.power_ups ≡ restart_limit → ⊥
      few e q = eqb-false c.restarts restart_limit e (sym r.restarts_are ∙ q)

      answer_with : (w n g : Bool) → eqb c.restarts restart_limit ≡ w → used ≡ n → large s c ≡ g → answer ≡ start_answer (cond w (some 13) (cond n (some 10) (cond g (some 4) none)))
      answer_with w n g e f h =
          answer_is s.firmware s (power_call u a) _ (stop_is c r ∙ (λ i. cond (e i) (some 13) (cond (f i) (some 10) (cond (h i) (some 4) none))))

      -- whether it outgrows the half
      outgrown : (g : Bool) → large s c ≡ g → eqb c.restarts restart_limit ≡ false → used ≡ false → (d : Checkpoint) → s.journal.entry ≡ some d
          → (Outgrown u s (power_call u a) d → answer ≡ Stopped 4) × ((Outgrown u s (power_call u a) d → ⊥) → answer ≡ Begun)
      unfolding start_answer
      outgrown true h e f d q =
          let p = r.entry_is in
          let z : c ≡ d = cc in
          let large_one = ltb-true (half_length s.fram) (sealed_length s.firmware.form (length c.open_part) (length c.secret)) h in
          let g : Outgrown u s (power_call u a) c = rw (resealed_long u s a c) large_one in
          (λ k. answer_with false false true e f h, λ k. absurd (k (subst (λ (y : Checkpoint). Outgrown u s (power_call u a) y) z g)))
      outgrown false h e f d q =
          let p = r.entry_is in
          let z : d ≡ c = cc in
          let fits = ltb-false (half_length s.fram) (sealed_length s.firmware.form (length c.open_part) (length c.secret)) h in (
            λ k. absurd (let g : Outgrown u s (power_call u a) c = subst (λ (y : Checkpoint). Outgrown u s (power_call u a) y) z k in omega (arith, g, resealed_long u s a c, fits)),
            λ k. answer_with false false false e f h,
          )

      answers_entry : (w n g : Bool) → eqb c.restarts restart_limit ≡ w → used ≡ n → large s c ≡ g → Answers u s (power_call u a)
      unfolding start_answer
      answers_entry true n g e f h =
          let x : answer ≡ Stopped 13 = answer_with true n g e f h in
          let y : s.journal.power_ups ≡ restart_limit = r.restarts_are ∙ eqb-true c.restarts restart_limit e in
          record {
            nothing = (λ q. absurd (let z : ◌≡◌ {A = ℕ} 0 1 = cc in omega arith), λ q. absurd (entry q));
            worn = (λ q. y, λ q. x);
            used = (λ q. absurd (let z : ◌≡◌ {A = ℕ} 0 1 = cc in omega arith), λ q. absurd (q.1 y));
            otherwise = λ d q k m. absurd (k y);
          }
      answers_entry false true g e f h =
          let x : answer ≡ Stopped 10 = answer_with false true g e f h in
          record {
            nothing = (λ q. absurd (let z : ◌≡◌ {A = ℕ} 0 1 = cc in omega arith), λ q. absurd (entry q));
            worn = (λ q. absurd (let z : ◌≡◌ {A = ℕ} 0 1 = cc in omega arith), λ q. absurd (few e q));
            used = (λ q. (entry, few e, f), λ q. x);
            otherwise = λ d q k m. absurd (let z : ◌≡◌ {A = ℕ} 0 1 = cc in omega arith);
          }
      answers_entry false false true e f h =
          let x : answer ≡ Stopped 4 = answer_with false false true e f h in
          record {
            nothing = (λ q. absurd (let z : ◌≡◌ {A = ℕ} 0 1 = cc in omega arith), λ q. absurd (entry q));
            worn = (λ q. absurd (let z : ◌≡◌ {A = ℕ} 0 1 = cc in omega arith), λ q. absurd (few e q));
            used = (λ q. absurd (let z : ◌≡◌ {A = ℕ} 0 1 = cc in omega arith), λ q. absurd (let y = q.2 in let z : ◌≡◌ {A = ℕ} 0 1 = cc in omega arith));
            otherwise = λ d q k m. outgrown true h e f d q;
          }
      answers_entry false false false e f h =
          let x : answer ≡ Begun = answer_with false false false e f h in
          record {
            nothing = (λ q. absurd (let z : ◌≡◌ {A = ℕ} 0 1 = cc in omega arith), λ q. absurd (entry q));
            worn = (λ q. absurd (let z : ◌≡◌ {A = ℕ} 0 1 = cc in omega arith), λ q. absurd (few e q));
            used = (λ q. absurd (let z : ◌≡◌ {A = ℕ} 0 1 = cc in omega arith), λ q. absurd (let y = q.2 in let z : ◌≡◌ {A = ℕ} 0 1 = cc in omega arith));
            otherwise = λ d q k m. outgrown false h e f d q;
          }

    answers : Answers u s (power_call u a)
    answers = go inv.durable
      where
        go : DurableAt u s s.ring s.fram s.journal.owed → Answers u s (power_call u a)
        go (inl x) = answers_blank x
        go (inr (c, r)) = answers_entry c r (eqb c.restarts restart_limit) used (large s c) refl refl refl

  -- the nonce of the newest checkpoint is used
  worn_and_used : WornAndUsed s (power_call u a)
  unfolding start_answer first_of
  worn_and_used c e w n =
      let r = recorded_entry u s c inv e in
      let is_used : used ≡ true = rw (reads inv.fram_right r, n) (entry_nonce inv.fram_right r) in
      let is_worn : eqb c.restarts restart_limit ≡ true = eq-eqb c.restarts restart_limit (sym r.restarts_are ∙ w) in
      let stop : (o : Order) → power_up_stop (ordered o s.firmware) s.ring s.fram (power_call u a)
      ≡ first_of (in_turn o (10, true) ((11, false) ∷ (12, false) ∷ (13, true) ∷ []) ++ (4, large s c) ∷ []) =
      λ o. stop_entry u s inv a keyed framed l o c r
      ∙ (λ i. first_of (in_turn o (10, is_used i) ((11, false) ∷ (12, false) ∷ (13, is_worn i) ∷ []) ++ (4, large s c) ∷ [])) in (
        answer_is (ordered NonceFirst s.firmware) s (power_call u a) (some 10) (stop NonceFirst),
        answer_is (ordered HalfFirst s.firmware) s (power_call u a) (some 13) (stop HalfFirst),
      )

pub worn_whatever_nonce : WornWhateverNonce
unfolding WornWhateverNonce
worn_whatever_nonce u firmware ring fram b events k f a l =
    let s = run u (fresh firmware ring fram) events in
    let x = after u firmware ring fram b events k f in
    let path : power_call u a ≡ a = λ i. record { sizes = sym l.sizes i; key = sym l.key i; nonce = a.nonce; staging = a.staging; state = a.state } in
    let here = subst (λ (y : PowersUp). AnyNonce u s y) (sym path) l in (
      λ o. subst (λ (y : PowersUp). Answers u s y) path (answers u s x.0 a f.key_right x.1 here o),
      subst (λ (y : PowersUp). WornAndUsed s y) path (worn_and_used u s x.0 a f.key_right x.1 here),
    )
