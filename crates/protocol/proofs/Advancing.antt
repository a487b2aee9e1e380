-- An advance of the job handed out last takes the first store off the draft.
use Prim.Native.Nat.{ℕ, ◌%◌}
use mathlib.Core.Path.{◌≡◌, refl, sym, ap, subst₂, ◌∙◌, subst}
use mathlib.Core.Bool.{false, not, ◌||◌}
use mathlib.Core.Option.{Option, some, none}
use mathlib.Core.List.{List, [], ◌∷◌}
use native.Mathlib.Omega.{arith}
use lib.Dec.{eqb, ltb, leb, T}
use Rattle.stops.proofs.Laws.{neither, passes}
use Rattle.ring.specs.Ring.{ring_wrong, page_erased}
use Rattle.checkpoint.specs.Checkpoint.{Form, Checkpoint, empty_length}
use Rattle.checkpoint.specs.Fram.{half_length}
use Rattle.protocol.specs.Types.{Firmware, Save, PowerUp, Origin, Phase, EraseFirst, Words, Record, EraseAfter, Done, Job}
use Rattle.protocol.specs.Calls.{Setup, advanced_by, Sizes, Advances}
use Rattle.protocol.specs.Operations.{finished, session_of, in_phase, phase_wrong, ended, store, advance, job_wrong, advance_stop, advance_by}
use Rattle.protocol.specs.Journal.{Journal, Draft, Store, made, advanced, entered}
use Rattle.protocol.specs.History.{State, Handed, step, moved, refused, is_stopped, Keeps, left_by}
use Rattle.protocol.proofs.Facts.{no_fact}
use Rattle.protocol.proofs.Invariant.{answer_of, draft_of, DurableAt, ErasingAfter, Doing, Holds, Moving}
use Rattle.protocol.proofs.Advances.{Moves, call, after, advance_stores, after_ended, doing_of, erased_durable, page_right, erasing_first, writing}
use Rattle.protocol.proofs.Records.{session_is, more_known, more_match, recording}

module _ (u : Setup) (s : State) (h : Handed) (inv : Holds u s) where
  pub erasing_after : (p : ℕ) → h.job.phase ≡ EraseAfter p → (x : ErasingAfter u s h p)
      → Moves u s h x.working.c x.working.origin []
  unfolding in_phase advanced made store phase_wrong
  erasing_after p e x =
      after_ended u s h (λ t a. Moving u t a x.working.c x.working.origin []) x.working.origin ring s.fram j x.working.origin_is moves
      (ap (λ (d : Option Draft). advanced s.journal d) x.working.draft_is)
      (record {
        holds = record {
          ring_right = d.0;
          fram_right = inv.fram_right;
          durable = d.1;
          sessions_known = more_known x.working inv.sessions_known;
          sessions_match = λ z m c q. more_match x.working (λ y n l. inv.sessions_match y n x.working.c x.recorded l) z m c (sym x.recorded ∙ q);
          reads_entry = inv.reads_entry;
          doing = doing_of u t k refl (draft, refl, refl);
        };
        answered = refl;
        draft_is = refl;
        handed = k;
        handed_is = refl;
        ended = λ q. record { entry = x.recorded; owed = refl; earlier = s.sessions; session = λ i. session_is x.working i ∷ s.sessions };
      })
    where
      ring : List ℕ
      ring = page_erased s.ring u.sizes.slots p

      draft : Draft
      draft = draft_of x.working.c x.working.origin []

      j : Journal
      j = record { entry = s.journal.entry; count = s.journal.count; owed = false; power_ups = s.journal.power_ups; draft = some draft }

      moves : advance s.firmware s.ring s.fram (call u h) ≡ ended h.job ring s.fram
      moves = advance_stores inv x.working (EraseAfter p) e (page_right u s p inv x.page_is)

      k : Handed
      k = record { job = in_phase h.job Done; staging = h.staging }

      t : State
      t = after s h Done ring s.fram (session_of h.job ∷ s.sessions) j

      d : (ring_wrong u.sizes.pages u.sizes.slots ring ≡ false)
          × DurableAt u s ring s.fram false
      d = erased_durable u s p inv x.owed x.page_is

pub same_draft : (o : Option Draft) (d e : Draft) → o ≡ some d → o ≡ some e → d ≡ e
same_draft o d e p q = cc

same_rest : (d e : Draft) (x y : Store) (rest more : List Store) → d ≡ e → d.stores ≡ x ∷ rest → e.stores ≡ y ∷ more → rest ≡ more
same_rest d e x y rest more p q r = let z : ◌≡◌ {A = List Store} (x ∷ rest) (y ∷ more) = sym q ∙ ap (λ (f : Draft). f.stores) p ∙ r in cc

no_rest : (d e : Draft) (x : Store) (rest : List Store) → d ≡ e → d.stores ≡ [] → e.stores ≡ x ∷ rest → ⊥
no_rest d e x rest p q r =
    let z : ◌≡◌ {A = List Store} [] (x ∷ rest) = sym q ∙ ap (λ (f : Draft). f.stores) p ∙ r in
    let y : ◌≡◌ {A = ℕ} 0 1 = cc in omega arith

module _ (u : Setup) (s : State) (h : Handed) (inv : Holds u s) (c : Checkpoint) (origin : Origin) (x : Store) (rest : List Store)
    (drafted_is : s.journal.draft ≡ some (draft_of c origin (x ∷ rest))) where
  cast : (d : Draft) (y : Store) (more : List Store) → s.journal.draft ≡ some d → d.stores ≡ y ∷ more
      → Moves u s h d.checkpoint d.origin more
      → Moves u s h c origin rest
  cast d y more p q m =
      let e = same_draft s.journal.draft d (draft_of c origin (x ∷ rest)) p drafted_is in
      let r : more ≡ rest = same_rest d (draft_of c origin (x ∷ rest)) y x more rest e q refl in
      subst₂ (λ (f : Draft) (l : List Store). Moves u s h f.checkpoint f.origin l) e r m

  go : (p : Phase) → h.job.phase ≡ p → Doing u s h p
      → Moves u s h c origin rest
  go (EraseFirst p) e d = cast _ _ _ d.before.working.draft_is refl (erasing_first u s h inv p e d)
  go (Words w) e d = cast _ _ _ d.before.working.draft_is refl (writing u s h inv w e d)
  go Record e d = cast _ _ _ d.before.working.draft_is refl (recording inv d e)
  go (EraseAfter p) e d = cast _ _ _ d.working.draft_is refl (erasing_after u s h inv p e d)
  go Done e d = absurd (no_rest d.0 (draft_of c origin (x ∷ rest)) x rest (same_draft s.journal.draft d.0 _ d.1 drafted_is) d.2 refl)

  pub advancing : s.handed ≡ some h
      → Moves u s h c origin rest
  advancing e = go h.job.phase refl (inv.doing h e)

pub going : (origin : Origin) (rest : List Store) → is_stopped (answer_of origin rest) ≡ false
unfolding is_stopped finished
going Save [] = refl
going PowerUp [] = refl
going origin (x ∷ rest) = refl

-- ---- every advance of the job handed out last

phase_passes : (form : Form) (j : Job) (z : Sizes) (ring fram : List ℕ) → job_wrong form j z ring fram ≡ false → phase_wrong j.phase j z ring ≡ false
unfolding job_wrong
phase_passes form j z ring fram e =
    (neither (not (eqb (j.length % 4) 0) || ltb j.length (empty_length form) || ltb (half_length fram) j.length ||
    leb z.pages j.page || leb z.slots j.slot || ltb 1 j.half) (phase_wrong j.phase j z ring) e).1

pub job_passes : (firmware : Firmware) (ring fram : List ℕ) (a : Advances) → advance_stop firmware ring fram a ≡ none → job_wrong firmware.form a.job a.sizes ring fram ≡ false
unfolding advance_stop
job_passes firmware ring fram a e = (passes _ e).1.1.1.0

done_stops : (u : Setup) (s : State) (h : Handed) → h.job.phase ≡ Done → (o : Option ℕ) → advance_stop s.firmware s.ring s.fram (call u h) ≡ o
    → step u s (advanced_by (call u h)) ≡ s
unfolding step left_by entered refused is_stopped advance advance_by moved phase_wrong
done_stops u s h e (some x) f = rw f
done_stops u s h e none f = no_fact (subst (λ (q : Phase). phase_wrong q h.job u.sizes s.ring ≡ false) e
    (phase_passes s.firmware.form h.job u.sizes s.ring s.fram (job_passes s.firmware s.ring s.fram (call u h) f)))

pub done_refused : (u : Setup) (s : State) (h : Handed) → h.job.phase ≡ Done → (o : Option ℕ) → advance_stop s.firmware s.ring s.fram (call u h) ≡ o
    → T (refused s (advanced_by (call u h)))
unfolding refused is_stopped advance advance_by phase_wrong
done_refused u s h e (some x) f = rw f tt
done_refused u s h e none f = no_fact (subst (λ (q : Phase). phase_wrong q h.job u.sizes s.ring ≡ false) e
    (phase_passes s.firmware.form h.job u.sizes s.ring s.fram (job_passes s.firmware s.ring s.fram (call u h) f)))

module _ (u : Setup) (s : State) (inv : Holds u s) where
  hold_call : (h : Handed) (p : Phase) → h.job.phase ≡ p → Doing u s h p → Holds u (step u s (advanced_by (call u h)))
  hold_call h (EraseFirst p) e d = (erasing_first u s h inv p e d).holds
  hold_call h (Words w) e d = (writing u s h inv w e d).holds
  hold_call h Record e d = (recording inv d e).holds
  hold_call h (EraseAfter p) e d = (erasing_after u s h inv p e d).holds
  hold_call h Done e d = rw (done_stops u s h e (advance_stop s.firmware s.ring s.fram (call u h)) refl) inv

  pub hold_advanced : (a : Advances) → Keeps u s (advanced_by a) → Holds u (step u s (advanced_by a))
  unfolding Keeps
  hold_advanced a (p, e) =
      let h : Handed = record { job = a.job; staging = a.staging } in
      let q : call u h ≡ a = λ i. record { sizes = sym p i; job = a.job; staging = a.staging } in
      subst (λ (b : Advances). Holds u (step u s (advanced_by b))) q (hold_call h h.job.phase refl (inv.doing h e))
