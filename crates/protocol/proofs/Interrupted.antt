-- A start whose power fails in the erase after its record.
use Prim.Native.Nat.{ℕ, ◌+◌, ◌-◌, ◌*◌, ◌/◌, ◌%◌}
use mathlib.Core.Path.{◌≡◌, refl, sym, ap, subst, ◌∙◌}
use mathlib.Core.Bool.{Bool, true, false, not, ◌&&◌}
use mathlib.Core.Logic.{inr}
use mathlib.Core.Option.{Option, none, some}
use mathlib.Core.List.{List, [], ◌∷◌, ◌++◌, append_assoc}
use native.Mathlib.Omega.{arith}
use lib.ListN.{length, replicate, length-append}
use lib.Dec.{eqb, ltb}
use Rattle.octets.specs.Limits.{slot_length}
use Rattle.octets.specs.Octets.{blank}
use Rattle.checkpoint.specs.Checkpoint.{Checkpoint, sealed}
use Rattle.protocol.specs.Types.{Origin, Phase, EraseFirst, Words, Record, EraseAfter, Done}
use Rattle.protocol.specs.Calls.{Setup, Event, lost_in_store}
use Rattle.protocol.specs.Journal.{Journal, Draft, Store, erase, word, record_slot, erase_if, stores_of, entered}
use Rattle.protocol.specs.History.{broken_fram, State, Handed, broken, left_by, step, run, Left, Keeps, Allowed, refused}
use Rattle.protocol.specs.Recovery.{advances_of}
use Rattle.protocol.specs.Histories.{stores_left, but_the_last}
use Rattle.protocol.proofs.Invariant.{draft_of, ErasingAfter, Doing, Holds}
use Rattle.protocol.proofs.Blind.{blind}
use Rattle.protocol.proofs.Advancing.{same_draft}
use Rattle.protocol.proofs.PowerLosses.{lost_erase, hold_lost_in_store}
use Rattle.protocol.proofs.Runs.{records_in, one_record, Made, made_first, run_append, allowed_append}

-- ---- the stores before that erase

abbrev first_stores : List ℕ → Journal → Checkpoint → List Store
first_stores key j c = erase_if j.owed ++ replicate (length (sealed key c) / 4) word ++ record_slot ∷ []

stores_are : (key : List ℕ) (slots : ℕ) (j : Journal) (c : Checkpoint) → ltb 0 j.count && eqb (j.count % slots) 0 ≡ true
    → stores_of key slots j c ≡ first_stores key j c ++ erase ∷ []
unfolding stores_of erase_if
stores_are key slots j c e =
    ap (λ (b : Bool). erase_if j.owed ++ replicate (length (sealed key c) / 4) word ++ record_slot ∷ erase_if b) e
    ∙ sym (append_assoc (erase_if j.owed ++ replicate (length (sealed key c) / 4) word) (record_slot ∷ []) (erase ∷ []))

first_record : (key : List ℕ) (j : Journal) (c : Checkpoint) → records_in (first_stores key j c) ≡ 1
unfolding erase_if
first_record key j c = one_record j.owed false (length (sealed key c) / 4)

-- ---- the job then erases a page after its record

same_stores : (o : Option Draft) (d e : Draft) → o ≡ some d → o ≡ some e → d.stores ≡ e.stores
same_stores o d e p q = ap (λ (y : Draft). y.stores) (same_draft o d e p q)

erasing : (u : Setup) (t : State) (h : Handed) (c : Checkpoint) (origin : Origin) → t.journal.draft ≡ some (draft_of c origin (erase ∷ []))
    → (p : Phase) → Doing u t h p → (q : ℕ) × (p ≡ EraseAfter q) × ErasingAfter u t h q
erasing u t h c origin e (EraseFirst p) d = absurd (let z = same_stores _ _ _ e d.before.working.draft_is in let y : ◌≡◌ {A = ℕ} 0 1 = cc in omega arith)
erasing u t h c origin e (Words w) d = absurd (let z = same_stores _ _ _ e d.before.working.draft_is in let y : ◌≡◌ {A = ℕ} 0 1 = cc in omega arith)
erasing u t h c origin e Record d = absurd (let z = same_stores _ _ _ e d.before.working.draft_is in let y : ◌≡◌ {A = ℕ} 0 1 = cc in omega arith)
erasing u t h c origin e (EraseAfter p) d = (p, refl, d)
erasing u t h c origin e Done d = absurd (let z = same_stores _ _ _ e d.1 ∙ d.2 in let y : ◌≡◌ {A = ℕ} 0 1 = cc in omega arith)

-- ---- the power fails in it

broken_keeps : (u : Setup) (s : State) (o : Option Handed) (left : List ℕ) (j : Journal) → ((broken u s o left j).nonces ≡ s.nonces) × ((broken u s o left j).firmware ≡ s.firmware)
unfolding broken
broken_keeps u s none left j = (refl, refl)
broken_keeps u s (some h) left j = (refl, refl)

-- an erase leaves the FRAM as it is
erase_fram : (u : Setup) (s : State) (h : Handed) (left : List ℕ) (j : Journal) (p : ℕ) → h.job.phase ≡ EraseAfter p → (broken u s (some h) left j).fram ≡ s.fram
unfolding broken broken_fram
erase_fram u s h left j p e = rw e

-- c is recorded and the page before its record awaits erasing
pub record Owing (u : Setup) (s t : State) (c : Checkpoint) (nonce : List ℕ) : Type 0 where
  pub holds : Holds u t
  pub entry : t.journal.entry ≡ some c
  pub owed : t.journal.owed ≡ true
  pub count : t.journal.count ≡ s.journal.count + 1
  pub nonces : t.nonces ≡ nonce ∷ s.nonces
  pub firmware : t.firmware ≡ s.firmware
  pub fram_long : length t.fram ≡ length s.fram

module _ (u : Setup) (t : State) (c : Checkpoint) (origin : Origin) (h : Handed) (left : List ℕ)
    (inv : Holds u t) (q : t.handed ≡ some h) (d : t.journal.draft ≡ some (draft_of c origin (erase ∷ []))) (l : length left ≡ slot_length * u.sizes.slots) where
  at_erase : (p : ℕ) × (h.job.phase ≡ EraseAfter p) × ErasingAfter u t h p
  at_erase = erasing u t h c origin d h.job.phase (inv.doing h q)

  loss_keeps : Keeps u t (lost_in_store left)
  unfolding Keeps Left
  loss_keeps = (h, q, subst (λ (p : Phase). Left p h.job u.sizes.slots left) (sym at_erase.1) l)

  entry_here : t.journal.entry ≡ some c
  entry_here = at_erase.2.recorded
      ∙ ap (λ (y : Draft). some y.checkpoint) (same_draft t.journal.draft _ (draft_of c origin (erase ∷ [])) at_erase.2.working.draft_is d)

  loss_journal : (step u t (lost_in_store left)).journal
      ≡ record { entry = t.journal.entry; count = t.journal.count; owed = not (blank left); power_ups = t.journal.power_ups; draft = none }
  unfolding entered
  loss_journal = blind u t (lost_in_store left) ∙ lost_erase t.journal c origin [] left d at_erase.2.owed

  loss_keeps_both : ((step u t (lost_in_store left)).nonces ≡ t.nonces) × ((step u t (lost_in_store left)).firmware ≡ t.firmware)
  unfolding step left_by
  loss_keeps_both = broken_keeps u t t.handed left _

  loss_fram : (step u t (lost_in_store left)).fram ≡ t.fram
  unfolding step left_by
  loss_fram = ap (λ (x : Option Handed). (broken u t x left (entered u t.firmware.form t.journal (lost_in_store left) (refused t (lost_in_store left)))).fram) q
      ∙ erase_fram u t h left _ at_erase.0 at_erase.1

  loss_owing : (s : State) (nonce : List ℕ) → blank left ≡ false → t.journal.count ≡ s.journal.count + 1 → t.nonces ≡ nonce ∷ s.nonces
      → t.firmware ≡ s.firmware → length t.fram ≡ length s.fram
      → Owing u s (step u t (lost_in_store left)) c nonce
  loss_owing s nonce b n m o r = record {
    holds = hold_lost_in_store u t left inv loss_keeps;
    entry = ap (λ (j : Journal). j.entry) loss_journal ∙ entry_here;
    owed = ap (λ (j : Journal). j.owed) loss_journal ∙ ap not b;
    count = ap (λ (j : Journal). j.count) loss_journal ∙ n;
    nonces = loss_keeps_both.0 ∙ m;
    firmware = loss_keeps_both.1 ∙ o;
    fram_long = ap (λ (l : List ℕ). length l) loss_fram ∙ r;
  }

-- ---- the start and its stores up to there

length_first : (first : List Store) → length (first ++ erase ∷ []) - 1 ≡ length first
length_first first = omega (arith, length-append first (erase ∷ []))

module _ (u : Setup) (s : State) (e : Event) (c : Checkpoint) (origin : Origin) (nonce : List ℕ) (h : Handed) (left : List ℕ) (k : Keeps u s e)
    (inv : Holds u (step u s e)) (q : (step u s e).handed ≡ some h)
    (d : (step u s e).journal.draft ≡ some (draft_of c origin (stores_of u.key u.sizes.slots s.journal c)))
    (n : (step u s e).journal.count ≡ s.journal.count) (m : (step u s e).nonces ≡ nonce ∷ s.nonces)
    (o : (step u s e).firmware ≡ s.firmware) (r : (step u s e).fram ≡ s.fram)
    (opens : ltb 0 s.journal.count && eqb (s.journal.count % u.sizes.slots) 0 ≡ true)
    (l : length left ≡ slot_length * u.sizes.slots) (b : blank left ≡ false) where
  abbrev first : List Store
  first = first_stores u.key s.journal c

  drafts : (step u s e).journal.draft ≡ some (draft_of c origin (first ++ erase ∷ []))
  drafts = d ∙ ap (λ (y : List Store). some (draft_of c origin y)) (stores_are u.key u.sizes.slots s.journal c opens)

  made_here : Made u (step u s e) c origin (advances_of u (length first) (step u s e)) (records_in first) (erase ∷ [])
  made_here = made_first u c origin (erase ∷ []) first (step u s e) h inv q drafts
      (λ z. absurd (let y = ap (λ (y : List Store). length y) z in omega (arith, length-append first (erase ∷ []))))

  abbrev before : List Event
  before = e ∷ advances_of u (length first) (step u s e)

  abbrev there : State
  there = run u (step u s e) (advances_of u (length first) (step u s e))

  before_allowed : Allowed u s before
  unfolding Allowed
  before_allowed = (inr k, made_here.allowed)

  loss_allowed : Allowed u (run u s before) (lost_in_store left ∷ [])
  unfolding Allowed run
  loss_allowed = (inr (loss_keeps u there c origin made_here.handed left made_here.holds made_here.handed_is made_here.draft_is l), tt)

  owing_here : Owing u s (run u (run u s before) (lost_in_store left ∷ [])) c nonce
  unfolding run
  owing_here = loss_owing u there c origin made_here.handed left made_here.holds made_here.handed_is made_here.draft_is l
      s nonce b (made_here.count ∙ (λ i. n i + first_record u.key s.journal c i)) (made_here.nonces ∙ m) (made_here.firmware ∙ o)
      (made_here.fram_long ∙ ap (λ (l : List ℕ). length l) r)

  events_are : but_the_last u s e left ≡ before ++ lost_in_store left ∷ []
  unfolding but_the_last stores_left
  events_are = ap (λ (o : Option Draft). (e ∷ advances_of u (stores_left o - 1) (step u s e)) ++ lost_in_store left ∷ []) drafts
      ∙ ap (λ (k : ℕ). (e ∷ advances_of u k (step u s e)) ++ lost_in_store left ∷ []) (length_first first)

  pub lost_in_erase : Allowed u s (but_the_last u s e left) × Owing u s (run u s (but_the_last u s e left)) c nonce
  lost_in_erase = subst (λ (events : List Event). Allowed u s events × Owing u s (run u s events) c nonce) (sym events_are) (
    allowed_append u before (lost_in_store left ∷ []) s before_allowed loss_allowed,
    subst (λ (t : State). Owing u s t c nonce) (sym (run_append u before (lost_in_store left ∷ []) s)) owing_here,
  )
