-- The invariant after a power loss between two calls, or in the store of the job handed out last.
use Prim.Native.Nat.{ℕ, ◌+◌, ◌*◌, ◌≤◌, ◌<◌}
use mathlib.Core.Path.{◌≡◌, refl, sym, ap, subst, subst₂, ◌∙◌}
use mathlib.Core.Bool.{Bool, true, false, not, cond}
use mathlib.Core.Logic.{◌⊎◌, inl, inr}
use mathlib.Core.Option.{Option, none, some}
use mathlib.Core.List.Memᴰ
use mathlib.Core.List.{List, ◌∷◌, ◌++◌, Memᴰ}
use native.Mathlib.Omega.{arith}
use native.Mathlib.Nat.{mod-lt}
use lib.ListN.{length, take, replicate}
use Rattle.octets.specs.Limits.{slot_length, nonce_length}
use Rattle.octets.specs.Octets.{put, blank, erased}
use Rattle.octets.proofs.Laws.{length_put, blank_erased}
use Rattle.ring.proofs.StoreLaws.{put_blank}
use Rattle.ring.specs.Ring.{slot_at, ring_wrong, record_of, page_put, record_put}
use Rattle.ring.proofs.SizeLaws.{Sized, sized, slot_ends}
use Rattle.ring.proofs.RecordLaws.{length_record, is_record_of, record_used}
use Rattle.checkpoint.specs.Checkpoint.{Form, Older, Longer, Checkpoint}
use Rattle.checkpoint.specs.Half.{Reads}
use Rattle.checkpoint.specs.Fram.{half_length}
use Rattle.checkpoint.proofs.FramLaws.{Image, image_kept, half_within}
use Rattle.protocol.specs.Types.{Firmware, Origin, Session, Phase, EraseFirst, Words, Record, EraseAfter, Done}
use Rattle.protocol.specs.Calls.{Setup, PowerLoss, updated_to, lost_in_store}
use Rattle.protocol.specs.Operations.{job_record, recorded}
use Rattle.protocol.specs.Journal.{entered, lost_into, Journal, Draft, Store, erase, word, record_slot, erase_if, to_come, made, dropped, whole}
use Rattle.protocol.specs.History.{State, Handed, Succeeds, broken_ring, broken_fram, broken, step, Left, Keeps, left_by}
use Rattle.protocol.proofs.Invariant.{ReadBy, draft_of, sealed_fits, half_of, owed_page, DurableAt, Recorded, Durable, Working, last_erase, Writing, Recording, Doing, Matches, Holds}
use Rattle.protocol.proofs.Advances.{erase_durable, fram_durable}
use Rattle.protocol.proofs.Records.{recorded_durable, recorded_is, none_match, now_reads, record_at, full, next_slot_blank, owing}

module _ (u : Setup) (s : State) (inv : Holds u s) where
  loss_holds : (ring fram : List ℕ) (j : Journal) → ring_wrong u.sizes.pages u.sizes.slots ring ≡ false → Image fram
      → Durable u ring fram s.nonces j.entry j.count j.owed j.power_ups
      → ((z : Session) → Memᴰ z s.sessions → (c : Checkpoint) → j.entry ≡ some c → take nonce_length z.latest ≡ c.nonce → Matches u z c)
      → ((c : Checkpoint) → j.entry ≡ some c → ReadBy s.firmware c)
      → Holds u (record { ring = ring; fram = fram; handed = none; sessions = s.sessions; nonces = s.nonces; journal = j; firmware = s.firmware })
  loss_holds ring fram j r f d m k = record {
    ring_right = r;
    fram_right = f;
    durable = d;
    sessions_known = inv.sessions_known;
    sessions_match = m;
    reads_entry = k;
    doing = λ h e. absurd (let z : ◌≡◌ {A = ℕ} 0 1 = cc in omega arith);
  }

  hold_dropped : Holds u (record { ring = s.ring; fram = s.fram; handed = none; sessions = s.sessions; nonces = s.nonces; journal = dropped s.journal; firmware = s.firmware })
  unfolding dropped
  hold_dropped = loss_holds s.ring s.fram (dropped s.journal) inv.ring_right inv.fram_right inv.durable inv.sessions_match inv.reads_entry

  pub hold_power_loss : Holds u (step u s PowerLoss)
  unfolding step left_by entered
  hold_power_loss = hold_dropped

  -- the next firmware reads what the one before read
  reads_on : (next form form' : Form) → Reads next form' → Reads form' form → Reads next form
  reads_on Older form form' a b = subst (λ (f : Form). Reads f form) a b
  reads_on Longer form form' a b = tt

  pub hold_updated : (next : Firmware) → Succeeds s.firmware next → Holds u (step u s (updated_to next))
  unfolding step left_by entered dropped
  hold_updated next k = record {
    ring_right = inv.ring_right;
    fram_right = inv.fram_right;
    durable = inv.durable;
    sessions_known = λ z m. absurd (Memᴰ.not-nil m);
    sessions_match = λ z m. absurd (Memᴰ.not-nil m);
    reads_entry = λ c e. let r = inv.reads_entry c e in (reads_on next.form c.form s.firmware.form k.heads r.0, (omega (arith, k.parts, r.1.0), omega (arith, k.parts, r.1.1)));
    doing = λ h e. absurd (let z : ◌≡◌ {A = ℕ} 0 1 = cc in omega arith);
  }

to_come_erase : (b : Bool) → to_come (erase_if b) ≡ b
unfolding to_come erase_if
to_come_erase true = refl
to_come_erase false = refl

-- the journal after a power loss in an erase
pub lost_erase : (j : Journal) (c : Checkpoint) (origin : Origin) (rest : List Store) (left : List ℕ)
    → j.draft ≡ some (draft_of c origin (erase ∷ rest)) → j.owed ≡ true
    → lost_into j j.draft left ≡ record { entry = j.entry; count = j.count; owed = not (blank left); power_ups = j.power_ups; draft = none }
unfolding lost_into whole made dropped
lost_erase j c origin rest left d o =
    ap (λ (x : Option Draft). lost_into j x left) d ∙ go (blank left)
  where
    go : (b : Bool) → dropped (cond b (made j (draft_of c origin (erase ∷ rest)) (erase ∷ rest)) j)
        ≡ record { entry = j.entry; count = j.count; owed = not b; power_ups = j.power_ups; draft = none }
    go true = refl
    go false = ap (λ (b : Bool). record { entry = j.entry; count = j.count; owed = b; power_ups = j.power_ups; draft = none }) o

lost_word : (j : Journal) (c : Checkpoint) (origin : Origin) (rest : List Store) (left : List ℕ)
    → j.draft ≡ some (draft_of c origin (word ∷ rest)) → lost_into j j.draft left ≡ dropped j
unfolding lost_into whole
lost_word j c origin rest left d = ap (λ (x : Option Draft). lost_into j x left) d

lost_record : (j : Journal) (c : Checkpoint) (origin : Origin) (b : Bool) (left : List ℕ)
    → j.draft ≡ some (draft_of c origin (record_slot ∷ erase_if b)) → blank left ≡ false
    → lost_into j j.draft left ≡ record { entry = some c; count = j.count + 1; owed = b; power_ups = c.restarts; draft = none }
unfolding lost_into whole made dropped
lost_record j c origin b left d e =
    ap (λ (x : Option Draft). lost_into j x left) d
    ∙ ap (λ (x : Bool). dropped (cond (not x) (made j (draft_of c origin (record_slot ∷ erase_if b)) (record_slot ∷ erase_if b)) j)) e
    ∙ ap (λ (x : Bool). record { entry = some c; count = j.count + 1; owed = x; power_ups = c.restarts; draft = none }) (to_come_erase b)

lost_no_record : (j : Journal) (c : Checkpoint) (origin : Origin) (rest : List Store) (left : List ℕ)
    → j.draft ≡ some (draft_of c origin (record_slot ∷ rest)) → blank left ≡ true
    → lost_into j j.draft left ≡ dropped j
unfolding lost_into whole
lost_no_record j c origin rest left d e =
    ap (λ (x : Option Draft). lost_into j x left) d
    ∙ ap (λ (x : Bool). dropped (cond (not x) (made j (draft_of c origin (record_slot ∷ rest)) (record_slot ∷ rest)) j)) e

module _ (u : Setup) (s : State) (inv : Holds u s) (h : Handed) (left : List ℕ) where
  -- the state after a power loss in the store of phase `p`
  abbrev lost_state : Phase → Journal → State
  lost_state p j = record {
    ring = broken_ring p s.ring u.sizes.slots h.job left;
    fram = broken_fram p s.fram h.job left;
    handed = none;
    sessions = s.sessions;
    nonces = s.nonces;
    journal = j;
    firmware = s.firmware;
  }

  loss_in_erase : (p : ℕ) (c : Checkpoint) (origin : Origin) (rest : List Store) → s.journal.draft ≡ some (draft_of c origin (erase ∷ rest))
      → s.journal.owed ≡ true → p ≡ owed_page u s → length left ≡ slot_length * u.sizes.slots
      → Holds u (record {
        ring = page_put s.ring u.sizes.slots p left;
        fram = s.fram;
        handed = none;
        sessions = s.sessions;
        nonces = s.nonces;
        journal = lost_into s.journal s.journal.draft left;
        firmware = s.firmware;
      })
  loss_in_erase p c origin rest d o e l =
      subst (λ (q : ℕ). Holds u (record {
        ring = page_put s.ring u.sizes.slots q left;
        fram = s.fram;
        handed = none;
        sessions = s.sessions;
        nonces = s.nonces;
        journal = lost_into s.journal s.journal.draft left;
        firmware = s.firmware;
      })) (sym e)
      (subst (λ (j : Journal). Holds u (record {
        ring = page_put s.ring u.sizes.slots (owed_page u s) left;
        fram = s.fram;
        handed = none;
        sessions = s.sessions;
        nonces = s.nonces;
        journal = j;
        firmware = s.firmware;
      })) (sym (lost_erase s.journal c origin rest left d o))
      (loss_holds u s inv (page_put s.ring u.sizes.slots (owed_page u s) left) s.fram
      (record { entry = s.journal.entry; count = s.journal.count; owed = not (blank left); power_ups = s.journal.power_ups; draft = none })
      x.0 inv.fram_right x.1 inv.sessions_match inv.reads_entry))
    where
      x : (ring_wrong u.sizes.pages u.sizes.slots (page_put s.ring u.sizes.slots (owed_page u s) left) ≡ false)
          × Durable u (page_put s.ring u.sizes.slots (owed_page u s) left) s.fram s.nonces
          s.journal.entry s.journal.count (not (blank left)) s.journal.power_ups
      x = erase_durable left l
          (subst (λ (b : Bool). DurableAt u s s.ring s.fram b) o inv.durable)

  pub word_loss_kept : (w : ℕ) → Writing u s h w → length left ≡ 4 → length (put s.fram (h.job.half * half_length s.fram + 4 * w) left) ≡ length s.fram
  word_loss_kept w d l =
      let k = d.before.working in
      let long : h.job.length ≤ half_length s.fram = rw k.length_is (sealed_fits u.key k.good) in
      length_put s.fram (h.job.half * half_length s.fram + 4 * w) left
      (omega (arith, long, d.left_is, half_within s.fram h.job.half inv.fram_right (rw k.half_is (omega arith))))

  loss_in_word : (w : ℕ) → Writing u s h w → length left ≡ 4
      → Holds u (record {
        ring = s.ring;
        fram = put s.fram (h.job.half * half_length s.fram + 4 * w) left;
        handed = none;
        sessions = s.sessions;
        nonces = s.nonces;
        journal = lost_into s.journal s.journal.draft left;
        firmware = s.firmware;
      })
  unfolding dropped
  loss_in_word w d l =
      subst (λ (j : Journal). Holds u (record { ring = s.ring; fram = fram; handed = none; sessions = s.sessions; nonces = s.nonces; journal = j; firmware = s.firmware }))
      (sym (lost_word s.journal k.c k.origin (replicate d.left word ++ record_slot ∷ last_erase u s) left k.draft_is))
      (loss_holds u s inv s.ring fram (dropped s.journal) inv.ring_right
      (image_kept s.fram fram (word_loss_kept w d l) inv.fram_right) durable inv.sessions_match inv.reads_entry)
    where
      k : Working u s h (s.journal.count + 1) (word ∷ (replicate d.left word ++ record_slot ∷ last_erase u s))
      k = d.before.working

      fram : List ℕ
      fram = put s.fram (h.job.half * half_length s.fram + 4 * w) left

      long : h.job.length ≤ half_length s.fram
      long = rw k.length_is (sealed_fits u.key k.good)

      same_half : h.job.half * half_length s.fram ≡ half_of (s.journal.count + 1) * half_length s.fram
      same_half = ap (λ (y : ℕ). y * half_length s.fram) k.half_is

      durable : DurableAt u s s.ring fram s.journal.owed
      durable = fram_durable left (h.job.half * half_length s.fram + 4 * w) inv.fram_right (omega (arith, same_half)) (omega (arith, same_half, long, d.left_is)) inv.durable

  loss_in_record : (d : Recording u s h) → (left ≡ job_record h.job) ⊎ (left ≡ erased slot_length)
      → Holds u (record {
        ring = record_put s.ring u.sizes.slots h.job.page h.job.slot left;
        fram = s.fram;
        handed = none;
        sessions = s.sessions;
        nonces = s.nonces;
        journal = lost_into s.journal s.journal.draft left;
        firmware = s.firmware;
      })
  unfolding recorded job_record
  loss_in_record d (inl e) =
      subst₂ (λ (ring : List ℕ) (j : Journal). Holds u (record { ring = ring; fram = s.fram; handed = none; sessions = s.sessions; nonces = s.nonces; journal = j; firmware = s.firmware }))
      (sym (ap (λ (l : List ℕ). record_put s.ring u.sizes.slots h.job.page h.job.slot l) e ∙ recorded_is k))
      (sym (lost_record s.journal k.c k.origin (full u.sizes.slots s.journal.count) left k.draft_is not_blank))
      (loss_holds u s inv new s.fram j r.ringed.sizes inv.fram_right (inr (k.c, r)) (none_match inv d) (now_reads inv d))
    where
      k : Working u s h (s.journal.count + 1) (record_slot ∷ last_erase u s)
      k = d.before.working

      new : List ℕ
      new = record_at u.sizes.pages u.sizes.slots s.ring s.journal.count (record_of k.c.nonce (half_of (s.journal.count + 1)))

      j : Journal
      j = record { entry = some k.c; count = s.journal.count + 1; owed = full u.sizes.slots s.journal.count; power_ups = k.c.restarts; draft = none }

      r : Recorded u new s.fram s.nonces (some k.c) (s.journal.count + 1) (full u.sizes.slots s.journal.count) k.c.restarts k.c
      r = recorded_durable inv d

      not_blank : blank left ≡ false
      not_blank =
          let l : length h.job.nonce ≡ nonce_length = rw k.nonce_is k.good.nonce_long in
          rw e (record_used (record_of h.job.nonce h.job.half) (length_record h.job.nonce h.job.half l)
          (is_record_of h.job.nonce h.job.half l (rw k.half_is (omega arith))))
  loss_in_record d (inr e) =
      subst₂ (λ (ring : List ℕ) (j : Journal). Holds u (record { ring = ring; fram = s.fram; handed = none; sessions = s.sessions; nonces = s.nonces; journal = j; firmware = s.firmware }))
      (sym (ap (λ (l : List ℕ). record_put s.ring u.sizes.slots h.job.page h.job.slot l) e
      ∙ put_blank s.ring u.sizes.slots h.job.page h.job.slot within slot_blank))
      (sym (lost_no_record s.journal k.c k.origin (last_erase u s) left k.draft_is (ap blank e ∙ blank_erased slot_length)))
      (hold_dropped u s inv)
    where
      k : Working u s h (s.journal.count + 1) (record_slot ∷ last_erase u s)
      k = d.before.working

      z : Sized u.sizes.pages u.sizes.slots s.ring
      z = sized u.sizes.pages u.sizes.slots s.ring inv.ring_right

      within : slot_length * (h.job.page * u.sizes.slots + h.job.slot) + slot_length ≤ length s.ring
      within =
          let p : h.job.page < u.sizes.pages = rw k.page_is (mod-lt _ (omega (arith, z.numbers.some_pages))) in
          let q : h.job.slot < u.sizes.slots = rw k.slot_is (mod-lt _ (omega (arith, z.numbers.some_slots))) in
          slot_ends z h.job.page p h.job.slot q

      slot_blank : blank (slot_at s.ring u.sizes.slots h.job.page h.job.slot) ≡ true
      slot_blank = rw (k.page_is, k.slot_is)
          (next_slot_blank (owing inv d))

  loss_in_phase : (p : Phase) → Doing u s h p → Left p h.job u.sizes.slots left → Holds u (lost_state p (lost_into s.journal s.journal.draft left))
  unfolding Left broken_ring broken_fram
  loss_in_phase (EraseFirst p) d l = loss_in_erase p _ _ _ d.before.working.draft_is d.owed d.page_is l
  loss_in_phase (Words w) d l = loss_in_word w d l
  loss_in_phase Record d l = loss_in_record d l
  loss_in_phase (EraseAfter p) d l = loss_in_erase p _ _ _ d.working.draft_is d.owed d.page_is l
  loss_in_phase Done d l = absurd l

pub hold_lost_in_store : (u : Setup) (s : State) (left : List ℕ) → Holds u s → Keeps u s (lost_in_store left) → Holds u (step u s (lost_in_store left))
unfolding step left_by entered broken Keeps
hold_lost_in_store u s left inv (h, e, l) =
    subst (λ (o : Option Handed). Holds u (broken u s o left (lost_into s.journal s.journal.draft left))) (sym e)
    (loss_in_phase u s inv h left h.job.phase (inv.doing h e) l)
