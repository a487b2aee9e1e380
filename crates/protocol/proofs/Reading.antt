-- What an operation finds in memories that hold a recorded checkpoint.
use Prim.Native.Nat.{ℕ, ◌+◌, ◌-◌}
use mathlib.Core.Path.{◌≡◌, refl, ap, subst, ◌∙◌}
use mathlib.Core.Bool.{Bool, true, false, ◌||◌}
use mathlib.Core.Option.{Option}
use mathlib.Core.List.{List, [], ◌∷◌, ◌++◌, Memᴰ}
use native.Mathlib.Omega.{arith}
use lib.ListN.{length, take, drop}
use lib.Dec.{ltb}
use Rattle.octets.specs.Limits.{nonce_length}
use Rattle.octets.specs.Octets.{same}
use Rattle.octets.proofs.Laws.{same_refl, same_equal}
use Rattle.ring.specs.Ring.{read_ring, half_named, target_page, target_slot, record_of, newest_record, nonce_used, Newest}
use Rattle.ring.proofs.RingLaws.{last, any}
use Rattle.ring.proofs.FoundLaws.{found, read_is, record_is, used_is, targets}
use Rattle.ring.proofs.RecordLaws.{half_named_of, nonce_of_record}
use Rattle.checkpoint.specs.Checkpoint.{Form, Checkpoint, sealed, sealed_length}
use Rattle.checkpoint.specs.Half.{read_as, open_length, secret_length, stored_open, good_head, good_tag, stored, stored_restarts}
use Rattle.checkpoint.specs.Fram.{half_length, half_at}
use Rattle.checkpoint.proofs.HalfLaws.{read_as_is, open_length_is, secret_length_is, restarts_is, open_is, head_passes, tag_passes, read_back}
use Rattle.checkpoint.proofs.FramLaws.{Image, half_begins, half_long}
use Rattle.protocol.specs.Types.{Firmware}
use Rattle.protocol.specs.Calls.{Setup}
use Rattle.protocol.specs.Operations.{newest_half, outgrows}
use Rattle.protocol.proofs.Invariant.{sealed_fits, half_of, page_in, slot_in, ReadBy, Recorded}

none_used : (nonce : List ℕ) (nonces : List (List ℕ)) → (Memᴰ nonce nonces → ⊥) → (recs : List (List ℕ))
    → ((r : List ℕ) → Memᴰ r recs → Memᴰ (take nonce_length r) nonces) → any (λ r. same (take nonce_length r) nonce) recs ≡ false
none_used nonce nonces f [] k = refl
none_used nonce nonces f (r ∷ rs) k = go (none_used nonce nonces f rs (λ q m. k q (Memᴰ.tail m))) (same (take nonce_length r) nonce) refl
  where
    go : any (λ r. same (take nonce_length r) nonce) rs ≡ false → (b : Bool) → same (take nonce_length r) nonce ≡ b
        → (same (take nonce_length r) nonce || any (λ r. same (take nonce_length r) nonce) rs) ≡ false
    go ih true e = absurd (f (subst (λ (n : List ℕ). Memᴰ n nonces) (same_equal (take nonce_length r) nonce e) (k r (Memᴰ.head refl))))
    go ih false e = rw e ih

-- the nonce of the last record is among those of all
among_last : (recs : List (List ℕ)) (r nonce : List ℕ) → last recs ≡ r → take nonce_length r ≡ nonce → length nonce ≡ nonce_length → any (λ r. same (take nonce_length r) nonce) recs ≡ true
among_last [] r nonce e f l = absurd (let n = ap length (ap (take nonce_length) e ∙ f) in omega arith)
among_last (x ∷ []) r nonce e f l = rw (ap (take nonce_length) e ∙ f, same_refl nonce)
among_last (x ∷ y ∷ recs) r nonce e f l = go (among_last (y ∷ recs) r nonce e f l) (same (take nonce_length x) nonce)
  where
    go : any (λ r. same (take nonce_length r) nonce) (y ∷ recs) ≡ true → (b : Bool) → b || any (λ r. same (take nonce_length r) nonce) (y ∷ recs) ≡ true
    go ih true = refl
    go ih false = ih

module _ {u : Setup} {ring fram : List ℕ} {nonces : List (List ℕ)} {entry : Option Checkpoint} {count : ℕ} {owed : Bool} {power_ups : ℕ} {c : Checkpoint}
    (right : Image fram) (r : Recorded u ring fram nonces entry count owed power_ups c) where
  abbrev newest : Newest
  newest = found u.sizes.pages u.sizes.slots count owed

  pub reads : read_ring ring u.sizes.pages u.sizes.slots ≡ newest
  reads = read_is u.sizes.pages u.sizes.slots ring count r.recs owed r.ringed

  pub record_found : newest_record ring u.sizes.slots newest ≡ record_of c.nonce (half_of count)
  record_found = record_is u.sizes.pages u.sizes.slots ring count r.recs owed r.ringed ∙ r.latest

  pub nonce_found : take nonce_length (newest_record ring u.sizes.slots newest) ≡ c.nonce
  nonce_found = rw record_found (nonce_of_record c.nonce (half_of count) r.good.nonce_long)

  pub half_found : half_named (newest_record ring u.sizes.slots newest) ≡ half_of count
  half_found = rw record_found (half_named_of c.nonce (half_of count) r.good.nonce_long (omega arith))

  pub new_nonce : (nonce : List ℕ) → (Memᴰ nonce nonces → ⊥) → nonce_used ring u.sizes.slots newest nonce ≡ false
  new_nonce nonce f = used_is u.sizes.pages u.sizes.slots ring count r.recs owed nonce r.ringed ∙ none_used nonce nonces f r.recs r.known

  pub entry_nonce : nonce_used ring u.sizes.slots newest c.nonce ≡ true
  entry_nonce =
      used_is u.sizes.pages u.sizes.slots ring count r.recs owed c.nonce r.ringed
      ∙ among_last r.recs (record_of c.nonce (half_of count)) c.nonce r.latest (nonce_of_record c.nonce (half_of count) r.good.nonce_long) r.good.nonce_long

  pub target_page_found : target_page u.sizes.pages u.sizes.slots newest ≡ page_in u (count + 1)
  target_page_found = (targets u.sizes.pages u.sizes.slots ring count r.recs owed r.ringed).0

  pub target_slot_found : target_slot u.sizes.slots newest ≡ slot_in u (count + 1)
  target_slot_found = (targets u.sizes.pages u.sizes.slots ring count r.recs owed r.ringed).1

  pub other_half : 1 - half_named (newest_record ring u.sizes.slots newest) ≡ half_of (count + 1)
  other_half = rw half_found (omega (arith, r.ringed.some_record))

  abbrev pub behind : List ℕ
  behind = drop (length (sealed u.key c)) (half_at fram (half_of count))

  half_holds : half_at fram (half_of count) ≡ sealed u.key c ++ behind
  half_holds = half_begins fram (sealed u.key c) (half_of count) right (omega arith) (sealed_fits u.key r.good) r.there

  pub newest_half_is : newest_half ring fram u.sizes.slots newest ≡ sealed u.key c ++ behind
  unfolding newest_half
  newest_half_is = rw half_found half_holds

  half_size : length (newest_half ring fram u.sizes.slots newest) ≡ half_length fram
  unfolding newest_half
  half_size = rw half_found (half_long fram (half_of count) right (omega arith))

  -- firmware that reads the checkpoint
  module _ (firmware : Firmware) (read : ReadBy firmware c) where
    pub read_found : read_as firmware.form (newest_half ring fram u.sizes.slots newest) ≡ c.form
    read_found = ap (λ (h : List ℕ). read_as firmware.form h) newest_half_is ∙ read_as_is u.key c behind r.good.range firmware.form read.0

    -- what is read of the half is read of the sealed checkpoint in its own form
    at_half : {A : Type 0} (f : Form → List ℕ → A) → f (read_as firmware.form (newest_half ring fram u.sizes.slots newest)) (newest_half ring fram u.sizes.slots newest) ≡ f c.form (sealed u.key c ++ behind)
    at_half f = λ i. f (read_found i) (newest_half_is i)

    pub head_found : good_head firmware.longest_part (read_as firmware.form (newest_half ring fram u.sizes.slots newest)) (newest_half ring fram u.sizes.slots newest) ≡ true
    head_found = at_half (good_head firmware.longest_part) ∙ head_passes u.key c behind r.good.range firmware.longest_part read.1.0 read.1.1

    pub tag_found : good_tag (read_as firmware.form (newest_half ring fram u.sizes.slots newest)) u.key (take nonce_length (newest_record ring u.sizes.slots newest)) (newest_half ring fram u.sizes.slots newest) ≡ true
    tag_found = (λ i. good_tag (read_found i) u.key (nonce_found i) (newest_half_is i)) ∙ tag_passes u.key c behind r.good.range

    pub restarts_found : stored_restarts (read_as firmware.form (newest_half ring fram u.sizes.slots newest)) (newest_half ring fram u.sizes.slots newest) ≡ c.restarts
    restarts_found = at_half stored_restarts ∙ restarts_is u.key c behind r.good.range

    pub open_length_found : open_length (read_as firmware.form (newest_half ring fram u.sizes.slots newest)) (newest_half ring fram u.sizes.slots newest) ≡ length c.open_part
    open_length_found = at_half open_length ∙ open_length_is u.key c behind r.good.range

    pub open_found : stored_open (read_as firmware.form (newest_half ring fram u.sizes.slots newest)) (newest_half ring fram u.sizes.slots newest) ≡ c.open_part
    open_found = at_half stored_open ∙ open_is u.key c behind r.good.range

    pub checkpoint_found : stored (read_as firmware.form (newest_half ring fram u.sizes.slots newest)) u.key (take nonce_length (newest_record ring u.sizes.slots newest)) (newest_half ring fram u.sizes.slots newest) ≡ c
    checkpoint_found = (λ i. stored (read_found i) u.key (nonce_found i) (newest_half_is i)) ∙ read_back u.key c behind r.good.range

    -- sealed anew, it outgrows the half or not
    pub outgrows_found : outgrows firmware.form (newest_half ring fram u.sizes.slots newest) ≡ ltb (half_length fram) (sealed_length firmware.form (length c.open_part) (length c.secret))
    unfolding outgrows
    outgrows_found = λ i. ltb (half_size i) (sealed_length firmware.form (open_length_found i) ((at_half secret_length ∙ secret_length_is u.key c behind r.good.range) i))
