-- What is found in a ring with `count` records, one or more, and an erase owed or not. Assumes nothing.
use Prim.Native.Nat.{ℕ, ◌+◌}
use mathlib.Core.Path.{◌≡◌, refl}
use mathlib.Core.Bool.{Bool, true, false}
use mathlib.Core.List.{List}
use native.Mathlib.Omega.{arith}
use lib.ListN.{take}
use Rattle.octets.specs.Limits.{nonce_length}
use Rattle.octets.specs.Octets.{same}
use Rattle.ring.specs.Ring.{page_before, Newest, At, AtPending, read_ring, is_blank, is_unreadable, is_pending, newest_page, newest_slot, newest_record, nonce_used, target_page, target_slot}
use Rattle.ring.proofs.RingLaws.{Ringed, page_of, slot_of, last, any, read_alone, read_pending, newest_is, nonce_among, target_pages, target_pending}

abbrev pub found : ℕ → ℕ → ℕ → Bool → Newest
found pages slots count false = At (page_of pages slots count) (slot_of slots count)
found pages slots count true = AtPending (page_of pages slots count) (page_before pages (page_of pages slots count))

module _ (pages slots : ℕ) (ring : List ℕ) (count : ℕ) (recs : List (List ℕ)) where
  pub read_is : (owed : Bool) → Ringed pages slots ring count owed recs → read_ring ring pages slots ≡ found pages slots count owed
  read_is false h = read_alone pages slots ring count recs h
  read_is true h = read_pending pages slots ring count recs h

  pub slot_is : (owed : Bool) → Ringed pages slots ring count owed recs → newest_slot (found pages slots count owed) ≡ slot_of slots count
  slot_is false h = refl
  slot_is true h = omega (arith, (h.pending refl).0, h.number)

  pub page_is : (owed : Bool) → newest_page (found pages slots count owed) ≡ page_of pages slots count
  page_is false = refl
  page_is true = refl

  pub record_is : (owed : Bool) → Ringed pages slots ring count owed recs → newest_record ring slots (found pages slots count owed) ≡ last recs
  unfolding newest_record
  record_is owed h = rw (slot_is owed h, page_is owed) (newest_is pages slots ring count recs owed h)

  pub used_is : (owed : Bool) (nonce : List ℕ) → Ringed pages slots ring count owed recs
      → nonce_used ring slots (found pages slots count owed) nonce ≡ any (λ r. same (take nonce_length r) nonce) recs
  unfolding nonce_used
  used_is owed nonce h = rw (slot_is owed h, page_is owed) (nonce_among pages slots ring count recs owed nonce h)

  pub targets : (owed : Bool) → Ringed pages slots ring count owed recs
      → (target_page pages slots (found pages slots count owed) ≡ page_of pages slots (count + 1))
      × (target_slot slots (found pages slots count owed) ≡ slot_of slots (count + 1))
  targets false h = target_pages pages slots ring count recs h
  targets true h = target_pending pages slots ring count recs h

pub not_blank : (owed : Bool) (pages slots count : ℕ) → is_blank (found pages slots count owed) ≡ false
not_blank true pages slots count = refl
not_blank false pages slots count = refl

pub not_unreadable : (owed : Bool) (pages slots count : ℕ) → is_unreadable (found pages slots count owed) ≡ false
not_unreadable true pages slots count = refl
not_unreadable false pages slots count = refl

pub pending_is : (owed : Bool) (pages slots count : ℕ) → is_pending (found pages slots count owed) ≡ owed
pending_is true pages slots count = refl
pending_is false pages slots count = refl
