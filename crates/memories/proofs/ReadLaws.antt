-- What a reading of the lent ring says of the ring. Assumes nothing.
use Rattle.std.proofs.Common.{◌≡◌, ℕ, List, ◌∙◌}
use Rattle.ring.specs.Ring.{read_ring, newest_record, nonce_used, target_page, target_slot}
use Rattle.ring.specs.View.{newest}
use Rattle.ring.specs.declared.found.Reading.{Reading}
use Rattle.memories.specs.Read.{ReadFrom}

module _ (r : Reading) (pages slots : ℕ) (ring : List ℕ) (e : ReadFrom r pages slots ring) where
  pub found_is : newest r.found ≡ read_ring ring pages slots
  found_is = r.is_read ∙ (λ i. read_ring (e.same_bytes i) (e.same_pages i) (e.same_slots i))

  pub record_is : newest_record r.ring.bytes.now r.ring.slots (newest r.found) ≡ newest_record ring slots (read_ring ring pages slots)
  record_is = λ i. newest_record (e.same_bytes i) (e.same_slots i) (found_is i)

  pub used_is : (nonce : List ℕ) → nonce_used r.ring.bytes.now r.ring.slots (newest r.found) nonce ≡ nonce_used ring slots (read_ring ring pages slots) nonce
  used_is nonce = λ i. nonce_used (e.same_bytes i) (e.same_slots i) (found_is i) nonce

  pub page_is : target_page r.ring.pages r.ring.slots (newest r.found) ≡ target_page pages slots (read_ring ring pages slots)
  page_is = λ i. target_page (e.same_pages i) (e.same_slots i) (found_is i)

  pub slot_is : target_slot r.ring.slots (newest r.found) ≡ target_slot slots (read_ring ring pages slots)
  slot_is = λ i. target_slot (e.same_slots i) (found_is i)
