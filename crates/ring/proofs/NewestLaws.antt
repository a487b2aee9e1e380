-- What is known of the newest record and the pending page that reading a ring finds. Assumes nothing.
use Prim.Native.Nat.{ℕ, ◌+◌, ◌*◌, ◌/◌, ◌%◌, ◌<◌}
use mathlib.Core.Path.{◌≡◌, refl, sym, ap, ◌∙◌}
use mathlib.Core.Bool.{Bool, true, false, true≢false}
use mathlib.Core.List.{List}
use native.Mathlib.Nat.{div-add-mod', mod-lt, div-lt_iff_lt-mul}
use native.Mathlib.Omega.{arith}
use Rattle.octets.specs.Limits.{slot_length}
use Rattle.octets.specs.Octets.{part, blank}
use Rattle.ring.specs.Ring.{ring_wrong, slot_at, is_record, half_named, page_before, Newest, Blank, Unreadable, At, AtPending, read_ring, is_blank, is_unreadable, newest_record, Within}
use Rattle.ring.specs.Readable.{Reads}
use Rattle.ring.proofs.SizeLaws.{Sized, sized}
use Rattle.ring.proofs.TurnLaws.{next_laws}
use Rattle.ring.proofs.RecordLaws.{half_fits}
use Rattle.ring.proofs.SlotLaws.{slots_blank}
use Rattle.ring.proofs.RingLaws.{read_blank}
use Rattle.ring.proofs.Exactly.{reads_exactly}

module _ (pages slots : ℕ) (ring : List ℕ) (w : ring_wrong pages slots ring ≡ false) where
  size : Sized pages slots ring
  size = sized pages slots ring w

  so : Reads ring pages slots (read_ring ring pages slots)
  so = (reads_exactly pages slots ring w (read_ring ring pages slots)).0 refl

  -- its place lies in the ring
  pub read_within : Within pages slots (read_ring ring pages slots)
  read_within = go (read_ring ring pages slots) so
    where
      go : (n : Newest) → Reads ring pages slots n → Within pages slots n
      go Blank r = record { page_in = omega (arith, size.numbers.some_pages); slot_in = omega (arith, size.numbers.some_slots) }
      go Unreadable r = record { page_in = omega (arith, size.numbers.some_pages); slot_in = omega (arith, size.numbers.some_slots) }
      go (At p s) r = record { page_in = r.newest.page_in; slot_in = r.newest.slot_in }
      go (AtPending p q) r = record { page_in = r.newest.page_in; slot_in = r.newest.slot_in }

  -- it is a record, and names a half
  pub newest_is_record : is_blank (read_ring ring pages slots) ≡ false → is_unreadable (read_ring ring pages slots) ≡ false
      → is_record (newest_record ring slots (read_ring ring pages slots)) ≡ true
  unfolding newest_record
  newest_is_record b u = go (read_ring ring pages slots) so b u
    where
      go : (n : Newest) → Reads ring pages slots n → is_blank n ≡ false → is_unreadable n ≡ false → is_record (newest_record ring slots n) ≡ true
      go Blank r b u = absurd (true≢false b)
      go Unreadable r b u = absurd (true≢false u)
      go (At p s) r b u = r.newest.are_records s (omega arith)
      go (AtPending p q) r b u = r.newest.are_records 0 (omega arith)

  pub newest_half_fits : is_blank (read_ring ring pages slots) ≡ false → is_unreadable (read_ring ring pages slots) ≡ false
      → half_named (newest_record ring slots (read_ring ring pages slots)) < 2
  newest_half_fits b u = half_fits (newest_record ring slots (read_ring ring pages slots)) (newest_is_record b u)

  -- the pending page is the one before
  pub pending_before : (p q : ℕ) → read_ring ring pages slots ≡ AtPending p q → (q < pages) × (q ≡ page_before pages p)
  pending_before p q e =
      let r = (reads_exactly pages slots ring w (AtPending p q)).0 e in
      (r.pending_in, sym (next_laws pages q size.numbers.some_pages r.pending_in).back ∙ ap (page_before pages) (sym r.follows))

  -- stops 5 and 6: a ring is read as wholly blank if all its bytes are 0xFF, and only then
  pub blank_all : read_ring ring pages slots ≡ Blank → blank ring ≡ true
  unfolding slot_at
  blank_all e =
      slots_blank (pages * slots) ring size.bytes
      (λ i h.
      let some : 0 < slots = omega (arith, size.numbers.some_slots) in
      let at : i / slots * slots + i % slots ≡ i = div-add-mod' i slots in
      ap (λ (j : ℕ). blank (part ring (slot_length * j) slot_length)) (sym at)
      ∙ (reads_exactly pages slots ring w Blank).0 e (i / slots) ((div-lt_iff_lt-mul some).1 h) (i % slots) (mod-lt i some))

  pub is_blank_all : is_blank (read_ring ring pages slots) ≡ blank ring
  is_blank_all = go (read_ring ring pages slots) refl (blank ring) refl
    where
      go : (n : Newest) → read_ring ring pages slots ≡ n → (t : Bool) → blank ring ≡ t → is_blank n ≡ t
      go Blank e t b = sym (blank_all e) ∙ b
      go Unreadable e true b = let f = read_blank pages slots ring w b in let i : ◌≡◌ {A = ℕ} 0 1 = cc in absurd (omega arith)
      go Unreadable e false b = refl
      go (At p s) e true b = let f = read_blank pages slots ring w b in let i : ◌≡◌ {A = ℕ} 0 1 = cc in absurd (omega arith)
      go (At p s) e false b = refl
      go (AtPending p q) e true b = let f = read_blank pages slots ring w b in let i : ◌≡◌ {A = ℕ} 0 1 = cc in absurd (omega arith)
      go (AtPending p q) e false b = refl
