-- A ring with one record alone, in page 0, slot 0, byte for byte. Assumes nothing.
use Prim.Native.Nat.{ℕ, zero, suc, ◌+◌, ◌-◌, ◌*◌, ◌/◌, ◌%◌, ◌<◌}
use mathlib.Core.Path.{◌≡◌, sym, ap, ◌∙◌}
use mathlib.Core.Bool.{true, false}
use mathlib.Core.List.{List, ◌++◌}
use native.Mathlib.Nat.{div-add-mod', mod-lt, div-lt_iff_lt-mul}
use native.Mathlib.Omega.{arith}
use lib.ListN.{length, take, drop, length-drop, take-append-drop}
use lib.Seq.{take_all}
use borrow.Author.Tests.{eqb-true}
use Rattle.octets.specs.Limits.{slot_length, nonce_length}
use Rattle.octets.specs.Octets.{Bytes, part, blank, erased}
use Rattle.octets.specs.Word.{word, word_at, kind_of, value_of}
use Rattle.octets.proofs.Laws.{and-true, is_erased}
use Rattle.octets.proofs.Numbers.{word_again}
use Rattle.ring.specs.Ring.{ring_wrong, slot_at, is_record, half_named, record_of, At, read_ring}
use Rattle.ring.specs.Readable.{OneUsed}
use Rattle.ring.proofs.SizeLaws.{Sized, sized}
use Rattle.ring.proofs.SlotLaws.{later, slots_blank}
use Rattle.ring.proofs.Exactly.{reads_exactly}

-- a record of bytes is that of its nonce and the half that it names
pub record_again : (slot : List ℕ) → length slot ≡ slot_length → Bytes slot → is_record slot ≡ true → slot ≡ record_of (take nonce_length slot) (half_named slot)
unfolding is_record half_named record_of part
record_again slot l b e =
    let kind : kind_of (word_at slot nonce_length) ≡ 1 = eqb-true _ _ (and-true _ _ e).0 in
    let place : word 1 (value_of (word_at slot nonce_length)) ≡ take 4 (drop nonce_length slot) = word_again slot nonce_length 1 (omega arith) b kind in
    let whole : take 4 (drop nonce_length slot) ≡ drop nonce_length slot = take_all 4 (drop nonce_length slot) (rw (length-drop nonce_length slot) (omega arith)) in
    sym (take-append-drop nonce_length slot) ∙ ap (λ (w : List ℕ). take nonce_length slot ++ w) (sym (place ∙ whole))

module _ (pages slots : ℕ) (ring : List ℕ) (w : ring_wrong pages slots ring ≡ false) (e : read_ring ring pages slots ≡ At 0 0) where
  size : Sized pages slots ring
  size = sized pages slots ring w

  used : OneUsed ring pages slots 0 0
  used = (reads_exactly pages slots ring w (At 0 0)).0 e

  -- every slot but the first is blank
  other_blank : (p s : ℕ) → p < pages → s < slots → 0 < p + s → blank (slot_at ring slots p s) ≡ true
  other_blank zero s h k n = used.newest.rest_blank s (omega arith) k
  other_blank (suc p) s h k n = used.others_blank (suc p) h (λ z. absurd (omega arith)) s k

  rest_blank : blank (drop slot_length ring) ≡ true
  unfolding slot_at
  rest_blank =
      slots_blank (pages * slots - 1) (drop slot_length ring) (rw (length-drop slot_length ring) (omega (arith, size.bytes)))
      (λ i h.
      let some : 0 < slots = omega (arith, size.numbers.some_slots) in
      let at : suc i / slots * slots + suc i % slots ≡ suc i = div-add-mod' (suc i) slots in
      ap blank (later ring 1 i (suc i) (omega arith))
      ∙ ap (λ (j : ℕ). blank (part ring (slot_length * j) slot_length)) (sym at)
      ∙ other_blank (suc i / slots) (suc i % slots) ((div-lt_iff_lt-mul some).1 (omega arith)) (mod-lt (suc i) some) (positive (suc i / slots) (suc i % slots) at))
    where
      positive : {i : ℕ} (p s : ℕ) → p * slots + s ≡ suc i → 0 < p + s
      positive zero zero q = absurd (omega arith)
      positive zero (suc s) q = omega arith
      positive (suc p) s q = omega arith

  -- the ring is that slot and blank bytes
  pub first_alone : ring ≡ slot_at ring slots 0 0 ++ erased (slot_length * (pages * slots) - slot_length)
  unfolding slot_at part
  first_alone =
      let long : length (drop slot_length ring) ≡ slot_length * (pages * slots) - slot_length = rw (length-drop slot_length ring) (omega (arith, size.bytes)) in
      let at : 0 ≡ slot_length * (0 * slots + 0) = omega arith in
      sym (take-append-drop slot_length ring)
      ∙ (λ i. take slot_length (drop (at i) ring) ++ (is_erased (drop slot_length ring) rest_blank ∙ ap erased long) i)

-- two such rings with one record are the same
pub same_first : (pages slots : ℕ) (ring ring' : List ℕ) → ring_wrong pages slots ring ≡ false → ring_wrong pages slots ring' ≡ false
    → read_ring ring pages slots ≡ At 0 0 → read_ring ring' pages slots ≡ At 0 0 → slot_at ring slots 0 0 ≡ slot_at ring' slots 0 0 → ring ≡ ring'
same_first pages slots ring ring' w w' e e' s =
    first_alone pages slots ring w e ∙ ap (λ (l : List ℕ). l ++ erased (slot_length * (pages * slots) - slot_length)) s ∙ sym (first_alone pages slots ring' w' e')
