-- How the ring of each shape is read. Assumes nothing.
use Prim.Native.Nat.{ℕ, zero, suc, ◌+◌, ◌-◌, ◌*◌, ◌≤◌, ◌<◌}
use mathlib.Core.Path.{◌≡◌, refl, sym, ap, ◌∙◌}
use mathlib.Core.Bool.{true, false}
use mathlib.Core.List.Memᴰ
use mathlib.Core.List.{List, [], ◌∷◌, ◌++◌}
use mathlib.Core.Logic.{⊎_elim}
use native.Mathlib.Nat.{sub-zero}
use native.Mathlib.Numerals.{add-one}
use native.Mathlib.Omega.{arith}
use lib.ListN.{length, replicate, length-replicate, replicate-append-replicate}
use Rattle.octets.specs.Limits.{slot_length, nonce_length}
use Rattle.octets.specs.Octets.{put, blank, erased, bytes}
use Rattle.octets.specs.Word.{word}
use Rattle.octets.proofs.Laws.{is_erased, blank_erased}
use Rattle.ring.specs.Ring.{ring_wrong, page_at, is_record, record_of, page_before, Newest, Blank, At, AtPending, read_ring, record_put}
use Rattle.ring.proofs.SizeLaws.{Counts, Sized, right_size}
use Rattle.ring.proofs.TurnLaws.{PageBefore, before_laws}
use Rattle.ring.proofs.RecordLaws.{Records, page_with, no_record, is_record_of, put_with}
use Rattle.ring.proofs.PageLaws.{page_blank, length_page}
use Rattle.ring.proofs.ReadLaws.{Holds, not_blank, read_one, read_two}
use Rattle.ring.proofs.RingLaws.{read_blank}
use Rattle.ring.proofs.StoreLaws.{record_length, record_sized, record_page, record_other}
use Rattle.ring_shapes.specs.Shapes.{NoRecord, Pending, Alone, R, with_records, blank_ring, ring_of}
use Rattle.ring_shapes.proofs.PlaceLaws.{page_shape}

-- how a page's shapes are read
abbrev pub page_reading : (pages page j : ℕ) → Newest
page_reading pages page zero = AtPending page (page_before pages page)
page_reading pages page (suc s) = At page s

-- ---- the record R, and rows of it

pub R_is : R ≡ record_of (replicate nonce_length 0) 0
unfolding record_of word bytes
R_is = refl

R_record : (length R ≡ slot_length) × (is_record R ≡ true)
R_record = (refl, ap is_record R_is ∙ is_record_of (replicate nonce_length 0) 0 refl (omega arith))

all_R : (k : ℕ) → Records (replicate k R)
all_R zero q m = no_record q m
all_R (suc k) q m = ⊎_elim (λ e. rw e R_record) (λ b. all_R k q b) (Memᴰ.cases_cons m)

one_more_R : (k : ℕ) → replicate k R ++ R ∷ [] ≡ replicate (suc k) R
one_more_R k = replicate-append-replicate k 1 R ∙ ap (λ (n : ℕ). replicate n R) (add-one k)

-- R in one slot more
pub with_more : (ring : List ℕ) (slots p k : ℕ) → record_put (with_records ring slots p k) slots p k R ≡ with_records ring slots p (k + 1)
unfolding with_records
with_more ring slots p k = rw add-one

pub with_length : (ring : List ℕ) (slots p k : ℕ) → slot_length * (p * slots + k) ≤ length ring → length (with_records ring slots p k) ≡ length ring
unfolding with_records
with_length ring slots p zero h = refl
with_length ring slots p (suc k) h =
    let e : length (with_records ring slots p k) ≡ length ring = with_length ring slots p k (omega arith) in
    record_length (with_records ring slots p k) slots p k R (omega arith) ∙ e

-- ---- R in the first slots of a blank page

record Room (pages slots : ℕ) (base : List ℕ) (p : ℕ) : Type 0 where
  size : Sized pages slots base
  in_ring : p < pages
  none_yet : blank (page_at base slots p) ≡ true

module _ {pages slots : ℕ} {base : List ℕ} {p : ℕ} (o : Room pages slots base p) where
  with_sized : (k : ℕ) → k ≤ slots → Sized pages slots (with_records base slots p k)
  unfolding with_records
  with_sized zero f = o.size
  with_sized (suc k) f = record_sized (with_sized k (omega arith)) p k o.in_ring (omega arith) R refl

  with_other : (k : ℕ) → k ≤ slots → (q : ℕ) → (q ≡ p → ⊥) → page_at (with_records base slots p k) slots q ≡ page_at base slots q
  unfolding with_records
  with_other zero f q n = refl
  with_other (suc k) f q n =
      record_other (with_sized k (omega arith)) p k o.in_ring (omega arith) R refl q n ∙ with_other k (omega arith) q n

  page_is : (k : ℕ) → k ≤ slots → page_at (with_records base slots p k) slots p ≡ page_with slots (replicate k R)
  unfolding with_records
  page_is zero f =
      is_erased (page_at base slots p) o.none_yet
      ∙ ap erased (length_page o.size p o.in_ring ∙ ap (λ (n : ℕ). slot_length * n) (sym (sub-zero slots)))
  page_is (suc k) f =
      let l : k ≡ length (replicate k R) = sym (length-replicate k R) in
      record_page (with_sized k (omega arith)) p k o.in_ring (omega arith) R refl
      ∙ (λ i. put (page_is k (omega arith) i) (slot_length * l i) R)
      ∙ put_with slots (replicate k R) (all_R k) R refl (omega arith)
      ∙ ap (page_with slots) (one_more_R k)

  with_holds : (k : ℕ) → 0 < k → k ≤ slots → Holds (with_records base slots p k) slots p (replicate k R)
  with_holds k z f = record {
    are_records = all_R k;
    some = omega (arith, length-replicate k R);
    fits = omega (arith, length-replicate k R);
    page = page_is k f;
  }

-- ---- the rings

module _ {pages slots : ℕ} (c : Counts pages slots) where
  blank_sized : Sized pages slots (blank_ring pages slots)
  blank_sized = record { numbers = c; bytes = length-replicate (slot_length * (pages * slots)) 0xFF }

  blank_pages : (p : ℕ) → blank (page_at (blank_ring pages slots) slots p) ≡ true
  blank_pages p = page_blank (blank_ring pages slots) slots p (blank_erased (slot_length * (pages * slots)))

  on_blank : (p : ℕ) → p < pages → Room pages slots (blank_ring pages slots) p
  on_blank p h = record { size = blank_sized; in_ring = h; none_yet = blank_pages p }

  module _ (p : ℕ) (h : p < pages) where
    alone_sized : (s : ℕ) → s < slots → Sized pages slots (ring_of pages slots (Alone p s))
    unfolding ring_of
    alone_sized s l = with_sized (on_blank p h) (suc s) (omega arith)

    alone_reads : (s : ℕ) → s < slots → read_ring (ring_of pages slots (Alone p s)) pages slots ≡ At p s
    unfolding ring_of
    alone_reads s l =
        let e : length (replicate (suc s) R) - 1 ≡ s = omega (arith, length-replicate (suc s) R) in
        read_one (with_holds (on_blank p h) (suc s) (omega arith) (omega arith)) pages h
        (λ q b n. ap blank (with_other (on_blank p h) (suc s) (omega arith) q n) ∙ blank_pages q)
        ∙ ap (At p) e

    before : PageBefore pages p
    before = before_laws pages p c.some_pages h

    -- the page before is full of records, and then slot 0 of this one
    first : Room pages slots (blank_ring pages slots) (page_before pages p)
    first = on_blank (page_before pages p) before.in_ring

    then : Room pages slots (with_records (blank_ring pages slots) slots (page_before pages p) slots) p
    then = record {
      size = with_sized first slots (omega arith);
      in_ring = h;
      none_yet = ap blank (with_other first slots (omega arith) p (λ e. before.other (sym e))) ∙ blank_pages p;
    }

    one_fits : 1 ≤ slots
    one_fits = omega (arith, c.some_slots)

    pending_sized : Sized pages slots (ring_of pages slots (Pending p))
    unfolding ring_of
    pending_sized = with_sized then 1 one_fits

    pending_reads : read_ring (ring_of pages slots (Pending p)) pages slots ≡ AtPending p (page_before pages p)
    unfolding ring_of
    pending_reads =
        read_two (with_holds then 1 (omega arith) one_fits) pages h c.some_pages refl
        (ap blank (with_other then 1 one_fits (page_before pages p) before.other) ∙ not_blank (with_holds first slots one_fits (omega arith)))
        (λ q b x y. ap blank (with_other then 1 one_fits q x ∙ with_other first slots (omega arith) q y) ∙ blank_pages q)

  -- ---- of a page's shapes in their order

  pub shape_sizes : (p j : ℕ) → p < pages → j ≤ slots → ring_wrong pages slots (ring_of pages slots (page_shape p j)) ≡ false
  shape_sizes p zero h b = right_size (pending_sized p h)
  shape_sizes p (suc s) h b = right_size (alone_sized p h s (omega arith))

  pub shape_reads : (p j : ℕ) → p < pages → j ≤ slots → read_ring (ring_of pages slots (page_shape p j)) pages slots ≡ page_reading pages p j
  shape_reads p zero h b = pending_reads p h
  shape_reads p (suc s) h b = alone_reads p h s (omega arith)

  pub none_sizes : ring_wrong pages slots (ring_of pages slots NoRecord) ≡ false
  unfolding ring_of
  none_sizes = right_size blank_sized

  pub none_reads : read_ring (ring_of pages slots NoRecord) pages slots ≡ Blank
  unfolding ring_of
  none_reads = read_blank pages slots (blank_ring pages slots) (right_size blank_sized) (blank_erased (slot_length * (pages * slots)))
