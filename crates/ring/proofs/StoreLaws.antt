-- What stores leave as it was, and which session is of the newest record. Assumes nothing.
use Prim.Native.Nat.{ℕ, ◌+◌, ◌-◌, ◌*◌, ◌≤◌, ◌<◌}
use mathlib.Core.Path.{◌≡◌, refl, ap, subst, ◌∙◌}
use mathlib.Core.Bool.{true, false, ◌&&◌}
use mathlib.Core.List.{List}
use native.Mathlib.Omega.{arith}
use lib.ListN.{length}
use lib.Dec.{eqb}
use borrow.Author.Tests.{eq-eqb, not-false}
use Rattle.octets.specs.Limits.{slot_length}
use Rattle.octets.specs.Octets.{part, put, same, blank, erased}
use Rattle.octets.proofs.Laws.{length_part, length_put, put_back, and-true, same_equal, equal_same, blank_part, is_erased}
use Rattle.ring.specs.Ring.{slot_at, page_at, page_before, Newest, newest_page, newest_slot, newest_record, not_newest, page_put, page_erased, record_put}
use Rattle.ring.proofs.SizeLaws.{Sized, slot_ends}
use Rattle.ring.proofs.PageLaws.{PutWithin, put_page, put_other}

-- the slots of a blank ring
pub slot_blank : (ring : List ℕ) (slots page slot : ℕ) → blank ring ≡ true → blank (slot_at ring slots page slot) ≡ true
unfolding slot_at
slot_blank ring slots page slot b = blank_part ring (slot_length * (page * slots + slot)) slot_length b

-- blank bytes over a blank slot
pub put_blank : (ring : List ℕ) (slots page slot : ℕ) → slot_length * (page * slots + slot) + slot_length ≤ length ring
    → blank (slot_at ring slots page slot) ≡ true → record_put ring slots page slot (erased slot_length) ≡ ring
unfolding slot_at record_put
put_blank ring slots page slot l b =
    let off : ℕ = slot_length * (page * slots + slot) in
    let e : part ring off slot_length ≡ erased slot_length = is_erased (part ring off slot_length) b ∙ ap erased (length_part ring off slot_length l) in
    subst (λ (y : List ℕ). put ring off y ≡ ring) e (put_back ring off slot_length l)

-- a record written to a slot: the ring's length, its page, and the others
pub record_length : (ring : List ℕ) (slots page slot : ℕ) (r : List ℕ) → slot_length * (page * slots + slot) + length r ≤ length ring
    → length (record_put ring slots page slot r) ≡ length ring
unfolding record_put
record_length ring slots page slot r h = length_put ring (slot_length * (page * slots + slot)) r h

module _ {pages slots : ℕ} {ring : List ℕ} (z : Sized pages slots ring) (p s : ℕ) (h : p < pages) (k : s < slots) (r : List ℕ) (l : length r ≡ slot_length) where
  within : PutWithin pages slots ring p (slot_length * s) (slot_length * (p * slots + s)) r
  within = record { size = z; in_ring = h; place = omega arith; in_page = omega arith }

  pub record_sized : Sized pages slots (record_put ring slots p s r)
  record_sized = record { numbers = z.numbers; bytes = record_length ring slots p s r (rw l (slot_ends z p h s k)) ∙ z.bytes }

  pub record_page : page_at (record_put ring slots p s r) slots p ≡ put (page_at ring slots p) (slot_length * s) r
  unfolding record_put
  record_page = put_page within

  pub record_other : (q : ℕ) → (q ≡ p → ⊥) → page_at (record_put ring slots p s r) slots q ≡ page_at ring slots q
  unfolding record_put
  record_other q n = put_other within q n

-- an erase puts blank bytes
pub erased_is : (ring : List ℕ) (slots page : ℕ) → page_erased ring slots page ≡ page_put ring slots page (erased (slot_length * slots))
unfolding page_erased
erased_is ring slots page = refl

pub before_first : (pages : ℕ) → page_before pages 0 ≡ pages - 1
unfolding page_before
before_first pages = refl

module _ (ring : List ℕ) (slots : ℕ) (n : Newest) (page slot : ℕ) (latest : List ℕ) where
  pub newest_latest : not_newest ring slots n page slot latest ≡ false → latest ≡ newest_record ring slots n
  unfolding not_newest
  newest_latest e =
      same_equal latest (newest_record ring slots n)
      (and-true (eqb page (newest_page n) && eqb slot (newest_slot n)) (same latest (newest_record ring slots n)) (not-false _ e)).1

  pub is_newest : page ≡ newest_page n → slot ≡ newest_slot n → latest ≡ newest_record ring slots n → not_newest ring slots n page slot latest ≡ false
  unfolding not_newest
  is_newest p s l = rw (eq-eqb page (newest_page n) p, eq-eqb slot (newest_slot n) s, equal_same latest (newest_record ring slots n) l)
