-- What the sizes of a ring that pass stop 1 say: bounds of its numbers, and where its pages and slots end. Assumes nothing.
use Prim.Native.Nat.{ℕ, ◌+◌, ◌*◌, ◌≤◌, ◌<◌}
use mathlib.Core.Path.{◌≡◌}
use mathlib.Core.Bool.{false, ◌||◌}
use mathlib.Core.List.{List}
use native.Mathlib.Nat.{mul-le-mul, mul-le-mul_right}
use native.Mathlib.Omega.{arith}
use lib.ListN.{length}
use lib.Dec.{ltb}
use borrow.Author.Tests.{le-ltb, ltb-false, eq-eqb, eqb-true, not-false}
use Rattle.octets.specs.Limits.{pages_least, pages_limit, slots_least, slots_limit, slot_length}
use Rattle.stops.proofs.Laws.{neither}
use Rattle.ring.specs.Ring.{ring_wrong}

-- the numbers of pages and slots
pub record Counts (pages slots : ℕ) : Type 0 where
  pub some_pages : pages_least ≤ pages
  pub few_pages : pages ≤ pages_limit
  pub some_slots : slots_least ≤ slots
  pub few_slots : slots ≤ slots_limit

pub counts : (pages slots : ℕ) → (ltb pages pages_least || ltb pages_limit pages || ltb slots slots_least || ltb slots_limit slots) ≡ false → Counts pages slots
counts pages slots e =
    let c = neither _ _ e in
    let b = neither _ _ c.0 in
    let a = neither _ _ b.0 in
    record {
      some_pages = ltb-false _ _ a.0;
      few_pages = ltb-false _ _ a.1;
      some_slots = ltb-false _ _ b.1;
      few_slots = ltb-false _ _ c.1;
    }

pub few_in_all : {pages slots : ℕ} → Counts pages slots → pages * slots ≤ pages_limit * slots_limit
few_in_all c = mul-le-mul c.few_pages c.few_slots

-- these and the image's length
pub record Sized (pages slots : ℕ) (ring : List ℕ) : Type 0 where
  pub numbers : Counts pages slots
  pub bytes : length ring ≡ slot_length * (pages * slots)

pub sized : (pages slots : ℕ) (ring : List ℕ) → ring_wrong pages slots ring ≡ false → Sized pages slots ring
unfolding ring_wrong
sized pages slots ring w =
    let e = neither _ _ w in
    record { numbers = counts pages slots e.0; bytes = eqb-true _ _ (not-false _ e.1) }

pub right_size : {pages slots : ℕ} {ring : List ℕ} → Sized pages slots ring → ring_wrong pages slots ring ≡ false
unfolding ring_wrong
right_size {pages} {slots} {ring} z =
    rw (
      le-ltb pages pages_least z.numbers.some_pages,
      le-ltb pages_limit pages z.numbers.few_pages,
      le-ltb slots slots_least z.numbers.some_slots,
      le-ltb slots_limit slots z.numbers.few_slots,
      eq-eqb (length ring) (slot_length * (pages * slots)) z.bytes,
    )

pub sized_alike : (pages slots : ℕ) (a b : List ℕ) → length a ≡ length b → ring_wrong pages slots b ≡ false → ring_wrong pages slots a ≡ false
unfolding ring_wrong
sized_alike pages slots a b e w = rw e w

-- a page stands before the ones that follow it
pub page_fits : (pages slots p : ℕ) → p < pages → p * slots + slots ≤ pages * slots
page_fits pages slots p h = omega (arith, mul-le-mul_right slots h)

-- where a page and a slot end
module _ {pages slots : ℕ} {ring : List ℕ} (z : Sized pages slots ring) (p : ℕ) (h : p < pages) where
  pub page_ends : slot_length * (p * slots) + slot_length * slots ≤ length ring
  page_ends = omega (arith, page_fits pages slots p h)

  pub slot_ends : (s : ℕ) → s < slots → slot_length * (p * slots + s) + slot_length ≤ length ring
  slot_ends s k = omega (arith, page_ends)
