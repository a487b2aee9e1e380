-- How many shapes a size has, and where each stands in their list. Assumes nothing.
use Prim.Native.Nat.{ℕ, zero, suc, ◌+◌, ◌-◌, ◌*◌, ◌/◌, ◌%◌, ◌≤◌, ◌<◌}
use mathlib.Core.Path.{◌≡◌, refl, sym, ap, ◌∙◌}
use mathlib.Core.List.{List, ◌∷◌, ◌++◌}
use native.Mathlib.Nat.{add-zero, div-add-mod', mod-lt, div-lt_iff_lt-mul}
use native.Mathlib.Omega.{arith}
use lib.ListN.{length, get_or, length-append, get_or-append}
use lib.Seq.{get_or-append-add}
use Rattle.ring.proofs.SizeLaws.{page_fits}
use Rattle.ring_shapes.specs.Shapes.{Shape, NoRecord, Pending, Alone, from_slot, from_page, shapes, ring_of, ring_number}

-- the shapes of a page in their order
abbrev pub page_shape : (page j : ℕ) → Shape
page_shape page zero = Pending page
page_shape page (suc s) = Alone page s

-- ---- the slots of a page

length_from_slot : (page slot left : ℕ) → length (from_slot page slot left) ≡ left
unfolding from_slot
length_from_slot page slot zero = refl
length_from_slot page slot (suc left) = ap suc (length_from_slot page (suc slot) left)

at_slot : (page slot left i : ℕ) → i < left → get_or (from_slot page slot left) i NoRecord ≡ Alone page (slot + i)
unfolding from_slot
at_slot page slot zero i h = absurd (omega arith)
at_slot page slot (suc left) zero h = ap (Alone page) (sym (add-zero slot))
at_slot page slot (suc left) (suc i) h =
    let e : suc slot + i ≡ slot + suc i = omega arith in
    at_slot page (suc slot) left i (omega arith) ∙ ap (Alone page) e

of_page : (slots page : ℕ) → List Shape
of_page slots page = Pending page ∷ from_slot page 0 slots

at_page : (slots page j : ℕ) → j ≤ slots → get_or (of_page slots page) j NoRecord ≡ page_shape page j
unfolding of_page
at_page slots page zero h = refl
at_page slots page (suc s) h =
    let e : 0 + s ≡ s = omega arith in
    at_slot page 0 slots s (omega arith) ∙ ap (Alone page) e

length_of_page : (slots page : ℕ) → length (of_page slots page) ≡ slots + 1
unfolding of_page
length_of_page slots page = omega (arith, length_from_slot page 0 slots)

-- ---- the pages

length_from_page : (slots page left : ℕ) → length (from_page slots page left) ≡ left * (slots + 1)
unfolding from_page of_page
length_from_page slots page zero = omega arith
length_from_page slots page (suc left) =
    omega (arith, length-append (of_page slots page) (from_page slots (suc page) left), length_of_page slots page, length_from_page slots (suc page) left)

at_place : (slots page left i j : ℕ) → i < left → j ≤ slots → get_or (from_page slots page left) (i * (slots + 1) + j) NoRecord ≡ page_shape (page + i) j
unfolding from_page of_page
at_place slots page zero i j h b = absurd (omega arith)
at_place slots page (suc left) zero j h b =
    let n : 0 * (slots + 1) + j ≡ j = omega arith in
    ap (λ (k : ℕ). get_or (of_page slots page ++ from_page slots (suc page) left) k NoRecord) n
    ∙ get_or-append (of_page slots page) (from_page slots (suc page) left) NoRecord j (omega (arith, length_of_page slots page))
    ∙ at_page slots page j b ∙ ap (λ (p : ℕ). page_shape p j) (sym (add-zero page))
at_place slots page (suc left) (suc i) j h b =
    let n : suc i * (slots + 1) + j ≡ length (of_page slots page) + (i * (slots + 1) + j) = omega (arith, length_of_page slots page) in
    let p : suc page + i ≡ page + suc i = omega arith in
    ap (λ (k : ℕ). get_or (of_page slots page ++ from_page slots (suc page) left) k NoRecord) n
    ∙ get_or-append-add (of_page slots page) (from_page slots (suc page) left) (i * (slots + 1) + j) NoRecord
    ∙ at_place slots (suc page) left i j (omega arith) b ∙ ap (λ (q : ℕ). page_shape q j) p

-- ---- all of them

pub in_all : (pages slots : ℕ) → length (shapes pages slots) ≡ 1 + pages * slots + pages
unfolding shapes
in_all pages slots = omega (arith, length_from_page slots 0 pages)

-- the number of a page's shape
abbrev pub number_of : (slots page j : ℕ) → ℕ
number_of slots page j = suc (page * (slots + 1) + j)

pub number_is : (pages slots p j : ℕ) → p < pages → j ≤ slots → ring_number pages slots (number_of slots p j) ≡ ring_of pages slots (page_shape p j)
unfolding ring_number shapes
number_is pages slots p j h b =
    let e : 0 + p ≡ p = omega arith in
    ap (ring_of pages slots) (at_place slots 0 pages p j h b ∙ ap (λ (q : ℕ). page_shape q j) e)

pub number_in_all : (pages slots p j : ℕ) → p < pages → j ≤ slots → number_of slots p j < length (shapes pages slots)
number_in_all pages slots p j h b = omega (arith, page_fits pages (slots + 1) p h, in_all pages slots)

-- number n is that of a page's shape, and each but 0 is
pub record Place (pages slots n page j : ℕ) : Type 0 where
  pub page_in : page < pages
  pub shape_in : j ≤ slots
  pub number : n ≡ number_of slots page j

pub place_of : (pages slots n : ℕ) → 0 < n → n < length (shapes pages slots) → Place pages slots n ((n - 1) / (slots + 1)) ((n - 1) % (slots + 1))
place_of pages slots n z h =
    let some : 0 < slots + 1 = omega arith in
    record {
      page_in = (div-lt_iff_lt-mul some).1 (omega (arith, in_all pages slots));
      shape_in = omega (arith, mod-lt (n - 1) some);
      number = omega (arith, div-add-mod' (n - 1) (slots + 1));
    }
