-- The pages next to a page, and where each record of a ring stands. Assumes nothing.
use Prim.Native.Nat.{ℕ, ◌+◌, ◌-◌, ◌*◌, ◌/◌, ◌%◌, ◌≤◌, ◌<◌}
use mathlib.Core.Path.{◌≡◌, refl, sym, ap, ◌∙◌}
use mathlib.Core.Bool.{Bool, true, false}
use native.Mathlib.Nat.{div-add-mod', mod-lt}
use native.Mathlib.Omega.{arith}
use lib.Arith.{digits_div, digits_mod}
use lib.Dec.{eqb}
use borrow.Author.Tests.{eqb-true, eqb-false, eq-eqb, ne_eqb}
use Rattle.ring.specs.Ring.{next_page, page_before}

-- the page and the slot of the last of `count` records
abbrev pub page_of : ℕ → ℕ → ℕ → ℕ
page_of pages slots count = (count - 1) / slots % pages

abbrev pub slot_of : ℕ → ℕ → ℕ
slot_of slots count = (count - 1) % slots

-- ---- the pages next to a page

data Next (pages p : ℕ) : Type 0 where
  first : p + 1 ≡ pages → next_page pages p ≡ 0 → Next pages p
  further : p + 1 < pages → next_page pages p ≡ p + 1 → Next pages p

next_is : (pages p : ℕ) → p < pages → Next pages p
unfolding next_page
next_is pages p h = go (eqb (p + 1) pages) refl
  where
    go : (t : Bool) → eqb (p + 1) pages ≡ t → Next pages p
    go true e = first (eqb-true _ _ e) (rw e)
    go false e = further (omega (arith, eqb-false (p + 1) pages e)) (rw e)

pub data Before (pages p : ℕ) : Type 0 where
  wrapped : p ≡ 0 → page_before pages p ≡ pages - 1 → Before pages p
  lower : 0 < p → page_before pages p ≡ p - 1 → Before pages p

pub before_is : (pages p : ℕ) → Before pages p
unfolding page_before
before_is pages p = go (eqb p 0) refl
  where
    go : (t : Bool) → eqb p 0 ≡ t → Before pages p
    go true e = wrapped (eqb-true _ _ e) (rw e)
    go false e = lower (omega (arith, eqb-false p 0 e)) (rw e)

pub record NextPage (pages p : ℕ) : Type 0 where
  pub in_ring : next_page pages p < pages
  pub other : next_page pages p ≡ p → ⊥
  pub back : page_before pages (next_page pages p) ≡ p

pub record PageBefore (pages p : ℕ) : Type 0 where
  pub in_ring : page_before pages p < pages
  pub other : page_before pages p ≡ p → ⊥
  pub on : next_page pages (page_before pages p) ≡ p
  pub apart : page_before pages p ≡ next_page pages p → ⊥

module _ (pages p : ℕ) (some : 3 ≤ pages) (h : p < pages) where
  pub next_laws : NextPage pages p
  next_laws = go (next_is pages p h) (before_is pages (next_page pages p))
    where
      go : Next pages p → Before pages (next_page pages p) → NextPage pages p
      go (first e n) (wrapped f m) = omega arith
      go (first e n) (lower l m) = omega arith
      go (further l n) (wrapped f m) = omega arith
      go (further l n) (lower k m) = omega arith

  before_in_ring : page_before pages p < pages
  before_in_ring = go (before_is pages p)
    where
      go : Before pages p → page_before pages p < pages
      go (wrapped e n) = omega arith
      go (lower l n) = omega arith

  pub before_laws : PageBefore pages p
  before_laws = go (before_is pages p) (next_is pages (page_before pages p) before_in_ring) (next_is pages p h)
    where
      go : Before pages p → Next pages (page_before pages p) → Next pages p → PageBefore pages p
      go (wrapped e n) (first f m) (first g o) = omega arith
      go (wrapped e n) (first f m) (further g o) = omega arith
      go (wrapped e n) (further f m) (first g o) = omega arith
      go (wrapped e n) (further f m) (further g o) = omega arith
      go (lower l n) (first f m) (first g o) = omega arith
      go (lower l n) (first f m) (further g o) = omega arith
      go (lower l n) (further f m) (first g o) = omega arith
      go (lower l n) (further f m) (further g o) = omega arith

-- ---- one record more

within : (n m k : ℕ) → k ≡ n + 1 → n % m + 1 < m → (k % m ≡ n % m + 1) × (k / m ≡ n / m)
within n m k s h =
    let e : k ≡ n / m * m + (n % m + 1) = omega (arith, div-add-mod' n m) in
    (ap (λ x. x % m) e ∙ digits_mod (n / m) h, ap (λ x. x / m) e ∙ digits_div (n / m) h)

around : (n m k : ℕ) → k ≡ n + 1 → n % m + 1 ≡ m → (k % m ≡ 0) × (k / m ≡ n / m + 1)
around n m k s h =
    let e : k ≡ (n / m + 1) * m + 0 = omega (arith, div-add-mod' n m) in
    let z : 0 < m = omega arith in
    (ap (λ x. x % m) e ∙ digits_mod (n / m + 1) z, ap (λ x. x / m) e ∙ digits_div (n / m + 1) z)

next_mod : (n m k : ℕ) → k ≡ n + 1 → 0 < m → k % m ≡ next_page m (n % m)
next_mod n m k s z = go (next_is m (n % m) (mod-lt n z))
  where
    go : Next m (n % m) → k % m ≡ next_page m (n % m)
    go (first e q) = (around n m k s e).0 ∙ sym q
    go (further l q) = (within n m k s l).0 ∙ sym q

-- the next record stands on the same page, or opens the next page
pub record Same (pages slots count : ℕ) : Type 0 where
  pub fits : slot_of slots count + 1 < slots
  pub opens : eqb (count % slots) 0 ≡ false
  pub page : page_of pages slots (count + 1) ≡ page_of pages slots count
  pub slot : slot_of slots (count + 1) ≡ slot_of slots count + 1

pub record New (pages slots count : ℕ) : Type 0 where
  pub full : slot_of slots count + 1 ≡ slots
  pub opens : eqb (count % slots) 0 ≡ true
  pub page : page_of pages slots (count + 1) ≡ next_page pages (page_of pages slots count)
  pub slot : slot_of slots (count + 1) ≡ 0

pub data Turn (pages slots count : ℕ) : Type 0 where
  same : Same pages slots count → Turn pages slots count
  new : New pages slots count → Turn pages slots count

pub page_of_fits : (pages slots count : ℕ) → 3 ≤ pages → page_of pages slots count < pages
page_of_fits pages slots count some = mod-lt ((count - 1) / slots) (omega arith)

pub slot_of_fits : (slots count : ℕ) → 2 ≤ slots → slot_of slots count < slots
slot_of_fits slots count some = mod-lt (count - 1) (omega arith)

pub turn : (pages slots count : ℕ) → 3 ≤ pages → 2 ≤ slots → 0 < count → Turn pages slots count
turn pages slots count p s c = go (next_is slots (slot_of slots count) (slot_of_fits slots count s))
  where
    one : count ≡ count - 1 + 1
    one = omega arith

    two : count + 1 - 1 ≡ count - 1 + 1
    two = omega arith

    go : Next slots (slot_of slots count) → Turn pages slots count
    go (first l _) = new (record {
      full = l;
      opens = eq-eqb (count % slots) 0 (around (count - 1) slots count one l).0;
      page = next_mod ((count - 1) / slots) pages ((count + 1 - 1) / slots) (around (count - 1) slots (count + 1 - 1) two l).1 (omega arith);
      slot = (around (count - 1) slots (count + 1 - 1) two l).0;
    })
    go (further l _) = same (record {
      fits = l;
      opens = ne_eqb (count % slots) 0 (λ z. omega (arith, (within (count - 1) slots count one l).0));
      page = ap (λ q. q % pages) (within (count - 1) slots (count + 1 - 1) two l).1;
      slot = (within (count - 1) slots (count + 1 - 1) two l).0;
    })
