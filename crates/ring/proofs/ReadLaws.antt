-- What is read in a ring with no used page, with one, and with two. Assumes nothing.
use Prim.Native.Nat.{ℕ, zero, suc, ◌+◌, ◌-◌, ◌≤◌, ◌<◌}
use mathlib.Core.Path.{◌≡◌, refl, sym, ap, ◌∙◌}
use mathlib.Core.Bool.{true, false}
use mathlib.Core.List.{List, [], ◌∷◌}
use native.Mathlib.Omega.{arith}
use lib.ListN.{length}
use borrow.Author.Tests.{eq-eqb, ne_eqb}
use Rattle.octets.specs.Octets.{blank}
use Rattle.ring.specs.Ring.{page_at, next_page, page_before, used_from, filled, records, alone, followed, reading, read_ring, At, AtPending}
use Rattle.ring.proofs.TurnLaws as turns
use Rattle.ring.proofs.TurnLaws.{PageBefore, before_laws, Before, before_is}
use Rattle.ring.proofs.RecordLaws.{Records, page_with, records_with, filled_with, used_with}

module _ (ring : List ℕ) (slots : ℕ) where
  pub used_none : (page left : ℕ) → ((q : ℕ) → page ≤ q → q < page + left → blank (page_at ring slots q) ≡ true) → used_from ring slots page left ≡ []
  unfolding used_from
  used_none page zero b = refl
  used_none page (suc left) b =
      rw (b page (omega arith) (omega arith)) (used_none (suc page) left (λ q l u. b q (omega arith) (omega arith)))

  -- the next used page, behind `skip` blank ones
  pub used_next : (skip page left rest p : ℕ) → left ≡ skip + suc rest → p ≡ page + skip
      → ((q : ℕ) → page ≤ q → q < p → blank (page_at ring slots q) ≡ true) → blank (page_at ring slots p) ≡ false
      → used_from ring slots page left ≡ p ∷ used_from ring slots (suc p) rest
  unfolding used_from
  used_next skip page zero rest p e i b n = absurd (omega arith)
  used_next zero page (suc left) rest p e i b n =
      let j : page ≡ p = omega arith in
      let k : left ≡ rest = omega arith in
      rw (j, k, n)
  used_next (suc skip) page (suc left) rest p e i b n =
      rw (b page (omega arith) (omega arith))
      (used_next skip (suc page) left rest p (omega arith) (omega arith) (λ q l u. b q (omega arith) u) n)

  pub used_one : (pages p : ℕ) → p < pages → blank (page_at ring slots p) ≡ false
      → ((q : ℕ) → q < pages → (q ≡ p → ⊥) → blank (page_at ring slots q) ≡ true)
      → used_from ring slots 0 pages ≡ p ∷ []
  used_one pages p h n b =
      used_next p 0 pages (pages - suc p) p (omega arith) (omega arith) (λ q l u. b q (omega arith) (omega arith)) n
      ∙ ap (λ t. p ∷ t) (used_none (suc p) (pages - suc p) (λ q l u. b q (omega arith) (omega arith)))

  pub used_two : (pages p q : ℕ) → p < q → q < pages → blank (page_at ring slots p) ≡ false → blank (page_at ring slots q) ≡ false
      → ((o : ℕ) → o < pages → (o ≡ p → ⊥) → (o ≡ q → ⊥) → blank (page_at ring slots o) ≡ true)
      → used_from ring slots 0 pages ≡ p ∷ q ∷ []
  used_two pages p q pq h np nq b =
      used_next p 0 pages (pages - suc p) p (omega arith) (omega arith) (λ o l u. b o (omega arith) (omega arith) (omega arith)) np
      ∙ ap (λ t. p ∷ t) (used_next (q - suc p) (suc p) (pages - suc p) (pages - suc q) q (omega arith) (omega arith)
      (λ o l u. b o (omega arith) (omega arith) (omega arith)) nq
      ∙ ap (λ t. q ∷ t) (used_none (suc q) (pages - suc q) (λ o l u. b o (omega arith) (omega arith) (omega arith))))

-- page `p` holds `recs`, one or more
pub record Holds (ring : List ℕ) (slots p : ℕ) (recs : List (List ℕ)) : Type 0 where
  pub are_records : Records recs
  pub some : 0 < length recs
  pub fits : length recs ≤ slots
  pub page : page_at ring slots p ≡ page_with slots recs

module _ {ring : List ℕ} {slots p : ℕ} {recs : List (List ℕ)} (h : Holds ring slots p recs) where
  pub not_blank : blank (page_at ring slots p) ≡ false
  not_blank = ap blank h.page ∙ used_with slots recs h.are_records h.some

  is_filled : filled (page_at ring slots p) slots (length recs) ≡ true
  is_filled = ap (λ x. filled x slots (length recs)) h.page ∙ filled_with slots recs h.are_records h.some h.fits

  pub alone_with : alone ring slots p ≡ At p (length recs - 1)
  unfolding alone
  alone_with =
      let n : records (page_at ring slots p) slots ≡ length recs = ap (λ x. records x slots) h.page ∙ records_with slots recs h.are_records h.fits in
      rw (ap (filled (page_at ring slots p) slots) n ∙ is_filled, n)

  pub followed_with : (older : ℕ) → length recs ≡ 1 → followed ring slots older p ≡ AtPending p older
  unfolding followed
  followed_with older o = rw (ap (filled (page_at ring slots p) slots) (sym o) ∙ is_filled)

  -- the older page stands before the newer one, or behind it where the ring goes around between them
  pub reading_follows : (pages older : ℕ) → length recs ≡ 1 → p ≡ next_page pages older → reading ring pages slots (older ∷ p ∷ []) ≡ AtPending p older
  unfolding reading
  reading_follows pages older o s = rw (eq-eqb p (next_page pages older) s) (followed_with older o)

  pub reading_around : (pages older : ℕ) → length recs ≡ 1 → p ≡ next_page pages older → (older ≡ next_page pages p → ⊥)
      → reading ring pages slots (p ∷ older ∷ []) ≡ AtPending p older
  unfolding reading
  reading_around pages older o s n = rw (ne_eqb older (next_page pages p) n, eq-eqb p (next_page pages older) s) (followed_with older o)

-- ---- the whole ring: page `p` alone is used, or the page before it too
module _ {ring : List ℕ} {slots p : ℕ} {recs : List (List ℕ)} (h : Holds ring slots p recs) (pages : ℕ) (l : p < pages) where
  pub read_one : ((q : ℕ) → q < pages → (q ≡ p → ⊥) → blank (page_at ring slots q) ≡ true) → read_ring ring pages slots ≡ At p (length recs - 1)
  unfolding read_ring reading
  read_one others = ap (reading ring pages slots) (used_one ring slots pages p l (not_blank h) others) ∙ alone_with h

  pub read_two : 3 ≤ pages → length recs ≡ 1 → blank (page_at ring slots (page_before pages p)) ≡ false
      → ((q : ℕ) → q < pages → (q ≡ p → ⊥) → (q ≡ page_before pages p → ⊥) → blank (page_at ring slots q) ≡ true)
      → read_ring ring pages slots ≡ AtPending p (page_before pages p)
  unfolding read_ring
  read_two some one used others = go (before_is pages p)
    where
      before : PageBefore pages p
      before = before_laws pages p some l

      go : Before pages p → read_ring ring pages slots ≡ AtPending p (page_before pages p)
      go (turns.wrapped o e) =
          ap (reading ring pages slots) (used_two ring slots pages p (page_before pages p) (omega (arith, some)) (omega (arith, l)) (not_blank h) used others)
          ∙ reading_around h pages (page_before pages p) one (sym before.on) before.apart
      go (turns.lower o e) =
          ap (reading ring pages slots) (used_two ring slots pages (page_before pages p) p (omega arith) l used (not_blank h) (λ q b x y. others q b y x))
          ∙ reading_follows h pages (page_before pages p) one (sym before.on)
