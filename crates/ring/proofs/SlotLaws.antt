-- A page slot by slot: when it is blank, and when it is records and then blank. Assumes nothing.
use Prim.Native.Nat.{ℕ, zero, suc, ◌+◌, ◌-◌, ◌*◌, ◌≤◌, ◌<◌}
use mathlib.Core.Path.{◌≡◌, refl, sym, ap, ◌∙◌}
use mathlib.Core.Bool.{Bool, true, false, cond, ◌&&◌}
use mathlib.Core.List.{List, [], ◌∷◌}
use native.Mathlib.Omega.{arith}
use lib.ListN.{length, take, drop, length-drop, take-append-drop}
use lib.Dec.{eqb, ltb}
use borrow.Author.Tests.{lt-ltb, ltb-true, eqb-true, eq-eqb}
use Rattle.octets.specs.Limits.{slot_length}
use Rattle.octets.specs.Octets.{part, blank}
use Rattle.octets.proofs.Laws.{part_drop, length_part, blank_part, blank_append, and-true}
use Rattle.ring.specs.Ring.{is_record, records, filled}
use Rattle.ring.proofs.RecordLaws.{record_used}

-- slot s of a page
abbrev pub slot_of_page : List ℕ → ℕ → List ℕ
slot_of_page page s = part page (slot_length * s) slot_length

pub later : (page : List ℕ) (k s i : ℕ) → i ≡ k + s → slot_of_page (drop (slot_length * k) page) s ≡ slot_of_page page i
later page k s i e =
    let at : slot_length * k + slot_length * s ≡ slot_length * i = omega arith in
    part_drop page (slot_length * k) (slot_length * s) slot_length ∙ ap (λ (j : ℕ). part page j slot_length) at

-- ---- a page is blank if all its slots are

none_blank : (page : List ℕ) → length page ≡ 0 → blank page ≡ true
unfolding blank
none_blank [] l = refl
none_blank (x ∷ xs) l = absurd (omega arith)

pub slots_blank : (n : ℕ) (page : List ℕ) → length page ≡ slot_length * n → ((s : ℕ) → s < n → blank (slot_of_page page s) ≡ true) → blank page ≡ true
unfolding part
slots_blank zero page l b = none_blank page (omega arith)
slots_blank (suc n) page l b =
    let rest : blank (drop slot_length page) ≡ true = slots_blank n (drop slot_length page) (rw (length-drop slot_length page) (omega arith))
    (λ s h. ap blank (later page 1 s (suc s) (omega arith)) ∙ b (suc s) (omega arith)) in
    ap blank (sym (take-append-drop slot_length page)) ∙ blank_append (take slot_length page) (drop slot_length page) ∙ rw (b 0 (omega arith), rest)

-- a blank slot is no record
pub blank_no_record : (slot : List ℕ) → length slot ≡ slot_length → blank slot ≡ true → is_record slot ≡ false
blank_no_record slot l b = go (is_record slot) refl
  where
    go : (t : Bool) → is_record slot ≡ t → t ≡ false
    go true e = sym b ∙ record_used slot l e
    go false e = refl

-- ---- the records that a page begins with

pub records_fit : (n : ℕ) (page : List ℕ) → records page n ≤ n
unfolding records
records_fit zero page = omega arith
records_fit (suc n) page = go (is_record (take slot_length page)) (records_fit n (drop slot_length page))
  where
    go : (t : Bool) → records (drop slot_length page) n ≤ n → cond t (suc (records (drop slot_length page) n)) 0 ≤ suc n
    go true h = omega arith
    go false h = omega arith

-- each of them is one
pub records_are : (n : ℕ) (page : List ℕ) (s : ℕ) → s < records page n → is_record (slot_of_page page s) ≡ true
unfolding records part
records_are zero page s h = absurd (omega arith)
records_are (suc n) page s h = go (is_record (take slot_length page)) refl s h (λ (i : ℕ) k. records_are n (drop slot_length page) i k)
  where
    go : (t : Bool) → is_record (take slot_length page) ≡ t → (s : ℕ) → s < cond t (suc (records (drop slot_length page) n)) 0
        → ((i : ℕ) → i < records (drop slot_length page) n → is_record (slot_of_page (drop slot_length page) i) ≡ true)
        → is_record (slot_of_page page s) ≡ true
    go true e zero h more = e
    go true e (suc s) h more = ap is_record (sym (later page 1 s (suc s) (omega arith))) ∙ more s (omega arith)
    go false e s h more = absurd (omega arith)

-- k records and then a slot that is none
pub records_number : (n : ℕ) (page : List ℕ) (k : ℕ) → k ≤ n → ((s : ℕ) → s < k → is_record (slot_of_page page s) ≡ true)
    → (k < n → is_record (slot_of_page page k) ≡ false) → records page n ≡ k
unfolding records part
records_number zero page k h r e = omega arith
records_number (suc n) page zero h r e = rw (e (omega arith))
records_number (suc n) page (suc k) h r e =
    rw (r 0 (omega arith)) (ap suc (records_number n (drop slot_length page) k (omega arith)
    (λ s b. ap is_record (later page 1 s (suc s) (omega arith)) ∙ r (suc s) (omega arith))
    (λ b. ap is_record (later page 1 k (suc k) (omega arith)) ∙ e (omega arith))))

-- ---- a page of records and then blank slots

module _ (slots : ℕ) (page : List ℕ) (l : length page ≡ slot_length * slots) (k : ℕ) where
  pub to_filled : 0 < k → k ≤ slots → ((s : ℕ) → s < k → is_record (slot_of_page page s) ≡ true)
      → ((s : ℕ) → k ≤ s → s < slots → blank (slot_of_page page s) ≡ true) → filled page slots k ≡ true
  unfolding filled
  to_filled z h r b =
      let n : records page slots ≡ k = records_number slots page k h r
      (λ m. blank_no_record (slot_of_page page k) (length_part page (slot_length * k) slot_length (omega arith)) (b k (omega arith) m)) in
      let rest : blank (drop (slot_length * k) page) ≡ true = slots_blank (slots - k) (drop (slot_length * k) page) (rw (length-drop (slot_length * k) page) (omega arith))
      (λ s m. ap blank (later page k s (k + s) (omega arith)) ∙ b (k + s) (omega arith) (omega arith)) in
      rw (lt-ltb 0 k z, eq-eqb (records page slots) k n, rest)

  pub record FilledTo : Type 0 where
    pub some : 0 < k
    pub within : k ≤ slots
    pub number : records page slots ≡ k
    pub are_records : (s : ℕ) → s < k → is_record (slot_of_page page s) ≡ true
    pub rest_blank : (s : ℕ) → k ≤ s → s < slots → blank (slot_of_page page s) ≡ true

  pub from_filled : filled page slots k ≡ true → FilledTo
  unfolding filled
  from_filled e =
      let a = and-true (ltb 0 k && eqb (records page slots) k) (blank (drop (slot_length * k) page)) e in
      let b = and-true (ltb 0 k) (eqb (records page slots) k) a.0 in
      let n : records page slots ≡ k = eqb-true (records page slots) k b.1 in
      record {
        some = ltb-true 0 k b.0;
        within = omega (arith, records_fit slots page);
        number = n;
        are_records = λ s h. records_are slots page s (omega arith);
        rest_blank = λ s h m. ap blank (sym (later page k (s - k) s (omega arith))) ∙ blank_part (drop (slot_length * k) page) (slot_length * (s - k)) slot_length a.1;
      }
