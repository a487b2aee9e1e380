-- When a ring is wholly blank, readable, or neither (document 01, "The nonce ring", second paragraph), said of its pages and slots.
-- The law `reads_exactly` of proofs/Exactly.antt: `read_ring` answers so exactly if this holds.
use Rattle.std.specs.Prelude.{ℕ, ◌≤◌, ◌<◌, ◌≡◌, true, List}
use Rattle.octets.specs.Octets.{blank}
use Rattle.ring.specs.Ring.{slot_at, is_record, next_page, Newest, Blank, Unreadable, At, AtPending}

-- a page is blank if all its slots are
abbrev pub BlankPage : List ℕ → ℕ → ℕ → Type 0
BlankPage ring slots p = (s : ℕ) → s < slots → blank (slot_at ring slots p s) ≡ true

-- a page's slots from 0 up to slot s are records and the rest are blank
pub record RecordsTo (ring : List ℕ) (pages slots p s : ℕ) : Type 0 where
  pub page_in : p < pages
  pub slot_in : s < slots
  pub are_records : (k : ℕ) → k ≤ s → is_record (slot_at ring slots p k) ≡ true
  pub rest_blank : (k : ℕ) → s < k → k < slots → blank (slot_at ring slots p k) ≡ true

abbrev pub WhollyBlank : List ℕ → ℕ → ℕ → Type 0
WhollyBlank ring pages slots = (p : ℕ) → p < pages → BlankPage ring slots p

-- one page, p, is not blank; its last record, in slot s, is the newest
pub record OneUsed (ring : List ℕ) (pages slots p s : ℕ) : Type 0 where
  pub newest : RecordsTo ring pages slots p s
  pub others_blank : (o : ℕ) → o < pages → (o ≡ p → ⊥) → BlankPage ring slots o

-- two pages are not blank, and p, which has exactly one record, directly follows q
pub record TwoUsed (ring : List ℕ) (pages slots p q : ℕ) : Type 0 where
  pub newest : RecordsTo ring pages slots p 0
  pub pending_in : q < pages
  pub pending_used : BlankPage ring slots q → ⊥
  pub follows : p ≡ next_page pages q
  pub others_blank : (o : ℕ) → o < pages → (o ≡ p → ⊥) → (o ≡ q → ⊥) → BlankPage ring slots o

pub record NotReadable (ring : List ℕ) (pages slots : ℕ) : Type 0 where
  pub not_blank : WhollyBlank ring pages slots → ⊥
  pub not_one : (p s : ℕ) → OneUsed ring pages slots p s → ⊥
  pub not_two : (p q : ℕ) → TwoUsed ring pages slots p q → ⊥

abbrev pub Reads : List ℕ → ℕ → ℕ → Newest → Type 0
Reads ring pages slots Blank = WhollyBlank ring pages slots
Reads ring pages slots Unreadable = NotReadable ring pages slots
Reads ring pages slots (At p s) = OneUsed ring pages slots p s
Reads ring pages slots (AtPending p q) = TwoUsed ring pages slots p q
