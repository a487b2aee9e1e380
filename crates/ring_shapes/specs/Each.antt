-- What the rings of a size are together, by how each is read (document 02, A.9). The theorem `each_shape` of proofs/Each.antt: so it is for
-- every size of a ring that document 01 has, the bench's six among them.
use Rattle.std.specs.Prelude.{ℕ, ◌+◌, ◌*◌, ◌≤◌, ◌<◌, ◌≡◌, false, List, length}
use Rattle.std.proofs.Math.Option.{none, some}
use Rattle.ring.specs.Ring.{Newest, Blank, At, AtPending, ring_wrong, page_before, read_ring, is_blank, is_unreadable}
use Rattle.ring_shapes.specs.Shapes.{shapes, ring_number, shape_stop}

-- how ring number n is read
abbrev pub number_reads : (pages slots n : ℕ) → Newest
number_reads pages slots n = read_ring (ring_number pages slots n) pages slots

-- exactly one number's ring is read so
pub record Once (pages slots : ℕ) (reading : Newest) : Type 0 where
  pub number : ℕ
  pub there : number < length (shapes pages slots)
  pub read_so : number_reads pages slots number ≡ reading
  pub no_other : (n : ℕ) → n < length (shapes pages slots) → number_reads pages slots n ≡ reading → n ≡ number

pub record EachShape (pages slots : ℕ) : Type 0 where
  -- there are 1 + P × S + P, each of the right size
  pub in_all : length (shapes pages slots) ≡ 1 + pages * slots + pages
  pub sizes : (n : ℕ) → n < length (shapes pages slots) → ring_wrong pages slots (ring_number pages slots n) ≡ false
  -- number 0 is blank, and every other ring is readable
  pub blank : number_reads pages slots 0 ≡ Blank
  pub readable : (n : ℕ) → 0 < n → n < length (shapes pages slots)
      → (is_blank (number_reads pages slots n) ≡ false) × (is_unreadable (number_reads pages slots n) ≡ false)
  -- each newest place appears once with no page pending, and each at slot 0 once more with one; a pending page is always the one before
  pub each_alone : (p s : ℕ) → p < pages → s < slots → Once pages slots (At p s)
  pub each_pending : (p : ℕ) → p < pages → Once pages slots (AtPending p (page_before pages p))
  pub pending_before : (n p q : ℕ) → n < length (shapes pages slots) → number_reads pages slots n ≡ AtPending p q → q ≡ page_before pages p
  -- so whatever a ring of this size holds, if it is blank or readable, it is read as exactly one of them is
  pub every : (ring : List ℕ) → ring_wrong pages slots ring ≡ false → is_unreadable (read_ring ring pages slots) ≡ false
      → Once pages slots (read_ring ring pages slots)

-- ---- the stops of the call, in numbers

-- 3 or 4 pages of 2 to 4 slots, and a buffer of that ring's size
pub record Small (pages slots : ℕ) (ring : List ℕ) : Type 0 where
  pub few_pages : (3 ≤ pages) × (pages ≤ 4)
  pub few_slots : (2 ≤ slots) × (slots ≤ 4)
  pub bytes : length ring ≡ 16 * (pages * slots)

-- the law `stops_exactly` of proofs/CallLaws.antt
pub record StopsExactly (pages slots number : ℕ) (ring : List ℕ) : Type 0 where
  pub other_sizes : (Small pages slots ring → ⊥) → shape_stop pages slots number ring ≡ some 1
  pub past : Small pages slots ring → 1 + pages * slots + pages ≤ number → shape_stop pages slots number ring ≡ some 26
  pub there : Small pages slots ring → number < 1 + pages * slots + pages → shape_stop pages slots number ring ≡ none
