-- Every shape of a readable ring of a small size, numbered, for the bench (document 02, A.9).
use Rattle.std.specs.Prelude.{ℕ, Result, zero, suc, ◌*◌, Bool, not, ◌||◌, List, [], ◌∷◌, ◌++◌, length, get_or, replicate, ltb}
use Rattle.std.proofs.Math.Option.{Option, none, some}
use Rattle.octets.specs.Limits.{slot_length, nonce_length, shape_pages_limit, shape_slots_limit}
use Rattle.octets.specs.Octets.{erased}
use Rattle.stops.specs.Stops.{first_of}
use Rattle.stops.specs.View.{check_number}
use Rattle.stops.specs.declared.Stop.{Stop}
use Rattle.ring.specs.Ring.{ring_wrong, page_before, record_put}

-- ---- the shapes of a size, in the request's order

-- no record; slot 0 of a page newest, and the page before pending; a page's slot newest, and no page pending
pub data Shape : Type 0 where
  NoRecord : Shape
  Pending : (page : ℕ) → Shape
  Alone : (page slot : ℕ) → Shape

-- slot by slot, of which `left` are to come
unfoldable pub from_slot : (page slot left : ℕ) → List Shape
from_slot page slot zero = []
from_slot page slot (suc left) = Alone page slot ∷ from_slot page (suc slot) left

-- page by page, of which `left` are to come: slot 0 newest with the page before pending; slot 0 newest alone; then slots 1, 2 and so on
unfoldable pub from_page : (slots page left : ℕ) → List Shape
from_page slots page zero = []
from_page slots page (suc left) = (Pending page ∷ from_slot page 0 slots) ++ from_page slots (suc page) left

-- number 0 is blank
unfoldable pub shapes : (pages slots : ℕ) → List Shape
shapes pages slots = NoRecord ∷ from_page slots 0 pages

-- ---- their bytes

-- R of document 01's bench values: twelve zero bytes and 0x40000000
abbrev pub R : List ℕ
R = replicate nonce_length 0 ++ 0x40 ∷ 0 ∷ 0 ∷ 0 ∷ []

-- a ring with R in the first k slots of a page
unfoldable pub with_records : List ℕ → (slots page k : ℕ) → List ℕ
with_records ring slots page zero = ring
with_records ring slots page (suc k) = record_put (with_records ring slots page k) slots page k R

abbrev pub blank_ring : (pages slots : ℕ) → List ℕ
blank_ring pages slots = erased (slot_length * (pages * slots))

-- a pending page is full of records
unfoldable pub ring_of : (pages slots : ℕ) → Shape → List ℕ
ring_of pages slots NoRecord = blank_ring pages slots
ring_of pages slots (Pending p) = with_records (with_records (blank_ring pages slots) slots (page_before pages p) slots) slots p 1
ring_of pages slots (Alone p s) = with_records (blank_ring pages slots) slots p (suc s)

-- ring number n, counted from 0
unfoldable pub ring_number : (pages slots n : ℕ) → List ℕ
ring_number pages slots n = ring_of pages slots (get_or (shapes pages slots) n NoRecord)

-- ---- the call

-- stop 1: not 3 or 4 pages of 2 to 4 slots, or the buffer is not of that ring's size
unfoldable pub size_wrong : (pages slots : ℕ) → List ℕ → Bool
size_wrong pages slots ring = ring_wrong pages slots ring || ltb shape_pages_limit pages || ltb shape_slots_limit slots

-- stop 26: the number is past the last
unfoldable pub past_last : (pages slots number : ℕ) → Bool
past_last pages slots number = not (ltb number (length (shapes pages slots)))

unfoldable pub shape_stop : (pages slots number : ℕ) → List ℕ → Option ℕ
shape_stop pages slots number ring = first_of (
    (1, size_wrong pages slots ring) ∷
    (26, past_last pages slots number) ∷ [])

-- what the call answers, and what the lent buffer holds afterwards
pub record Shaped : Type 0 where
  pub stop : Option ℕ
  pub ring : List ℕ

-- on a stop the buffer is as it was
unfoldable pub shaped_by : Option ℕ → (pages slots number : ℕ) → List ℕ → Shaped
shaped_by (some s) pages slots number ring = record { stop = some s; ring = ring }
shaped_by none pages slots number ring = record { stop = none; ring = ring_number pages slots number }

unfoldable pub ring_shape : (pages slots number : ℕ) → List ℕ → Shaped
ring_shape pages slots number ring = shaped_by (shape_stop pages slots number ring) pages slots number ring

-- the code's answer, with what it left in the buffer
abbrev pub shaped_as : Result Unit Stop → List ℕ → Shaped
shaped_as r ring = record { stop = check_number r; ring = ring }
