-- The nonce ring in flash (document 01, "The nonce ring"): `pages` pages of `slots` slots, lent as one image `ring`.
use Rattle.std.specs.Prelude.{ℕ, zero, suc, ◌+◌, ◌-◌, ◌*◌, ◌<◌, Bool, true, false, not, cond, ◌&&◌, ◌||◌, List, [], ◌∷◌, ◌++◌, length, take, drop, eqb, ltb}
use Rattle.octets.specs.Limits.{pages_least, pages_limit, slots_least, slots_limit, slot_length, nonce_length}
use Rattle.octets.specs.Octets.{part, put, same, blank, erased}
use Rattle.octets.specs.Word.{word_at, kind_of, value_of, word}

-- stop 1: the numbers of pages and slots, or the image's length, are wrong
unfoldable pub ring_wrong : ℕ → ℕ → List ℕ → Bool
ring_wrong pages slots ring =
    ltb pages pages_least || ltb pages_limit pages || ltb slots slots_least || ltb slots_limit slots ||
    not (eqb (length ring) (slot_length * (pages * slots)))

-- ---- slots, records and pages

unfoldable pub slot_at : List ℕ → ℕ → ℕ → ℕ → List ℕ
slot_at ring slots page slot = part ring (slot_length * (page * slots + slot)) slot_length

unfoldable pub page_at : List ℕ → ℕ → ℕ → List ℕ
page_at ring slots page = part ring (slot_length * (page * slots)) (slot_length * slots)

-- a record: a nonce and a place word of kind 1, value 0 or 1
unfoldable pub is_record : List ℕ → Bool
is_record slot =
    let place = word_at slot nonce_length in
    eqb (kind_of place) 1 && ltb (value_of place) 2

-- the half, 0 for A and 1 for B, that a record names
unfoldable pub half_named : List ℕ → ℕ
half_named slot = value_of (word_at slot nonce_length)

-- the record of a nonce and a half
unfoldable pub record_of : List ℕ → ℕ → List ℕ
record_of nonce half = nonce ++ word 1 half

-- the page that comes after a page, and the one before
unfoldable pub next_page : ℕ → ℕ → ℕ
next_page pages p = cond (eqb (p + 1) pages) 0 (p + 1)

unfoldable pub page_before : ℕ → ℕ → ℕ
page_before pages p = cond (eqb p 0) (pages - 1) (p - 1)

-- ---- what reading a ring finds

-- wholly blank; not readable; the newest record's page and slot; or its page, in whose slot 0 it stands, and the pending page
pub data Newest : Type 0 where
  Blank : Newest
  Unreadable : Newest
  At : (page slot : ℕ) → Newest
  AtPending : (page pending : ℕ) → Newest

-- the pages from `page` on that are not blank, of which `left` are looked at
unfoldable pub used_from : List ℕ → ℕ → ℕ → ℕ → List ℕ
used_from ring slots page zero = []
used_from ring slots page (suc left) =
    let rest = used_from ring slots (suc page) left in
    cond (blank (page_at ring slots page)) rest (page ∷ rest)

-- how many of a page's slots are records, from the first on, up to the first that is none
unfoldable pub records : List ℕ → ℕ → ℕ
records page zero = 0
records page (suc left) = cond (is_record (take slot_length page)) (suc (records (drop slot_length page) left)) 0

-- a page that is `k` records, one or more, and then blank
unfoldable pub filled : List ℕ → ℕ → ℕ → Bool
filled page slots k = ltb 0 k && eqb (records page slots) k && blank (drop (slot_length * k) page)

-- one page is not blank
unfoldable pub alone : List ℕ → ℕ → ℕ → Newest
alone ring slots p =
    let page = page_at ring slots p in
    let k = records page slots in
    cond (filled page slots k) (At p (k - 1)) Unreadable

-- two pages are not blank, and the newer follows the older
unfoldable pub followed : List ℕ → ℕ → ℕ → ℕ → Newest
followed ring slots older newer = cond (filled (page_at ring slots newer) slots 1) (AtPending newer older) Unreadable

-- by the pages that are not blank
unfoldable pub reading : List ℕ → ℕ → ℕ → List ℕ → Newest
reading ring pages slots [] = Blank
reading ring pages slots (p ∷ []) = alone ring slots p
reading ring pages slots (p ∷ q ∷ []) =
    cond (eqb q (next_page pages p)) (followed ring slots p q)
    (cond (eqb p (next_page pages q)) (followed ring slots q p) Unreadable)
reading ring pages slots (p ∷ q ∷ r ∷ more) = Unreadable

unfoldable pub read_ring : List ℕ → ℕ → ℕ → Newest
read_ring ring pages slots = reading ring pages slots (used_from ring slots 0 pages)

-- ---- what was found

-- stops 6, 7 and 9
abbrev pub is_blank : Newest → Bool
is_blank Blank = true
is_blank Unreadable = false
is_blank (At p s) = false
is_blank (AtPending p q) = false

abbrev pub is_unreadable : Newest → Bool
is_unreadable Blank = false
is_unreadable Unreadable = true
is_unreadable (At p s) = false
is_unreadable (AtPending p q) = false

abbrev pub is_pending : Newest → Bool
is_pending Blank = false
is_pending Unreadable = false
is_pending (At p s) = false
is_pending (AtPending p q) = true

-- the newest record's place; of a ring that has none, page 0 and slot 0
abbrev pub newest_page : Newest → ℕ
newest_page Blank = 0
newest_page Unreadable = 0
newest_page (At p s) = p
newest_page (AtPending p q) = p

abbrev pub newest_slot : Newest → ℕ
newest_slot Blank = 0
newest_slot Unreadable = 0
newest_slot (At p s) = s
newest_slot (AtPending p q) = 0

-- that place lies in the ring
pub record Within (pages slots : ℕ) (n : Newest) : Type 0 where
  pub page_in : newest_page n < pages
  pub slot_in : newest_slot n < slots

unfoldable pub newest_record : List ℕ → ℕ → Newest → List ℕ
newest_record ring slots n = slot_at ring slots (newest_page n) (newest_slot n)

-- stop 8: a page, slot or record is not the newest
unfoldable pub not_newest : List ℕ → ℕ → Newest → ℕ → ℕ → List ℕ → Bool
not_newest ring slots n page slot latest =
    not (eqb page (newest_page n) && eqb slot (newest_slot n) && same latest (newest_record ring slots n))

-- a nonce stands in one of the first `count` slots of a page
unfoldable pub nonce_in : List ℕ → List ℕ → ℕ → Bool
nonce_in nonce page zero = false
nonce_in nonce page (suc count) = same (take nonce_length page) nonce || nonce_in nonce (drop slot_length page) count

-- stop 10: a nonce equals one in a record of the newest page
unfoldable pub nonce_used : List ℕ → ℕ → Newest → List ℕ → Bool
nonce_used ring slots n nonce = nonce_in nonce (page_at ring slots (newest_page n)) (suc (newest_slot n))

-- the next target: the following slot, or slot 0 of the following page
unfoldable pub target_page : ℕ → ℕ → Newest → ℕ
target_page pages slots n = cond (ltb (newest_slot n + 1) slots) (newest_page n) (next_page pages (newest_page n))

unfoldable pub target_slot : ℕ → Newest → ℕ
target_slot slots n = cond (ltb (newest_slot n + 1) slots) (newest_slot n + 1) 0

-- ---- stores

-- a page then holds the given bytes
unfoldable pub page_put : List ℕ → ℕ → ℕ → List ℕ → List ℕ
page_put ring slots page bytes = put ring (slot_length * (page * slots)) bytes

-- a page set to 0xFF
unfoldable pub page_erased : List ℕ → ℕ → ℕ → List ℕ
page_erased ring slots page = page_put ring slots page (erased (slot_length * slots))

-- a record written to a slot
unfoldable pub record_put : List ℕ → ℕ → ℕ → ℕ → List ℕ → List ℕ
record_put ring slots page slot bytes = put ring (slot_length * (page * slots + slot)) bytes
