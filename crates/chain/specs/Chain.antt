-- Which dump came before which (document 02, A.11). An entry is 32 bytes: a checkpoint's previous tag, then its own. Entries E stand one
-- behind the other, unsorted; an entry is known by its position, counted from 0.
use Rattle.std.specs.Prelude.{ℕ, zero, suc, ◌+◌, ◌*◌, ◌/◌, ◌%◌, ◌<◌, ◌≡◌, Bool, not, ◌||◌, List, [], ◌∷◌, length, get_or, eqb, ltb, Result}
use Rattle.std.proofs.Math.Option.{Option, none, some}
use Rattle.octets.specs.Limits.{entry_length, entries_limit, tag_length}
use Rattle.octets.specs.Octets.{part, put, same}
use Rattle.octets.specs.Search.{first_below, some_below}
use Rattle.octets.specs.Table.{table}
use Rattle.stops.specs.Stops.{first_of}
use Rattle.stops.specs.View.{check_number}
use Rattle.stops.specs.declared.Stop.{Stop}

-- ---- the entries

-- how many there are
abbrev pub count : List ℕ → ℕ
count E = length E / entry_length

-- the tag at an offset of entry i
unfoldable pub tag_at : (E : List ℕ) (offset i : ℕ) → List ℕ
tag_at E offset i = part E (entry_length * i + offset) tag_length

abbrev pub previous : (E : List ℕ) → ℕ → List ℕ
previous E i = tag_at E 0 i

abbrev pub own : (E : List ℕ) → ℕ → List ℕ
own E i = tag_at E tag_length i

-- ---- a chain order, as the request states it

-- the position that stands at place k
abbrev pub nth : List ℕ → ℕ → ℕ
nth ps k = get_or ps k 0

pub record ChainOrder (E ps : List ℕ) : Type 0 where
  -- the position of each entry, once: as many as there are entries, each that of an entry, and no two the same (which follows from the rest)
  pub in_all : length ps ≡ count E
  pub there : (k : ℕ) → k < count E → nth ps k < count E
  pub once : (j k : ℕ) → j < count E → k < count E → nth ps j ≡ nth ps k → j ≡ k
  -- all own tags differ
  pub own_differ : (i j : ℕ) → i < count E → j < count E → own E i ≡ own E j → i ≡ j
  -- the first entry's previous tag is no entry's own tag
  pub first : (i : ℕ) → i < count E → previous E (nth ps 0) ≡ own E i → ⊥
  -- and each later one names the entry before it
  pub later : (k : ℕ) → suc k < count E → previous E (nth ps (suc k)) ≡ own E (nth ps k)

-- ---- how it is found

-- the first entry that has a tag at an offset; `count E` if there is none
unfoldable pub entry_with : (E : List ℕ) (offset : ℕ) → List ℕ → ℕ
entry_with E offset tag = first_below (count E) (λ i. same (tag_at E offset i) tag)

-- the one whose own tag it is, and the one that names entry i
abbrev pub owner : (E : List ℕ) → List ℕ → ℕ
owner E tag = entry_with E tag_length tag

abbrev pub follower : (E : List ℕ) → ℕ → ℕ
follower E i = entry_with E 0 (own E i)

-- entry i is not the first with its own tag
abbrev pub not_first : (E : List ℕ) → ℕ → Bool
not_first E i = not (eqb (owner E (own E i)) i)

-- some entry is not
unfoldable pub own_twice : List ℕ → Bool
own_twice E = some_below (count E) (not_first E)

-- the previous tag of entry i is none's own
abbrev pub begins : (E : List ℕ) → ℕ → Bool
begins E i = eqb (owner E (previous E i)) (count E)

-- the first such entry; `count E` if there is none
unfoldable pub first_entry : List ℕ → ℕ
first_entry E = first_below (count E) (begins E)

-- the entry at place k of the chain; `count E` where there is none
unfoldable pub place : (E : List ℕ) → ℕ → ℕ
place E zero = first_entry E
place E (suc k) = follower E (place E k)

-- the chain ends before it has as many places as there are entries
unfoldable pub ends_early : List ℕ → Bool
ends_early E = some_below (count E) (λ k. eqb (place E k) (count E))

unfoldable pub order : List ℕ → List ℕ
order E = table (count E) (place E)

-- ---- the call

-- stop 21: no entries, above 64, or a broken one
unfoldable pub entries_wrong : List ℕ → Bool
entries_wrong E = eqb (length E) 0 || ltb (entry_length * entries_limit) (length E) || not (eqb (length E % entry_length) 0)

-- stop 4: a buffer has not a byte for each entry
unfoldable pub too_short : (E positions : List ℕ) → Bool
too_short E positions = ltb (length positions) (count E)

unfoldable pub chain_stop : (E positions : List ℕ) → Option ℕ
chain_stop E positions = first_of (
    (21, entries_wrong E) ∷
    (4, too_short E positions) ∷
    (22, own_twice E || ends_early E) ∷ [])

-- what the call answers, and what the lent buffer holds afterwards
pub record Ordered : Type 0 where
  pub stop : Option ℕ
  pub positions : List ℕ

-- on a stop the buffer is as it was; otherwise the order stands in front, and the rest is as it was
unfoldable pub ordered_by : Option ℕ → (E positions : List ℕ) → Ordered
ordered_by (some s) E positions = record { stop = some s; positions = positions }
ordered_by none E positions = record { stop = none; positions = put positions 0 (order E) }

unfoldable pub chain_order : (E positions : List ℕ) → Ordered
chain_order E positions = ordered_by (chain_stop E positions) E positions

-- the code's answer, with what it left in the buffer
abbrev pub ordered_as : Result Unit Stop → List ℕ → Ordered
ordered_as r positions = record { stop = check_number r; positions = positions }
