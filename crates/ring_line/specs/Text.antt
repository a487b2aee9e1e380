-- The state of a ring in words, as the program ringview writes it (document 01, "Bench values").
use Rattle.std.specs.Prelude.{ℕ, ◌+◌, ◌/◌, ◌%◌, cond, List, [], ◌∷◌, ◌++◌, eqb, ltb}
use Prim.Native.Char.{code}
use Prim.Native.String.{String}
use Prim.Native.String as string
use Rattle.stops.specs.View.{stop_number}
use Rattle.stops.specs.declared.Stop.TheVariants.{RingSize, RingUnreadable}
use Rattle.ring.specs.Ring.{ring_wrong, slot_at, half_named, Newest, Blank, Unreadable, At, AtPending, read_ring}

-- the codes of a text's characters
abbrev pub ascii : String → List ℕ
ascii string.[] = []
ascii (string.◌∷◌ c s) = code c ∷ ascii s

abbrev pub digit : ℕ → ℕ
digit d = 0x30 + d

-- a number below 1,000
unfoldable pub decimal : ℕ → List ℕ
decimal n =
    cond (ltb n 10) (digit n ∷ [])
    (cond (ltb n 100) (digit (n / 10) ∷ digit (n % 10) ∷ [])
    (digit (n / 100) ∷ digit (n / 10 % 10) ∷ digit (n % 10) ∷ []))

-- a stop, by its number
unfoldable pub refused_text : ℕ → List ℕ
refused_text n = ascii "refused " ++ decimal n

abbrev pub refused_line : ℕ → List ℕ
refused_line n = refused_text n ++ ascii "\n"

abbrev pub half_text : ℕ → List ℕ
half_text half = cond (eqb half 0) (ascii " half A") (ascii " half B")

-- the newest record's page, slot and half, up to the pending page
unfoldable pub place_text : ℕ → ℕ → ℕ → List ℕ
place_text page slot half = ascii "page " ++ decimal page ++ ascii " slot " ++ decimal slot ++ half_text half ++ ascii " pending "

-- what reading a ring found
unfoldable pub newest_text : List ℕ → ℕ → Newest → List ℕ
newest_text ring slots Blank = ascii "blank"
newest_text ring slots Unreadable = refused_text (stop_number RingUnreadable)
newest_text ring slots (At p s) = place_text p s (half_named (slot_at ring slots p s)) ++ ascii "none"
newest_text ring slots (AtPending p q) = place_text p 0 (half_named (slot_at ring slots p 0)) ++ decimal q

unfoldable pub ring_text : ℕ → ℕ → List ℕ → List ℕ
ring_text pages slots ring =
    cond (ring_wrong pages slots ring) (refused_text (stop_number RingSize)) (newest_text ring slots (read_ring ring pages slots)) ++ ascii "\n"
