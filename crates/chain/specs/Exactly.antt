-- What the call does, said of chain orders alone (document 02, A.11). The theorems `one_order` and `chain_exactly` of proofs/Exactly.antt: so it
-- is, whatever the entries and the buffer hold.
use Rattle.std.specs.Prelude.{ℕ, ◌*◌, ◌≤◌, ◌<◌, ◌≡◌, List, ◌++◌, length, take, drop}
use Rattle.std.proofs.Math.Option.{none, some}
use Rattle.chain.specs.Chain.{ChainOrder, count, chain_order}

-- there is never more than one order
abbrev pub OneOrder : (E ps qs : List ℕ) → Type 0
OneOrder E ps qs = ChainOrder E ps → ChainOrder E qs → ps ≡ qs

-- n entries, 1 to 64, and none broken
pub record Whole (n : ℕ) (E : List ℕ) : Type 0 where
  pub not_none : 1 ≤ n
  pub not_many : n ≤ 64
  pub whole : length E ≡ 32 * n

-- no order exists
abbrev pub NoOrder : List ℕ → Type 0
NoOrder E = (ps : List ℕ) → ChainOrder E ps → ⊥

-- the call stops with a number and leaves the buffer as it was
abbrev pub Refused : (s : ℕ) (E positions : List ℕ) → Type 0
Refused s E positions = chain_order E positions ≡ record { stop = some s; positions = positions }

-- it writes ps to the front of the buffer and keeps the rest
abbrev pub Written : (ps E positions : List ℕ) → Type 0
Written ps E positions = chain_order E positions ≡ record { stop = none; positions = ps ++ drop (length ps) positions }

pub record Exactly (E positions : List ℕ) : Type 0 where
  -- 21: not 1 to 64 whole entries; then 4: fewer bytes than entries
  pub not_whole : ((n : ℕ) → Whole n E → ⊥) → Refused 21 E positions
  pub no_room : (n : ℕ) → Whole n E → length positions < n → Refused 4 E positions
  -- then 22, precisely if no order exists
  pub refused : (n : ℕ) → Whole n E → n ≤ length positions → NoOrder E → Refused 22 E positions
  pub none_exists : (chain_order E positions).stop ≡ some 22 → NoOrder E
  -- and otherwise what is written is the order
  pub written : (n : ℕ) → Whole n E → n ≤ length positions → (ps : List ℕ) → ChainOrder E ps → Written ps E positions
  pub is_order : (chain_order E positions).stop ≡ none → ChainOrder E (take (count E) (chain_order E positions).positions)
