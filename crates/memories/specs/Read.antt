-- A reading of the ring that a call was lent.
use Rattle.std.specs.Prelude.{◌≡◌, ℕ, List}
use Rattle.ring.specs.declared.found.Reading.{Reading}

pub record ReadFrom (r : Reading) (pages slots : ℕ) (ring : List ℕ) : Type 0 where
  pub same_bytes : r.ring.bytes.now ≡ ring
  pub same_pages : r.ring.pages ≡ pages
  pub same_slots : r.ring.slots ≡ slots
