-- What a read leaves in a buffer.
use Rattle.std.specs.Prelude.{ℕ, ◌≤◌, ◌≡◌, List, length, take}

-- n bytes were read to the front of a buffer that has room for them
abbrev pub ReadInto : (buffer : List ℕ) → ℕ → Type 0
ReadInto buffer n = (n ≤ length buffer) × (n ≡ length (take n buffer))
