-- The entries and buffers that the call takes, and its outcomes. Assumes nothing.
use Prim.Native.Nat.{ℕ, ◌*◌, ◌%◌, ◌≤◌, ◌<◌}
use mathlib.Core.Path.{◌≡◌}
use mathlib.Core.Bool.{true, false, ◌||◌}
use mathlib.Core.Option.{none, some}
use mathlib.Core.List.{List}
use native.Mathlib.Omega.{arith}
use lib.ListN.{length}
use borrow.Author.Tests.{ltb-false, lt-ltb, le-ltb, eqb-true, eqb-false, not-false}
use Rattle.octets.specs.Limits.{entry_length, entries_limit}
use Rattle.octets.specs.Octets.{put}
use Rattle.stops.specs.Stops.{first_of}
use Rattle.stops.proofs.Laws.{neither}
use Rattle.chain.specs.Chain.{count, own_twice, ends_early, order, entries_wrong, too_short, chain_stop, ordered_by, chain_order}
use Rattle.chain.specs.Exactly.{Whole}

pub whole : (E : List ℕ) → entries_wrong E ≡ false → Whole (count E) E
unfolding entries_wrong
whole E w =
    let b = neither _ _ w in
    let a = neither _ _ b.0 in
    let some : length E ≡ 0 → ⊥ = eqb-false _ _ a.0 in
    let few : length E ≤ entry_length * entries_limit = ltb-false _ _ a.1 in
    let no_rest : length E % entry_length ≡ 0 = eqb-true _ _ (not-false _ b.1) in
    record { not_none = omega (arith, some, no_rest); not_many = omega (arith, few); whole = omega (arith, no_rest) }

pub long_enough : (E positions : List ℕ) → count E ≤ length positions → too_short E positions ≡ false
unfolding too_short
long_enough E positions h = le-ltb (length positions) (count E) h

pub not_long_enough : (E positions : List ℕ) → length positions < count E → too_short E positions ≡ true
unfolding too_short
not_long_enough E positions h = lt-ltb (length positions) (count E) h

module _ (E positions : List ℕ) where
  pub stops_21 : entries_wrong E ≡ true → record { stop = some 21; positions = positions } ≡ chain_order E positions
  unfolding chain_order ordered_by chain_stop first_of
  stops_21 w = rw w

  pub stops_4 : entries_wrong E ≡ false → too_short E positions ≡ true → record { stop = some 4; positions = positions } ≡ chain_order E positions
  unfolding chain_order ordered_by chain_stop first_of
  stops_4 w s = rw (w, s)

  pub stops_22 : entries_wrong E ≡ false → too_short E positions ≡ false → own_twice E || ends_early E ≡ true
      → record { stop = some 22; positions = positions } ≡ chain_order E positions
  unfolding chain_order ordered_by chain_stop first_of
  stops_22 w s b = rw (w, s, b)

  pub written : (left : List ℕ) → entries_wrong E ≡ false → too_short E positions ≡ false → own_twice E || ends_early E ≡ false
      → left ≡ put positions 0 (order E) → record { stop = none; positions = left } ≡ chain_order E positions
  unfolding chain_order ordered_by chain_stop first_of
  written left w s b e = rw (w, s, b, e)
