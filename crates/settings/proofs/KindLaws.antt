-- What is known of a word whose kind is right, and what the code tests of a word's kind. Assumes nothing.
use Prim.Native.Nat.{ℕ, ◌-◌, ◌≤◌}
use mathlib.Core.Path.{◌≡◌, sym}
use mathlib.Core.Bool.{Bool, true, false, ◌&&◌, ◌||◌, true≢false}
use mathlib.Core.List.{List}
use lib.Dec.{eqb, leb, ltb}
use borrow.Author.Tests.{lt-ltb}
use Rattle.stops.proofs.Laws.{neither}
use Rattle.settings.specs.Settings.{kind_at, version, last_kind, kind_wrong}

pub and_false : (a b : Bool) → a ≡ true → a && b ≡ false → b ≡ false
and_false true b h e = e
and_false false b h e = absurd (true≢false (sym h))

-- what is known of the kind of a word behind the first
module _ (L : List ℕ) (i : ℕ) (h : 1 ≤ i) (w : kind_wrong L i ≡ false) where
  pub right : (eqb (kind_at L i) 0 ≡ false) × (ltb (last_kind (version L)) (kind_at L i) ≡ false) × (ltb 1 i && leb (kind_at L i) (kind_at L (i - 1)) ≡ false)
  unfolding kind_wrong
  right =
      let b = neither _ _ (and_false (ltb 0 i) _ (lt-ltb 0 i h) w) in
      let a = neither _ _ b.0 in
      (a.0, a.1, b.1)

-- of a word behind the first the code tests this
pub kind_tested : (L : List ℕ) (i : ℕ) → 1 ≤ i
    → eqb (kind_at L i) 0 || ltb (last_kind (version L)) (kind_at L i) || (ltb 1 i && leb (kind_at L i) (kind_at L (i - 1))) ≡ kind_wrong L i
unfolding kind_wrong
kind_tested L i h = rw (lt-ltb 0 i h)
