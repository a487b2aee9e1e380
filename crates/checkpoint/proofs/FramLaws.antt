-- The sizes of a FRAM image and where its halves lie. Assumes nothing.
use Prim.Native.Nat.{ℕ, zero, suc, ◌+◌, ◌*◌, ◌/◌, ◌%◌, ◌≤◌}
use mathlib.Core.Path.{◌≡◌, refl}
use mathlib.Core.Bool.{Bool, true, false, not, ◌||◌}
use mathlib.Core.Logic.{◌⊎◌, inl, inr}
use mathlib.Core.List.{List, ◌++◌}
use native.Mathlib.Omega.{arith}
use lib.ListN.{length, drop}
use lib.Dec.{eqb, ltb}
use borrow.Author.Tests.{eqb-true, le-ltb, ltb-false, not-false}
use Rattle.octets.specs.Limits.{fram_least, fram_step}
use Rattle.octets.specs.Octets.{part}
use Rattle.octets.proofs.Laws.{length_part, part_part, Written, written_front}
use Rattle.stops.proofs.Laws.{neither}
use Rattle.checkpoint.specs.Checkpoint.{Older, empty_length}
use Rattle.checkpoint.specs.Fram.{fram_wrong, half_length, half_at}

-- a FRAM image, however long: a multiple of 8 bytes, with room in each half
pub record Image (fram : List ℕ) : Type 0 where
  pub low : fram_least ≤ length fram
  pub whole : length fram % fram_step ≡ 0

-- what passes stop 2 is one
pub an_image : (limit : ℕ) (fram : List ℕ) → fram_wrong limit fram ≡ false → Image fram
unfolding fram_wrong
an_image limit fram e =
    let a = neither _ _ e in
    let b = neither _ _ a.0 in
    record { low = ltb-false _ _ b.0; whole = eqb-true _ _ (not-false _ a.1) }

-- and not longer than the limit
pub fram_small : (limit : ℕ) (fram : List ℕ) → fram_wrong limit fram ≡ false → length fram ≤ limit
unfolding fram_wrong
fram_small limit fram e =
    let a = neither (ltb (length fram) fram_least || ltb limit (length fram)) (not (eqb (length fram % fram_step) 0)) e in
    ltb-false limit (length fram) (neither (ltb (length fram) fram_least) (ltb limit (length fram)) a.0).1

-- an image that is wrong where its own length is the limit is wrong at any
pub wrong_at_any : (fram : List ℕ) → fram_wrong (length fram) fram ≡ true → (limit : ℕ) → fram_wrong limit fram ≡ true
unfolding fram_wrong
wrong_at_any fram e limit = go (ltb (length fram) fram_least) (ltb limit (length fram)) (not (eqb (length fram % fram_step) 0))
    (rw (le-ltb (length fram) (length fram) (omega arith)) at e)
  where
    go : (a b c : Bool) → a || false || c ≡ true → a || b || c ≡ true
    go true b c f = refl
    go false true c f = refl
    go false false c f = f

-- only the length counts
pub fram_kept : (limit : ℕ) (fram fram' : List ℕ) → length fram' ≡ length fram → fram_wrong limit fram ≡ false → fram_wrong limit fram' ≡ false
unfolding fram_wrong
fram_kept limit fram fram' l e = rw l e

pub image_kept : (fram fram' : List ℕ) → length fram' ≡ length fram → Image fram → Image fram'
image_kept fram fram' l i = record { low = rw l i.low; whole = rw l i.whole }

pub half_kept : (fram fram' : List ℕ) → length fram' ≡ length fram → half_length fram' ≡ half_length fram
unfolding half_length
half_kept fram fram' l = rw l

pub two_halves : (fram : List ℕ) → Image fram → 2 * half_length fram ≡ length fram
unfolding half_length
two_halves fram i = omega (arith, i.whole)

-- a half lies within the image
pub half_within : (fram : List ℕ) (h : ℕ) → Image fram → h ≤ 1 → h * half_length fram + half_length fram ≤ length fram
half_within fram zero e l = omega (arith, two_halves fram e)
half_within fram (suc zero) e l = omega (arith, two_halves fram e)
half_within fram (suc (suc h)) e l = absurd (omega arith)

pub half_long : (fram : List ℕ) (h : ℕ) → Image fram → h ≤ 1 → length (half_at fram h) ≡ half_length fram
unfolding half_at
half_long fram h e l = length_part fram (h * half_length fram) (half_length fram) (half_within fram h e l)

-- a half whose first bytes are ys
pub half_begins : (fram ys : List ℕ) (h : ℕ) → Image fram → h ≤ 1 → length ys ≤ half_length fram
    → Written fram (h * half_length fram) (length ys) ys → half_at fram h ≡ ys ++ drop (length ys) (half_at fram h)
unfolding half_at
half_begins fram ys h e b l w = written_front fram ys (h * half_length fram) (half_length fram) l (half_within fram h e b) w

-- a half has room for a checkpoint of the older form with empty parts, and is not longer than half of the longest image
pub half_sizes : (limit : ℕ) (fram : List ℕ) → fram_wrong limit fram ≡ false → (empty_length Older ≤ half_length fram) × (half_length fram ≤ limit / 2)
half_sizes limit fram e =
    let i = an_image limit fram e in
    (omega (arith, i.low, two_halves fram i), omega (arith, fram_small limit fram e, two_halves fram i))

-- the two halves share no byte
pub halves_apart : (size x y : ℕ) → x ≤ 1 → y ≤ 1 → (x ≡ y → ⊥) → (x * size + size ≤ y * size) ⊎ (y * size + size ≤ x * size)
halves_apart size zero zero l m n = absurd (n refl)
halves_apart size zero (suc zero) l m n = inl (omega arith)
halves_apart size (suc zero) zero l m n = inr (omega arith)
halves_apart size (suc zero) (suc zero) l m n = absurd (n refl)
halves_apart size zero (suc (suc y)) l m n = absurd (omega arith)
halves_apart size (suc zero) (suc (suc y)) l m n = absurd (omega arith)
halves_apart size (suc (suc x)) y l m n = absurd (omega arith)

-- a part of a half is that part of the image
pub part_of_half : (fram : List ℕ) (h i n : ℕ) → i + n ≤ half_length fram → part (half_at fram h) i n ≡ part fram (h * half_length fram + i) n
unfolding half_at
part_of_half fram h i n l = part_part fram (h * half_length fram) (half_length fram) i n l
