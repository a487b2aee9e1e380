-- What a reader that knows version 1 alone answers, of a list that is read. Assumes nothing.
use Prim.Native.Nat.{ℕ, zero, suc, ◌+◌, ◌-◌, ◌%◌, ◌≤◌, ◌<◌}
use mathlib.Core.Path.{◌≡◌, refl, ap, ◌∙◌}
use mathlib.Core.Bool.{false}
use mathlib.Core.Option.{none, some}
use mathlib.Core.List.{List}
use native.Mathlib.Omega.{arith}
use lib.ListN.{length}
use borrow.Author.Tests.{eq-eqb, ne_eqb}
use Rattle.settings.specs.Settings.{count, kind_at, value_at, Volume_delay}
use Rattle.settings.specs.Rules.{Known, meeting, through, older_by, older_read}
use Rattle.settings.proofs.Laws.{Rises, Front, above}
use Rattle.settings.proofs.CallLaws.{Passed, values_in_front}

-- kinds above 2 are passed over
passed_over : (L : List ℕ) (n i : ℕ) (s : Known) → ((j : ℕ) → i ≤ j → j < i + n → 3 ≤ kind_at L j) → through L n i s ≡ s
unfolding through meeting
passed_over L zero i s h = refl
passed_over L (suc n) i s h =
    let k : 3 ≤ kind_at L i = h i (omega arith) (omega arith) in
    rw (ne_eqb (kind_at L i) 1 (λ e. omega (arith, k, e)), ne_eqb (kind_at L i) 2 (λ e. omega (arith, k, e))) (passed_over L n (suc i) s (λ j a b. h j (omega arith) (omega arith)))

module _ (L : List ℕ) (r : Rises L) (f : Front L) where
  none_met : Known
  none_met = record { volume = none; delay = none }

  both_met : Known
  both_met = record { volume = some (value_at L 1); delay = some (value_at L 2) }

  met_front : (n : ℕ) → through L (suc (suc n)) 1 none_met ≡ through L n 3 both_met
  unfolding through meeting none_met both_met
  met_front n = rw (eq-eqb (kind_at L 1) 1 f.volume, ne_eqb (kind_at L 2) 1 (λ x. omega (arith, f.delay, x)), eq-eqb (kind_at L 2) 2 f.delay)

  met : through L (count L - 1) 1 none_met ≡ both_met
  met =
      let e : count L - 1 ≡ suc (suc (count L - 3)) = omega (arith, f.long) in
      ap (λ (n : ℕ). through L n 1 none_met) e ∙ met_front (count L - 3)
      ∙ passed_over L (count L - 3) 3 both_met (λ j a b. omega (arith, above L r 2 j (omega arith) (omega arith) (omega (arith, b, f.long)), f.delay))

pub older : (L : List ℕ) → Passed L false false → older_read L ≡ Volume_delay (value_at L 1) (value_at L 2)
unfolding older_read older_by none_met both_met
older L p =
    let f = p.is_right in
    let k = p.has_kinds in
    rw (eq-eqb (length L % 4) 0 (omega (arith, f.whole)), ne_eqb (count L) 0 (λ e. omega (arith, f.there, e)), eq-eqb (kind_at L 0) 15 f.kind, met L k.rising k.in_front, values_in_front L f k, p.values_right)
