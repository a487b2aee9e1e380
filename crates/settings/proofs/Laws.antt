-- Laws of a list's words: where a kind stands, and what is known of kinds that rise. Assumes nothing.
use Prim.Native.Nat.{ℕ, zero, suc, ◌+◌, ◌-◌, ◌%◌, ◌≤◌, ◌<◌}
use mathlib.Core.Path.{◌≡◌, refl, sym, ap, subst, ◌∙◌}
use mathlib.Core.Bool.{Bool, true, false, cond, not, ◌||◌, true≢false}
use mathlib.Core.List.{List}
use mathlib.Core.Logic.{◌⊎◌, inl, inr}
use native.Mathlib.Decide.{ℕ_discrete}
use native.Mathlib.Omega.{arith}
use lib.ListN.{length}
use lib.Dec.{eqb, ltb}
use borrow.Author.Tests.{eqb-true, eqb-false, eq-eqb, ne_eqb, ltb-false, lt-ltb, leb-false, not-false}
use Rattle.octets.specs.Search.{some_below}
use Rattle.octets.proofs.Search.{NoneBefore, found, none_below, only_one}
use Rattle.stops.proofs.Laws.{neither}
use Rattle.settings.proofs.KindLaws.{and_false, right}
use Rattle.settings.specs.Rules.{FirstRight}
use Rattle.settings.specs.Settings.{count, kind_at, place, missing, version, last_kind, list_wrong, kind_wrong, kinds_wrong}

-- ---- where a kind stands

-- whether word i has a kind
abbrev pub kind_test : (L : List ℕ) (k : ℕ) → ℕ → Bool
kind_test L k i = eqb (kind_at L i) k

module _ (L : List ℕ) (k : ℕ) where
  -- a word that has it
  pub not_missing : (i : ℕ) → i < count L → kind_at L i ≡ k → missing L k ≡ false
  unfolding place
  not_missing i h e =
      ne_eqb (place L k) (count L) (λ p. true≢false (sym (eq-eqb (kind_at L i) k e) ∙ (found (count L) (kind_test L k)).before i (omega (arith, h, p))))

  -- just one has it
  pub placed : (i : ℕ) → i < count L → kind_at L i ≡ k → ((j : ℕ) → j < count L → kind_at L j ≡ k → j ≡ i) → place L k ≡ i
  unfolding place
  placed i h e u = only_one (count L) (kind_test L k) i h (eq-eqb (kind_at L i) k e) (λ j l t. u j l (eqb-true (kind_at L j) k t))

  -- the word that was found
  pub there : missing L k ≡ false → (place L k < count L) × (kind_at L (place L k) ≡ k)
  unfolding place
  there m =
      let f = found (count L) (kind_test L k) in
      let h : place L k < count L = omega (arith, f.within, eqb-false (place L k) (count L) m) in
      (h, eqb-true (kind_at L (place L k)) k (f.holds h))

-- ---- lists that 23 does not refuse

one_or_two : (v : ℕ) → not (eqb v 1 || eqb v 2) ≡ false → (v ≡ 1) ⊎ (v ≡ 2)
one_or_two v e = go (eqb v 1) refl
  where
    go : (t : Bool) → eqb v 1 ≡ t → (v ≡ 1) ⊎ (v ≡ 2)
    go true a = inl (eqb-true v 1 a)
    go false a = inr (eqb-true v 2 (sym (ap (λ (t : Bool). t || eqb v 2) a) ∙ not-false (eqb v 1 || eqb v 2) e))

pub first_right : (L : List ℕ) → list_wrong L ≡ false → FirstRight L
unfolding list_wrong
first_right L w =
    let c = neither _ _ w in
    let b = neither _ _ c.0 in
    let a = neither _ _ b.0 in
    let no_rest : length L % 4 ≡ 0 = eqb-true _ _ (not-false _ a.0) in
    let some : count L ≡ 0 → ⊥ = eqb-false _ _ a.1 in
    record { whole = omega (arith, no_rest); there = omega (arith, some); kind = eqb-true _ _ (not-false _ b.1); versions = one_or_two (version L) c.1 }

-- what the code tests first, and what then
pub not_words : (L : List ℕ) → not (eqb (length L % 4) 0) || eqb (count L) 0 ≡ true → list_wrong L ≡ true
unfolding list_wrong
not_words L e = rw e

pub words_tested : (L : List ℕ) → not (eqb (length L % 4) 0) || eqb (count L) 0 ≡ false
    → not (eqb (kind_at L 0) 15) || not (eqb (version L) 1 || eqb (version L) 2) ≡ list_wrong L
unfolding list_wrong
words_tested L e = rw e

-- ---- kinds that rise

pub record Rises (L : List ℕ) : Type 0 where
  pub low : (i : ℕ) → 1 ≤ i → i < count L → 1 ≤ kind_at L i
  pub high : (i : ℕ) → 1 ≤ i → i < count L → kind_at L i ≤ last_kind (version L)
  pub rise : (i : ℕ) → 1 ≤ i → i + 1 < count L → kind_at L i < kind_at L (i + 1)

-- what is known of the kind of a word behind the first
module _ (L : List ℕ) (i : ℕ) (h : 1 ≤ i) (w : kind_wrong L i ≡ false) where
  right_rise : 2 ≤ i → kind_at L (i - 1) < kind_at L i
  right_rise h₂ = leb-false (kind_at L i) (kind_at L (i - 1)) (and_false (ltb 1 i) _ (lt-ltb 1 i h₂) (right L i h w).2)

pub none_first : (L : List ℕ) → kind_wrong L 0 ≡ false
unfolding kind_wrong
none_first L = refl

pub rises : (L : List ℕ) → some_below (count L) (kind_wrong L) ≡ false → Rises L
rises L e = record {
  low = λ i h l. omega (arith, eqb-false (kind_at L i) 0 (right L i h (n i l)).0);
  high = λ i h l. ltb-false (last_kind (version L)) (kind_at L i) (right L i h (n i l)).1;
  rise = λ i h l. subst (λ (j : ℕ). kind_at L j < kind_at L (i + 1)) (before i) (right_rise L (i + 1) (omega arith) (n (i + 1) l) (omega arith));
}
  where
    n : NoneBefore (kind_wrong L) (count L)
    n = none_below (count L) (kind_wrong L) e

    before : (i : ℕ) → i + 1 - 1 ≡ i
    before i = omega arith

-- no version has kind 15
last_small : (t : Bool) → cond t 2 14 < 15
last_small true = omega arith
last_small false = omega arith

module _ (L : List ℕ) (r : Rises L) where
  pub kind_small : (i : ℕ) → 1 ≤ i → i < count L → kind_at L i < 15
  kind_small i h l = omega (arith, r.high i h l, last_small (eqb (version L) 1))

  pub climbs : (i d : ℕ) → 1 ≤ i → i + d < count L → kind_at L i + d ≤ kind_at L (i + d)
  climbs i zero h l = subst (λ (j : ℕ). kind_at L i + 0 ≤ kind_at L j) (let e : i ≡ i + 0 = omega arith in e) (omega arith)
  climbs i (suc d) h l =
      let e : i + d + 1 ≡ i + suc d = omega arith in
      let up : kind_at L (i + d) < kind_at L (i + suc d) = subst (λ (j : ℕ). kind_at L (i + d) < kind_at L j) e (r.rise (i + d) (omega arith) (omega arith)) in
      omega (arith, up, climbs i d h (omega arith))

  -- kinds of settings that are further behind are higher
  pub above : (i j : ℕ) → 1 ≤ i → i < j → j < count L → kind_at L i < kind_at L j
  above i j h l m =
      let e : i + (j - i) ≡ j = omega arith in
      let up : kind_at L i + (j - i) ≤ kind_at L j = subst (λ (x : ℕ). kind_at L i + (j - i) ≤ kind_at L x) e (climbs i (j - i) h (omega arith)) in
      omega (arith, up)

-- ---- kinds 1 and 2 stand in front, if they are there

-- the second and the third word are volume and delay
pub record Front (L : List ℕ) : Type 0 where
  pub long : 3 ≤ count L
  pub volume : kind_at L 1 ≡ 1
  pub delay : kind_at L 2 ≡ 2

module _ (L : List ℕ) (w : FirstRight L) (r : Rises L) where
  -- a word of another kind than 15 is behind the first
  behind : (i k : ℕ) → kind_at L i ≡ k → k < 15 → 1 ≤ i
  behind zero k e h = absurd (omega (arith, e, w.kind, h))
  behind (suc i) k e h = omega arith

  -- kind k stands at place k at the furthest
  no_further : (i k : ℕ) → i < count L → kind_at L i ≡ k → k < 15 → i ≤ k
  no_further i k h e l =
      let b : 1 ≤ i = behind i k e l in
      let at : 1 + (i - 1) ≡ i = omega (arith, b) in
      let up : kind_at L 1 + (i - 1) ≤ kind_at L i = subst (λ (j : ℕ). kind_at L 1 + (i - 1) ≤ kind_at L j) at (climbs L r 1 (i - 1) (omega arith) (omega (arith, h, b))) in
      omega (arith, up, e, r.low 1 (omega arith) (omega (arith, h, b)))

  pub front : missing L 1 ≡ false → missing L 2 ≡ false → Front L
  front one two =
      let a = there L 1 one in
      let b = there L 2 two in
      let p : place L 1 ≡ 1 = omega (arith, no_further (place L 1) 1 a.0 a.1 (omega arith), behind (place L 1) 1 a.1 (omega arith)) in
      let first : kind_at L 1 ≡ 1 = sym (ap (kind_at L) p) ∙ a.1 in
      let not_one : place L 2 ≡ 1 → ⊥ = λ e. omega (arith, sym (ap (kind_at L) e) ∙ b.1, first) in
      let q : place L 2 ≡ 2 = omega (arith, no_further (place L 2) 2 b.0 b.1 (omega arith), behind (place L 2) 2 b.1 (omega arith), not_one) in
      record { long = omega (arith, b.0, q); volume = first; delay = sym (ap (kind_at L) q) ∙ b.1 }

  -- the only word of a kind
  pub only : (i : ℕ) → 1 ≤ i → i < count L → (j : ℕ) → j < count L → kind_at L j ≡ kind_at L i → j ≡ i
  only i h l j m e =
      let b : 1 ≤ j = behind j (kind_at L i) e (kind_small L r i h l) in
      let not_before : j < i → ⊥ = λ x. omega (arith, above L r j i b x l, e) in
      let not_behind : i < j → ⊥ = λ x. omega (arith, above L r i j h x m, e) in
      omega (arith, not_before, not_behind)

  -- so each is found at its place
  pub placed_at : (i k : ℕ) → 1 ≤ i → i < count L → kind_at L i ≡ k → place L k ≡ i
  placed_at i k h l e = placed L k i l e (λ j m f. only i h l j m (f ∙ sym e))

-- ---- stop 24

or_one : (a b c : Bool) → (a ≡ false → b ≡ false → ⊥) → a || b || c ≡ true
or_one true b c f = refl
or_one false true c f = refl
or_one false false c f = absurd (f refl refl)

or_last : (a b : Bool) → a || b || true ≡ true
or_last true b = refl
or_last false true = refl
or_last false false = refl

-- a kind is not the version's or does not rise
pub kinds_found_wrong : (L : List ℕ) → some_below (count L) (kind_wrong L) ≡ true → kinds_wrong L ≡ true
unfolding kinds_wrong
kinds_found_wrong L e = ap (λ (t : Bool). missing L 1 || missing L 2 || t) e ∙ or_last (missing L 1) (missing L 2)

-- 1 or 2 does not stand in front
pub kinds_not_front : (L : List ℕ) → FirstRight L → Rises L → (Front L → ⊥) → kinds_wrong L ≡ true
unfolding kinds_wrong
kinds_not_front L w r f = or_one (missing L 1) (missing L 2) (some_below (count L) (kind_wrong L)) (λ a b. f (front L w r a b))

-- neither
pub kinds_right : (L : List ℕ) → some_below (count L) (kind_wrong L) ≡ false → Front L → kinds_wrong L ≡ false
unfolding kinds_wrong
kinds_right L e f = rw (not_missing L 1 1 (omega (arith, f.long)) f.volume, not_missing L 2 2 (omega (arith, f.long)) f.delay, e)

-- with room for both, the code tests the two words
pub front_tested : (L : List ℕ) → FirstRight L → some_below (count L) (kind_wrong L) ≡ false → 3 ≤ count L
    → not (eqb (kind_at L 1) 1) || not (eqb (kind_at L 2) 2) ≡ kinds_wrong L
front_tested L w e h = go (ℕ_discrete (kind_at L 1) 1) (ℕ_discrete (kind_at L 2) 2)
  where
    go : Dec (kind_at L 1 ≡ 1) → Dec (kind_at L 2 ≡ 2) → not (eqb (kind_at L 1) 1) || not (eqb (kind_at L 2) 2) ≡ kinds_wrong L
    go (yes a) (yes b) = rw (eq-eqb (kind_at L 1) 1 a, eq-eqb (kind_at L 2) 2 b) (sym (kinds_right L e (record { long = h; volume = a; delay = b })))
    go (yes a) (no b) = rw (eq-eqb (kind_at L 1) 1 a, ne_eqb (kind_at L 2) 2 b) (sym (kinds_not_front L w (rises L e) (λ f. b f.delay)))
    go (no a) d = rw (ne_eqb (kind_at L 1) 1 a) (sym (kinds_not_front L w (rises L e) (λ f. a f.volume)))

-- what is known of a list that 24 does not refuse
pub record Kinds (L : List ℕ) : Type 0 where
  pub rising : Rises L
  pub in_front : Front L

pub kinds : (L : List ℕ) → FirstRight L → kinds_wrong L ≡ false → Kinds L
unfolding kinds_wrong
kinds L w e =
    let b = neither _ _ e in
    let a = neither _ _ b.0 in
    let r = rises L b.1 in
    record { rising = r; in_front = front L w r a.0 a.1 }

-- volume and delay are found at their places
module _ (L : List ℕ) (w : FirstRight L) (k : Kinds L) where
  pub volume_place : place L 1 ≡ 1
  volume_place = placed_at L w k.rising 1 1 (omega arith) (omega (arith, k.in_front.long)) k.in_front.volume

  pub delay_place : place L 2 ≡ 2
  delay_place = placed_at L w k.rising 2 2 (omega arith) (omega (arith, k.in_front.long)) k.in_front.delay
