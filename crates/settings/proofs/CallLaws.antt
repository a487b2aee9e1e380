-- The stops of a list, and the outcomes of reader and writer. Assumes nothing.
use Prim.Native.Nat.{ℕ, ◌+◌, ◌*◌, ◌^◌, ◌≤◌, ◌<◌}
use mathlib.Core.Path.{◌≡◌, sym, ap, ◌∙◌}
use mathlib.Core.Bool.{Bool, true, false, cond, ◌||◌}
use mathlib.Core.Option.{Option, none, some}
use mathlib.Core.List.{List, [], ◌∷◌}
use native.Mathlib.Decide.{ℕ_discrete}
use native.Mathlib.Omega.{arith}
use lib.ListN.{length}
use lib.Dec.{eqb}
use borrow.Author.Tests.{eqb-false, ne_eqb, ltb-false}
use Rattle.octets.specs.Octets.{put}
use Rattle.octets.specs.Word.{top_word}
use Rattle.stops.specs.Stops.{first_of}
use Rattle.stops.proofs.Laws.{passes, neither}
use Rattle.settings.specs.Rules.{FirstRight}
use Rattle.settings.specs.Settings.{count, kind_at, value_at, place, missing, list_wrong, kinds_wrong, value_wrong, values_wrong, list_stop, Volume_delay, Stopped, read_stop, read_by, settings_read, write_stop, changed, written_by, settings_write}
use Rattle.settings.proofs.Laws.{Kinds, first_right, kinds, there, kind_small, volume_place, delay_place}

-- ---- the stops

-- 25 looks at the second and the third word
pub values_in_front : (L : List ℕ) → FirstRight L → Kinds L → value_wrong 1 (value_at L 1) || value_wrong 2 (value_at L 2) ≡ values_wrong L
unfolding values_wrong
values_in_front L w k = rw (volume_place L w k, delay_place L w k)

module _ (L : List ℕ) (kind_refused value_refused : Bool) where
  pub stops_23 : list_wrong L ≡ true → some 23 ≡ list_stop L kind_refused value_refused
  unfolding list_stop first_of
  stops_23 l = rw l

  pub stops_24 : list_wrong L ≡ false → kinds_wrong L || kind_refused ≡ true → some 24 ≡ list_stop L kind_refused value_refused
  unfolding list_stop first_of
  stops_24 l k = rw (l, k)

  pub stops_25 : list_wrong L ≡ false → kinds_wrong L || kind_refused ≡ false
      → cond (values_wrong L || value_refused) (some 25) none ≡ list_stop L kind_refused value_refused
  unfolding list_stop first_of
  stops_25 l k = rw (l, k)

  -- what is known where there is none
  pub record Passed : Type 0 where
    pub is_right : FirstRight L
    pub has_kinds : Kinds L
    pub list_right : list_wrong L ≡ false
    pub kinds_right : kinds_wrong L ≡ false
    pub values_right : values_wrong L ≡ false
    pub kind_taken : kind_refused ≡ false
    pub value_taken : value_refused ≡ false

  pub passed : list_stop L kind_refused value_refused ≡ none → Passed
  unfolding list_stop
  passed e =
      let p = passes ((23, list_wrong L) ∷ (24, kinds_wrong L || kind_refused) ∷ (25, values_wrong L || value_refused) ∷ []) e in
      let k = neither _ _ p.1.0 in
      let v = neither _ _ p.1.1.0 in
      let w = first_right L p.0 in
      record { is_right = w; has_kinds = kinds L w k.0; list_right = p.0; kinds_right = k.0; values_right = v.0; kind_taken = k.1; value_taken = v.1 }

  pub passes_all : list_wrong L ≡ false → kinds_wrong L ≡ false → values_wrong L ≡ false → kind_refused ≡ false → value_refused ≡ false
      → list_stop L kind_refused value_refused ≡ none
  unfolding list_stop first_of
  passes_all l k v a b = rw (l, k, v, a, b)

-- ---- the values that a kind takes

pub volume_range : (v : ℕ) → value_wrong 1 v ≡ false → v ≤ 15
unfolding value_wrong
volume_range v e = ltb-false _ _ e

pub delay_range : (v : ℕ) → value_wrong 2 v ≡ false → (5 ≤ v) × (v ≤ 300)
unfolding value_wrong
delay_range v e =
    let b = neither _ _ e in
    (ltb-false _ _ b.0, ltb-false _ _ b.1)

other_range : (k v : ℕ) → (k ≡ 1 → ⊥) → (k ≡ 2 → ⊥) → value_wrong k v ≡ false → v ≤ 268435455
unfolding value_wrong
other_range k v a b e = ltb-false _ _ (rw (ne_eqb k 1 a, ne_eqb k 2 b) at e)

-- of 28 bits
pub value_small : (k v : ℕ) → value_wrong k v ≡ false → v < 2 ^ 28
value_small k v e = go (ℕ_discrete k 1) (ℕ_discrete k 2)
  where
    go : Dec (k ≡ 1) → Dec (k ≡ 2) → v < 2 ^ 28
    go (yes a) d = omega (arith, volume_range v (ap (λ (j : ℕ). value_wrong j v) (sym a) ∙ e))
    go (no a) (yes b) = omega (arith, (delay_range v (ap (λ (j : ℕ). value_wrong j v) (sym b) ∙ e)).1)
    go (no a) (no b) = omega (arith, other_range k v a b e)

-- ---- the reader

module _ (L : List ℕ) where
  pub stopped : (s : ℕ) → some s ≡ list_stop L false false → Stopped s ≡ settings_read L
  unfolding settings_read read_stop read_by
  stopped s e = rw (sym e)

  pub read : (a b : ℕ) → none ≡ list_stop L false false → a ≡ value_at L 1 → b ≡ value_at L 2 → Volume_delay a b ≡ settings_read L
  unfolding settings_read read_stop read_by
  read a b e f g =
      let p = passed L false false (sym e) in
      rw (sym e, volume_place L p.is_right p.has_kinds, delay_place L p.is_right p.has_kinds, f, g)

-- ---- the writer

-- the word that is written over: it is a setting, of a kind that fits four bits
pub record Writes (L : List ℕ) (k v : ℕ) : Type 0 where
  pub behind_first : 1 ≤ place L k
  pub within : place L k < count L
  pub has_kind : kind_at L (place L k) ≡ k
  pub room : 4 * place L k + 4 ≤ length L
  pub kind_small : k < 15
  pub value_small : v < 2 ^ 28

pub writes : (L : List ℕ) (k v : ℕ) → write_stop L k v ≡ none → Writes L k v
unfolding write_stop
writes L k v e =
    let p = passed L (eqb k 15 || missing L k) (value_wrong k v) e in
    let b = neither _ _ p.kind_taken in
    let t = there L k b.1 in
    let not_first : place L k ≡ 0 → ⊥ = λ z. eqb-false k 15 b.0 (sym t.1 ∙ ap (kind_at L) z ∙ p.is_right.kind) in
    let behind : 1 ≤ place L k = omega (arith, not_first) in
    record { behind_first = behind; within = t.0; has_kind = t.1; room = omega (arith, t.0, p.is_right.whole); kind_small = omega (arith, kind_small L p.has_kinds.rising (place L k) behind t.0, t.1); value_small = value_small k v p.value_taken }

module _ (L : List ℕ) (k v : ℕ) where
  -- the stop, from what the code finds
  pub write_stopped : (o : Option ℕ) (no_place wrong : Bool) → no_place ≡ missing L k → wrong ≡ value_wrong k v
      → o ≡ list_stop L (eqb k 15 || no_place) wrong → o ≡ write_stop L k v
  unfolding write_stop
  write_stopped o no_place wrong e f g = g ∙ (λ i. list_stop L (eqb k 15 || e i) (f i))

  pub is_changed : (left : List ℕ) (at : ℕ) → at ≡ place L k → left ≡ put L (4 * at) (top_word k v) → left ≡ changed L k v
  unfolding changed
  is_changed left at e f = f ∙ ap (λ (i : ℕ). put L (4 * i) (top_word k v)) e

  pub refused : (s : ℕ) → some s ≡ write_stop L k v → record { stop = some s; list = L } ≡ settings_write L k v
  unfolding settings_write written_by
  refused s e = rw (sym e)

  pub written : (left : List ℕ) → none ≡ write_stop L k v → left ≡ changed L k v → record { stop = none; list = left } ≡ settings_write L k v
  unfolding settings_write written_by
  written left e f = rw (sym e, f)
