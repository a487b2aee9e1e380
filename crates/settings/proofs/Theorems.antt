-- The theorems of specs/Rules.antt. Assumes nothing.
use Prim.Native.Nat.{ℕ, zero, suc, ◌+◌, ◌-◌, ◌*◌, ◌/◌, ◌%◌, ◌^◌, ◌≤◌, ◌<◌}
use mathlib.Core.Path.{◌≡◌, refl, sym, ap, ap₂, subst, ◌∙◌}
use mathlib.Core.Bool.{Bool, true, false, cond, not, ◌&&◌, ◌||◌}
use mathlib.Core.Logic.{◌⊎◌, inl, inr}
use mathlib.Core.Option.{Option, none, some}
use mathlib.Core.List.{List}
use native.Mathlib.Nat.{zero-add}
use native.Mathlib.Decide.{ℕ_discrete}
use native.Mathlib.Omega.{arith}
use lib.Arith.{digits_div, digits_mod}
use lib.Dec.{eqb, leb, ltb}
use lib.ListN.{length, get_or}
use borrow.Author.Tests.{eqb-false, eq-eqb, ne_eqb, ltb-true, ltb-false, le-ltb, lt-leb}
use Rattle.octets.specs.Limits.{volume_limit, delay_least, delay_limit, setting_limit}
use Rattle.octets.specs.Search.{first_below, some_below}
use Rattle.octets.specs.Word.{word_at, top_kind, low_value, top_word}
use Rattle.octets.proofs.Laws.{length_put, put_before, put_within, put_after}
use Rattle.octets.proofs.Numbers.{number_ext, number_bytes, length_bytes}
use Rattle.octets.proofs.Search.{NoneBefore, same_search, some_ends}
use Rattle.stops.proofs.Laws.{neither}
use Rattle.settings.specs.Settings.{count, kind_at, value_at, place, missing, setting, version, volume, delay, list_wrong, last_kind, kind_wrong, kinds_wrong, value_wrong, values_wrong, list_stop, Volume_delay, read_stop, read_by, settings_read, write_stop, changed, written_by, settings_write}
use Rattle.settings.specs.Rules.{FirstRight, IsSetting, Once, KindsRight, InRange, its_volume, its_delay, ValuesRight, ReadExactly, OlderReads, WriteExactly, Keeps, WriteKeeps}
use Rattle.settings.proofs.Laws.{Kinds, kind_test, first_right, kinds, above, only, placed, not_missing, there}
use Rattle.settings.proofs.CallLaws.{passed, passes_all, stops_23, stops_24, stops_25, volume_range, delay_range, value_small, stopped, Writes, writes}
use Rattle.settings.proofs.OlderReader.{older}

-- a test that cannot fail
unless_false : (b : Bool) → (b ≡ false → ⊥) → b ≡ true
unless_false true n = refl
unless_false false n = absurd (n refl)

-- ---- what 23 asks for

not_wrong : (v : ℕ) → (v ≡ 1) ⊎ (v ≡ 2) → not (eqb v 1 || eqb v 2) ≡ false
not_wrong v (inl e) = ap (λ (x : ℕ). not (eqb x 1 || eqb x 2)) e
not_wrong v (inr e) = ap (λ (x : ℕ). not (eqb x 1 || eqb x 2)) e

list_right : (L : List ℕ) → FirstRight L → list_wrong L ≡ false
unfolding list_wrong
list_right L f =
    rw (eq-eqb (length L % 4) 0 (omega (arith, f.whole)), ne_eqb (count L) 0 (λ e. omega (arith, f.there, e)), eq-eqb (kind_at L 0) 15 f.kind) (not_wrong (version L) f.versions)

-- ---- what 24 asks for

one_or_two : (m : ℕ) → 1 ≤ m → m ≤ 2 → (m ≡ 1) ⊎ (m ≡ 2)
one_or_two m h l = go (ℕ_discrete m 1)
  where
    go : Dec (m ≡ 1) → (m ≡ 1) ⊎ (m ≡ 2)
    go (yes e) = inl e
    go (no e) = inr (omega (arith, h, l, e))

-- from the tests to the words
module _ (L : List ℕ) (f : FirstRight L) (k : Kinds L) where
  once : (i kind : ℕ) → 1 ≤ i → i < count L → kind_at L i ≡ kind → Once L kind
  once i kind h l e = record { at = i; is_setting = record { behind_first = h; within = l }; has_kind = e; alone = λ j m g. only L f k.rising i h l j m (g ∙ sym e) }

  last_of : (v : ℕ) → version L ≡ v → last_kind (version L) ≡ last_kind v
  last_of v e = ap last_kind e

  kinds_are : KindsRight L
  kinds_are = record {
    volume = once 1 1 (omega arith) (omega (arith, k.in_front.long)) k.in_front.volume;
    delay = once 2 2 (omega arith) (omega (arith, k.in_front.long)) k.in_front.delay;
    version_1 = λ e i s. one_or_two (kind_at L i) (k.rising.low i s.behind_first s.within) (omega (arith, k.rising.high i s.behind_first s.within, last_of 1 e));
    version_2 = λ e i s. (k.rising.low i s.behind_first s.within, omega (arith, k.rising.high i s.behind_first s.within, last_of 2 e));
    at_most_once = λ i j s t e. only L f k.rising j t.behind_first t.within i s.within e;
    rise = λ i s t. above L k.rising i (suc i) s.behind_first (omega arith) t.within;
  }

-- and back
and_none : (a : Bool) → a && false ≡ false
and_none true = refl
and_none false = refl

right_kind : (L : List ℕ) (i : ℕ) → 1 ≤ kind_at L i → kind_at L i ≤ last_kind (version L) → (2 ≤ i → kind_at L (i - 1) < kind_at L i) → kind_wrong L i ≡ false
unfolding kind_wrong
right_kind L i low high up = rw (ne_eqb (kind_at L i) 0 (λ e. omega (arith, low, e)), le-ltb (last_kind (version L)) (kind_at L i) high) (go (ltb 1 i) refl)
  where
    go : (t : Bool) → ltb 1 i ≡ t → ltb 0 i && (t && leb (kind_at L i) (kind_at L (i - 1))) ≡ false
    go true e = rw (lt-leb (kind_at L i) (kind_at L (i - 1)) (up (ltb-true 1 i e))) (and_none (ltb 0 i))
    go false e = and_none (ltb 0 i)

found_at : (L : List ℕ) (kind : ℕ) (o : Once L kind) → place L kind ≡ o.at
found_at L kind o = placed L kind o.at o.is_setting.within o.has_kind o.alone

in_list : (L : List ℕ) (kind : ℕ) → Once L kind → missing L kind ≡ false
in_list L kind o = not_missing L kind o.at o.is_setting.within o.has_kind

module _ (L : List ℕ) (f : FirstRight L) (k : KindsRight L) where
  range : (i : ℕ) → IsSetting L i → (version L ≡ 1) ⊎ (version L ≡ 2) → (1 ≤ kind_at L i) × (kind_at L i ≤ last_kind (version L)) × (kind_at L i < 15)
  range i s (inl e) = of_one (k.version_1 e i s)
    where
      of_one : (kind_at L i ≡ 1) ⊎ (kind_at L i ≡ 2) → (1 ≤ kind_at L i) × (kind_at L i ≤ last_kind (version L)) × (kind_at L i < 15)
      of_one (inl g) = (omega (arith, g), omega (arith, g, ap last_kind e), omega (arith, g))
      of_one (inr g) = (omega (arith, g), omega (arith, g, ap last_kind e), omega (arith, g))
  range i s (inr e) = ((k.version_2 e i s).0, omega (arith, (k.version_2 e i s).1, ap last_kind e), omega (arith, (k.version_2 e i s).1))

  each_right : NoneBefore (kind_wrong L) (count L)
  unfolding kind_wrong
  each_right zero h = refl
  each_right (suc i) h =
      let s : IsSetting L (suc i) = record { behind_first = omega arith; within = h } in
      let r = range (suc i) s f.versions in
      right_kind L (suc i) r.0 r.1
      (λ g. subst (λ (j : ℕ). kind_at L j < kind_at L (suc i)) (let e : i ≡ suc i - 1 = omega arith in e) (k.rise i (record { behind_first = omega arith; within = omega arith }) s))

  kinds_right : kinds_wrong L ≡ false
  unfolding kinds_wrong
  kinds_right = rw (in_list L 1 k.volume, in_list L 2 k.delay) (some_ends (count L) (kind_wrong L) (count L) each_right refl)

  is_volume : volume L ≡ its_volume L k
  is_volume = ap (value_at L) (found_at L 1 k.volume)

  is_delay : delay L ≡ its_delay L k
  is_delay = ap (value_at L) (found_at L 2 k.delay)

  -- no setting has kind 15
  kind_taken : (kind : ℕ) → Once L kind → eqb kind 15 || missing L kind ≡ false
  kind_taken kind o = rw (ne_eqb kind 15 (λ e. omega (arith, (range o.at o.is_setting f.versions).2, o.has_kind, e)), in_list L kind o)

-- ---- what 25 asks for

in_range : (kind value : ℕ) → value_wrong kind value ≡ false → InRange kind value
in_range kind value e =
    record { volume = λ k. volume_range value (ap (λ (j : ℕ). value_wrong j value) (sym k) ∙ e); delay = λ k. delay_range value (ap (λ (j : ℕ). value_wrong j value) (sym k) ∙ e); bits = value_small kind value e }

volume_right : (v : ℕ) → v ≤ 15 → value_wrong 1 v ≡ false
unfolding value_wrong
volume_right v h = le-ltb volume_limit v h

delay_right : (v : ℕ) → (5 ≤ v) × (v ≤ 300) → value_wrong 2 v ≡ false
unfolding value_wrong
delay_right v h = rw (le-ltb v delay_least h.0, le-ltb delay_limit v h.1)

other_right : (k v : ℕ) → (k ≡ 1 → ⊥) → (k ≡ 2 → ⊥) → v < 2 ^ 28 → value_wrong k v ≡ false
unfolding value_wrong
other_right k v a b h = rw (ne_eqb k 1 a, ne_eqb k 2 b, le-ltb setting_limit v (omega (arith, h)))

value_right : (kind value : ℕ) → InRange kind value → value_wrong kind value ≡ false
value_right kind value r = go (ℕ_discrete kind 1) (ℕ_discrete kind 2)
  where
    go : Dec (kind ≡ 1) → Dec (kind ≡ 2) → value_wrong kind value ≡ false
    go (yes a) d = ap (λ (k : ℕ). value_wrong k value) a ∙ volume_right value (r.volume a)
    go (no a) (yes b) = ap (λ (k : ℕ). value_wrong k value) b ∙ delay_right value (r.delay b)
    go (no a) (no b) = other_right kind value a b r.bits

module _ (L : List ℕ) (f : FirstRight L) (k : KindsRight L) where
  values_are : values_wrong L ≡ false → ValuesRight L k
  unfolding values_wrong
  values_are e =
      let b = neither (value_wrong 1 (volume L)) (value_wrong 2 (delay L)) e in
      (subst (InRange 1) (is_volume L f k) (in_range 1 (volume L) b.0), subst (InRange 2) (is_delay L f k) (in_range 2 (delay L) b.1))

  values_right : ValuesRight L k → values_wrong L ≡ false
  unfolding values_wrong
  values_right r =
      ap₂ ◌||◌ (ap (value_wrong 1) (is_volume L f k) ∙ value_right 1 (its_volume L k) r.0) (ap (value_wrong 2) (is_delay L f k) ∙ value_right 2 (its_delay L k) r.1)

-- ---- what the reader answers

-- a list with no stop is read so
reads : (L : List ℕ) → list_stop L false false ≡ none → settings_read L ≡ Volume_delay (volume L) (delay L)
unfolding settings_read read_stop read_by
reads L e = rw e

pub read_exactly : (L : List ℕ) → ReadExactly L
read_exactly L = record {
  stop_23 = λ n. sym (stopped L 23 (stops_23 L false false (unless_false (list_wrong L) (λ e. n (first_right L e)))));
  stop_24 = λ f n. sym (stopped L 24 (stops_24 L false false (list_right L f) (ap (λ (t : Bool). t || false) (unless_false (kinds_wrong L) (λ e. n (kinds_are L f (kinds L f e)))))));
  stop_25 = λ f k n. sym (stopped L 25 (ap (λ (t : Bool). cond (t || false) (some 25) none) (sym (unless_false (values_wrong L) (λ e. n (values_are L f k e)))) ∙ stops_25 L false false (list_right L f) (ap (λ (t : Bool). t || false) (kinds_right L f k))));
  read = λ f k v. reads L (passes_all L false false (list_right L f) (kinds_right L f k) (values_right L f k v) refl refl) ∙ ap₂ Volume_delay (is_volume L f k) (is_delay L f k);
}

-- ---- a reader that knows version 1 alone

pub older_reads : (L : List ℕ) → FirstRight L → (k : KindsRight L) → ValuesRight L k → OlderReads L k
older_reads L f k v =
    let p = passed L false false (passes_all L false false (list_right L f) (kinds_right L f k) (values_right L f k v) refl refl) in
    let front = p.has_kinds.in_front in
    let one : value_at L 1 ≡ its_volume L k = ap (value_at L) (k.volume.alone 1 (omega (arith, front.long)) front.volume) in
    let two : value_at L 2 ≡ its_delay L k = ap (value_at L) (k.delay.alone 2 (omega (arith, front.long)) front.delay) in
    record { by_kind = older L p ∙ ap₂ Volume_delay one two; by_place = (one, two) }

-- ---- what the writer answers

abbrev number : Option ℕ → ℕ
number none = 0
number (some s) = 1

stop_by : (o : Option ℕ) (L : List ℕ) (kind value : ℕ) → (written_by o L kind value).stop ≡ o
unfolding written_by
stop_by none L kind value = refl
stop_by (some s) L kind value = refl

left_by : (o : Option ℕ) (L : List ℕ) (kind value s : ℕ) → (written_by o L kind value).stop ≡ some s → (written_by o L kind value).list ≡ L
unfolding written_by
left_by none L kind value s e = absurd (omega (arith, ap number e))
left_by (some x) L kind value s e = refl

-- its stop, and what it leaves
write_stops : (L : List ℕ) (kind value : ℕ) → (settings_write L kind value).stop ≡ write_stop L kind value
unfolding settings_write
write_stops L kind value = stop_by (write_stop L kind value) L kind value

write_leaves : (L : List ℕ) (kind value s : ℕ) → (settings_write L kind value).stop ≡ some s → (settings_write L kind value).list ≡ L
unfolding settings_write
write_leaves L kind value s e = left_by (write_stop L kind value) L kind value s e

module _ (L : List ℕ) (kind value : ℕ) where
  -- the kind is that of a setting
  has_once : FirstRight L → kinds_wrong L ≡ false → eqb kind 15 || missing L kind ≡ false → Once L kind
  has_once f e g =
      let b = neither (eqb kind 15) (missing L kind) g in
      let t = there L kind b.1 in
      let not_first : place L kind ≡ 0 → ⊥ = λ z. eqb-false kind 15 b.0 (sym t.1 ∙ ap (kind_at L) z ∙ f.kind) in
      once L f (kinds L f e) (place L kind) kind (omega (arith, not_first)) t.0 t.1

  pub write_exactly : WriteExactly L kind value
  unfolding write_stop
  write_exactly = record {
    stop_23 = λ n. write_stops L kind value ∙ sym (stops_23 L _ _ (unless_false (list_wrong L) (λ e. n (first_right L e))));
    stop_24 = λ f n. write_stops L kind value ∙ sym (stops_24 L _ _ (list_right L f) (unless_false (kinds_wrong L || (eqb kind 15 || missing L kind)) (λ e. let b = neither (kinds_wrong L) (eqb kind 15 || missing L kind) e in n (kinds_are L f (kinds L f b.0)) (has_once f b.0 b.1))));
    stop_25 = λ f k o n. write_stops L kind value ∙ sym (ap (λ (t : Bool). cond t (some 25) none) (sym (unless_false (values_wrong L || value_wrong kind value) (λ e. let b = neither (values_wrong L) (value_wrong kind value) e in n (values_are L f k b.0) (in_range kind value b.1)))) ∙ stops_25 L _ _ (list_right L f) (ap₂ ◌||◌ (kinds_right L f k) (kind_taken L f k kind o)));
    writes = λ f k o v r. write_stops L kind value ∙ passes_all L _ _ (list_right L f) (kinds_right L f k) (values_right L f k v) (kind_taken L f k kind o) (value_right kind value r);
    stopped = write_leaves L kind value;
  }

-- ---- what it keeps

long_word : (k v : ℕ) → length (top_word k v) ≡ 4
unfolding top_word
long_word k v = length_bytes 4 (k * 2 ^ 28 + v)

module _ (L : List ℕ) (k v : ℕ) (w : Writes L k v) where
  fits : 4 * place L k + length (top_word k v) ≤ length L
  fits = omega (arith, w.room, long_word k v)

  long : length (changed L k v) ≡ length L
  unfolding changed
  long = length_put L (4 * place L k) (top_word k v) fits

  -- the word that is written, and every other
  here : word_at (changed L k v) (4 * place L k) ≡ k * 2 ^ 28 + v
  unfolding changed word_at top_word
  here =
      number_ext (changed L k v) (top_word k v) (4 * place L k) 0 4
      (λ i l. put_within L (top_word k v) (4 * place L k) i (omega (arith, w.room)) (omega (arith, l, long_word k v)) ∙ ap (λ (j : ℕ). get_or (top_word k v) j 0) (sym (zero-add i)))
      ∙ number_bytes 4 (k * 2 ^ 28 + v) (omega (arith, w.kind_small, w.value_small))

  elsewhere : (i : ℕ) → (i ≡ place L k → ⊥) → word_at (changed L k v) (4 * i) ≡ word_at L (4 * i)
  unfolding changed word_at
  elsewhere i n = number_ext (changed L k v) L (4 * i) (4 * i) 4 (λ j l. byte j l (ltb i (place L k)) refl)
    where
      byte : (j : ℕ) → j < 4 → (t : Bool) → ltb i (place L k) ≡ t → get_or (changed L k v) (4 * i + j) 0 ≡ get_or L (4 * i + j) 0
      byte j l true e = put_before L (top_word k v) (4 * place L k) (4 * i + j) (omega (arith, w.room)) (omega (arith, l, ltb-true i (place L k) e))
      byte j l false e =
          put_after L (top_word k v) (4 * place L k) (4 * i + j) (omega (arith, w.room))
          (omega (arith, l, n, ltb-false i (place L k) e, long_word k v))

  same_kind : (i : ℕ) → kind_at (changed L k v) i ≡ kind_at L i
  same_kind i = go (ℕ_discrete i (place L k))
    where
      go : Dec (i ≡ place L k) → kind_at (changed L k v) i ≡ kind_at L i
      go (yes e) = ap (kind_at (changed L k v)) e ∙ ap top_kind here ∙ digits_div k w.value_small ∙ sym w.has_kind ∙ sym (ap (kind_at L) e)
      go (no n) = ap top_kind (elsewhere i n)

  same_count : count (changed L k v) ≡ count L
  same_count = ap (λ (n : ℕ). n / 4) long

  same_place : (j : ℕ) → place (changed L k v) j ≡ place L j
  unfolding place
  same_place j =
      ap (λ (n : ℕ). first_below n (kind_test (changed L k v) j)) same_count
      ∙ same_search (count L) (kind_test (changed L k v) j) (kind_test L j) (λ i l. ap (λ (x : ℕ). eqb x j) (same_kind i))

  value_here : value_at (changed L k v) (place L k) ≡ v
  value_here = ap low_value here ∙ digits_mod k w.value_small

  back : setting (changed L k v) k ≡ v
  back = ap (value_at (changed L k v)) (same_place k) ∙ value_here

  -- another kind stands elsewhere
  apart : (j : ℕ) → (j ≡ k → ⊥) → place L j ≡ place L k → ⊥
  apart j n e =
      let t = there L j (ne_eqb (place L j) (count L) (λ m. omega (arith, w.within, e, m))) in
      n (sym t.1 ∙ ap (kind_at L) e ∙ w.has_kind)

  other : (j : ℕ) → (j ≡ k → ⊥) → setting (changed L k v) j ≡ setting L j
  other j n = ap (value_at (changed L k v)) (same_place j) ∙ ap low_value (elsewhere (place L j) (apart j n))

  same_version : version (changed L k v) ≡ version L
  same_version = ap low_value (elsewhere 0 (λ e. omega (arith, w.behind_first, e)))

  list_kept : list_wrong L ≡ false → list_wrong (changed L k v) ≡ false
  unfolding list_wrong
  list_kept e = rw (long, same_kind 0, same_version) e

  same_wrong : (i : ℕ) → kind_wrong (changed L k v) i ≡ kind_wrong L i
  unfolding kind_wrong
  same_wrong i = rw (same_kind i, same_kind (i - 1), same_version)

  same_missing : (j : ℕ) → missing (changed L k v) j ≡ missing L j
  same_missing j = ap₂ eqb (same_place j) same_count

  same_some : some_below (count (changed L k v)) (kind_wrong (changed L k v)) ≡ some_below (count L) (kind_wrong L)
  same_some =
      ap (λ (n : ℕ). some_below n (kind_wrong (changed L k v))) same_count
      ∙ ap (λ (m : ℕ). ltb m (count L)) (same_search (count L) (kind_wrong (changed L k v)) (kind_wrong L) (λ i l. same_wrong i))

  kinds_kept : kinds_wrong L ≡ false → kinds_wrong (changed L k v) ≡ false
  unfolding kinds_wrong
  kinds_kept e = (λ i. same_missing 1 i || same_missing 2 i || same_some i) ∙ e

  values_kept : values_wrong L ≡ false → value_wrong k v ≡ false → values_wrong (changed L k v) ≡ false
  unfolding values_wrong
  values_kept e f =
      let b = neither _ _ e in
      ap₂ ◌||◌ (kept 1 b.0) (kept 2 b.1)
    where
      kept : (j : ℕ) → value_wrong j (setting L j) ≡ false → value_wrong j (setting (changed L k v) j) ≡ false
      kept j g = go (ℕ_discrete j k)
        where
          go : Dec (j ≡ k) → value_wrong j (setting (changed L k v) j) ≡ false
          go (yes h) = ap₂ value_wrong h (ap (setting (changed L k v)) h ∙ back) ∙ f
          go (no n) = ap (value_wrong j) (other j n) ∙ g

  -- each setting afterwards
  setting_after : (j : ℕ) → setting (changed L k v) j ≡ cond (eqb k j) v (setting L j)
  setting_after j = go (ℕ_discrete k j)
    where
      go : Dec (k ≡ j) → setting (changed L k v) j ≡ cond (eqb k j) v (setting L j)
      go (yes e) = rw (eq-eqb k j e) (ap (setting (changed L k v)) (sym e) ∙ back)
      go (no n) = rw (ne_eqb k j n) (other j (λ e. n (sym e)))

kept : (L : List ℕ) (k v : ℕ) → write_stop L k v ≡ none → Keeps L k v (changed L k v)
unfolding write_stop
kept L k v e =
    let w = writes L k v e in
    let p = passed L (eqb k 15 || missing L k) (value_wrong k v) e in
    let l = list_kept L k v w p.list_right in
    record {
      same_length = long L k v w;
      same_kinds = same_kind L k v w;
      written = λ i h g. ap (value_at (changed L k v)) (only L p.is_right p.has_kinds.rising (place L k) w.behind_first w.within i h (g ∙ sym w.has_kind)) ∙ value_here L k v w;
      others = λ i h n. elsewhere L k v w i (λ g. n (ap (kind_at L) g ∙ w.has_kind));
      volume = volume L;
      delay = delay L;
      before = reads L (passes_all L false false p.list_right p.kinds_right p.values_right refl refl);
      after = reads (changed L k v) (passes_all (changed L k v) false false l (kinds_kept L k v w p.kinds_right) (values_kept L k v w p.values_right p.value_taken) refl refl) ∙ ap₂ Volume_delay (setting_after L k v w 1) (setting_after L k v w 2);
    }

write_leaves_changed : (o : Option ℕ) (L : List ℕ) (k v : ℕ) → o ≡ none → changed L k v ≡ (written_by o L k v).list
unfolding written_by
write_leaves_changed none L k v e = refl
write_leaves_changed (some s) L k v e = absurd (omega (arith, ap number e))

pub write_keeps : (L : List ℕ) (k v : ℕ) → WriteKeeps L k v
unfolding settings_write
write_keeps L k v e =
    let n = sym (write_stops L k v) ∙ e in
    subst (Keeps L k v) (write_leaves_changed (write_stop L k v) L k v n) (kept L k v n)
