-- The theorems: the call refuses precisely where no order exists, there is never more than one, and what is written is it. Assumes nothing.
use Prim.Native.Nat.{ℕ, ◌*◌, ◌%◌, ◌≤◌, ◌<◌}
use mathlib.Core.Path.{◌≡◌, refl, sym, ap, subst, ◌∙◌}
use mathlib.Core.Bool.{Bool, true, false, ◌||◌}
use mathlib.Core.Option.{Option, none, some}
use mathlib.Core.List.{List, ◌++◌}
use native.Mathlib.Omega.{arith}
use lib.ListN.{length, take, drop}
use lib.Seq.{take_at}
use borrow.Author.Tests.{le-ltb, eq-eqb, ne_eqb}
use Rattle.octets.specs.Limits.{entry_length, entries_limit}
use Rattle.octets.specs.Octets.{put}
use Rattle.octets.proofs.Laws.{put_front}
use Rattle.octets.proofs.Tables.{length_table}
use Rattle.stops.proofs.Laws.{neither}
use Rattle.chain.specs.Chain.{count, ChainOrder, own_twice, place, ends_early, order, entries_wrong, too_short, Ordered, chain_order}
use Rattle.chain.specs.Exactly.{OneOrder, Whole, NoOrder, Exactly}
use Rattle.chain.proofs.Orders.{walk_orders, order_walks}
use Rattle.chain.proofs.CallLaws.{whole, long_enough, not_long_enough, stops_21, stops_4, stops_22, written}

pub one_order : (E ps qs : List ℕ) → OneOrder E ps qs
one_order E ps qs p q = (order_walks E ps p).2 ∙ sym (order_walks E qs q).2

-- ---- the entries that are taken

module _ {n : ℕ} {E : List ℕ} (w : Whole n E) where
  right : entries_wrong E ≡ false
  unfolding entries_wrong
  right = rw (
    ne_eqb (length E) 0 (λ e. omega (arith, e, w.not_none, w.whole)),
    le-ltb (entry_length * entries_limit) (length E) (omega (arith, w.not_many, w.whole)),
    eq-eqb (length E % entry_length) 0 (omega (arith, w.whole)),
  )

  counted : count E ≡ n
  counted = omega (arith, w.whole)

  room : (positions : List ℕ) → n ≤ length positions → too_short E positions ≡ false
  room positions h = long_enough E positions (omega (arith, counted))

  no_room : (positions : List ℕ) → length positions < n → too_short E positions ≡ true
  no_room positions h = not_long_enough E positions (omega (arith, counted))

-- ---- where the call passes

-- the order, and what was behind it
order_front : (E ps positions : List ℕ) → ps ≡ order E → put positions 0 (order E) ≡ ps ++ drop (length ps) positions
order_front E ps positions e = ap (put positions 0) (sym e) ∙ put_front positions ps

front : (E positions : List ℕ) → take (count E) (put positions 0 (order E)) ≡ order E
unfolding order
front E positions = ap (take (count E)) (put_front positions (order E)) ∙ take_at (order E) _ (count E) (length_table (count E) (place E))

-- a stop's number, 0 where there is none
abbrev number : Option ℕ → ℕ
number none = 0
number (some n) = n

module _ (E positions : List ℕ) where
  stop_of : {o : Ordered} → o ≡ chain_order E positions → (chain_order E positions).stop ≡ o.stop
  stop_of e = ap (λ (o : Ordered). o.stop) (sym e)

  -- with an order the call does not stop with 22
  not_22 : own_twice E || ends_early E ≡ false → (chain_order E positions).stop ≡ some 22 → ⊥
  not_22 b e = go (entries_wrong E) refl (too_short E positions) refl
    where
      go : (w : Bool) → entries_wrong E ≡ w → (s : Bool) → too_short E positions ≡ s → ⊥
      go true w t s = omega (arith, ap number (sym (stop_of (stops_21 E positions w)) ∙ e))
      go false w true s = omega (arith, ap number (sym (stop_of (stops_4 E positions w s)) ∙ e))
      go false w false s = omega (arith, ap number (sym (stop_of (written E positions _ w s b refl)) ∙ e))

  -- and where it does not stop, it found one
  found : (chain_order E positions).stop ≡ none → ChainOrder E (take (count E) (chain_order E positions).positions)
  found e = go (entries_wrong E) refl (too_short E positions) refl (own_twice E || ends_early E) refl
    where
      go : (w : Bool) → entries_wrong E ≡ w → (s : Bool) → too_short E positions ≡ s → (b : Bool) → own_twice E || ends_early E ≡ b
          → ChainOrder E (take (count E) (chain_order E positions).positions)
      go true w t s u b = absurd (omega (arith, ap number (sym (stop_of (stops_21 E positions w)) ∙ e)))
      go false w true s u b = absurd (omega (arith, ap number (sym (stop_of (stops_4 E positions w s)) ∙ e)))
      go false w false s true b = absurd (omega (arith, ap number (sym (stop_of (stops_22 E positions w s b)) ∙ e)))
      go false w false s false b =
          let p = neither _ _ b in
          let q : (chain_order E positions).positions ≡ put positions 0 (order E) = ap (λ (o : Ordered). o.positions) (sym (written E positions _ w s b refl)) in
          subst (ChainOrder E) (sym (ap (take (count E)) q ∙ front E positions)) (walk_orders E p.0 p.1)

pub chain_exactly : (E positions : List ℕ) → Exactly E positions
chain_exactly E positions = record {
  not_whole = λ n. wrong n (entries_wrong E) refl;
  no_room = λ n w h. sym (stops_4 E positions (right w) (no_room w positions h));
  refused = λ n w h o. no_order w h o (own_twice E || ends_early E) refl;
  none_exists = λ e ps o. let p = order_walks E ps o in not_22 E positions (rw (p.0, p.1)) e;
  written = λ n w h ps o. let p = order_walks E ps o in sym (written E positions _ (right w) (room w positions h) (rw (p.0, p.1)) (sym (order_front E ps positions p.2)));
  is_order = found E positions;
}
  where
    wrong : ((n : ℕ) → Whole n E → ⊥) → (t : Bool) → entries_wrong E ≡ t → chain_order E positions ≡ record { stop = some 21; positions = positions }
    wrong n true w = sym (stops_21 E positions w)
    wrong n false w = absurd (n (count E) (whole E w))

    no_order : {n : ℕ} → Whole n E → n ≤ length positions → NoOrder E → (t : Bool) → own_twice E || ends_early E ≡ t
        → chain_order E positions ≡ record { stop = some 22; positions = positions }
    no_order w h o true e = sym (stops_22 E positions (right w) (room w positions h) e)
    no_order w h o false e = let p = neither _ _ e in absurd (o (order E) (walk_orders E p.0 p.1))
