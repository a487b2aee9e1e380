-- `checkpoint::half::read_head` meets its contract. Assumes nothing.
use mathlib.Core.Path.{◌≡◌, refl, sym, ap, ◌∙◌}
use mathlib.Core.Bool.{Bool, cond, and-true}
use mathlib.Core.List.{List}
use Prim.Native.Nat.{ℕ}
use lib.Dec.{eqb}
use borrow.Author.Tests.{ne_eqb}
use Rattle.octets.specs.Word.{word_at, kind_of, value_of}
use Rattle.checkpoint.specs.Checkpoint.{Older, Longer, front_words}
use Rattle.checkpoint.specs.Half.{kind_at, value_at, form_of, stored_packet, kinds_from}
use Rattle.checkpoint.proofs.half.read_head.Goals as goal

-- the first word and its kind
module _ (half : List ℕ) (w k : ℕ) (e : w ≡ word_at half 0) (f : k ≡ kind_of w) where
  first : k ≡ kind_at half 0
  unfolding kind_at
  first = f ∙ ap kind_of e

  older : k ≡ 1 → form_of half ≡ Older
  unfolding form_of
  older t = ap (λ (n : ℕ). cond (eqb n 1) Older Longer) (sym first ∙ t)

  longer : (k ≡ 1 → ⊥) → form_of half ≡ Longer
  unfolding form_of
  longer l = ap (λ (b : Bool). cond b Older Longer) (ne_eqb (kind_at half 0) 1 (λ q. l (first ∙ q)))

  front : eqb k 0 ≡ kinds_from half 0 (front_words Longer 0)
  unfolding kinds_from
  front = ap (λ (n : ℕ). eqb n 0) first ∙ sym (and-true (eqb (kind_at half 0) 0))

  packet : (v : ℕ) → v ≡ value_of w → v ≡ stored_packet Longer half
  unfolding stored_packet value_at
  packet v g = g ∙ ap value_of e

pub read_words-requires : goal.read_words-requires
unfolding kinds_from stored_packet
read_words-requires c =
    let half = c.args.half.now in
    let form = older half _ _ c.word_at-first.ensures c.kind_of-kind.ensures c.if-kind-eq1.true in
    rw form (refl, refl, refl, c.requires)

pub read_words-requires-else-kind-eq1 : goal.read_words-requires-else-kind-eq1
read_words-requires-else-kind-eq1 c =
    let half = c.args.half.now in
    let e = c.word_at-first.ensures in
    let f = c.kind_of-kind.ensures in
    let form = longer half _ _ e f c.if-kind-eq1.false in
    rw form (refl, front half _ _ e f, packet half _ _ e f _ c.value_of.ensures.0, c.requires)
