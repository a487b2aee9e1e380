-- `octets::differences` meets its contract: after i turns d is 0 exactly if the first i bytes agree. Assumes nothing.
use Rattle.std.proofs.Common.{◌≡◌, ℕ, ◌+◌, List, length, length-append, get_or, sym, ap, ap₂, ◌∙◌, arith, below_more, bit_or, bit_xor}
use Rattle.std.proofs.lemmas.Slice.Zip.{zip_turn, zip_end}
use lib.Bits.{or_add_and, and_le_l, and_le_r, xor_add_and, xor_self}
use lib.Seq.{ext_get_or}
use Rattle.octets.proofs.differences.Invariants.{Agree}
use Rattle.octets.proofs.differences.Goals as goal

or_left : (d e : ℕ) → bit_or d e ≡ 0 → d ≡ 0
or_left d e h = omega (arith, or_add_and d e, and_le_r d e)

or_right : (d e : ℕ) → bit_or d e ≡ 0 → e ≡ 0
or_right d e h = omega (arith, or_add_and d e, and_le_l d e)

xor_zero : (x y : ℕ) → bit_xor x y ≡ 0 → x ≡ y
xor_zero x y h = omega (arith, xor_add_and x y, and_le_l x y, and_le_r x y)

-- one byte more
more : (a b : List ℕ) (d i x y : ℕ) → x ≡ get_or a i 0 → y ≡ get_or b i 0 → (d ≡ 0 → Agree a b i) × (Agree a b i → d ≡ 0)
    → (bit_or d (bit_xor x y) ≡ 0 → Agree a b (i + 1)) × (Agree a b (i + 1) → bit_or d (bit_xor x y) ≡ 0)
more a b d i x y ex ey h = (
  λ e. below_more _ _ (h.0 (or_left d (bit_xor x y) e)) (sym ex ∙ xor_zero x y (or_right d (bit_xor x y) e) ∙ ey),
  λ agree. ap₂ bit_or (h.1 (λ k l. agree k (omega arith))) (ap (bit_xor x) (ey ∙ sym (agree i (omega arith)) ∙ sym ex) ∙ xor_self x),
)

pub loop-x-preserved : goal.loop-x-preserved
loop-x-preserved c =
    let at = zip_turn c.args.a.now c.args.b.now c.loop-x.yielded c.into_iter-x-iterator.result c.loop-x.x-iterator c.next.new.self c.next.result (cc) (cc) c.loop-x.yielded_by (c.in-Some.x, c.in-Some.y) c.in-Some.is c.next.ensures.steps in
    rw length-append
    (more c.args.a.now c.args.b.now c.loop-x.d (length c.loop-x.yielded) c.in-Some.x.now c.in-Some.y.now (at.2 0) (at.3 0) c.loop-x.invariant)

pub returns : goal.returns
returns c =
    let a = c.args.a.now in
    let b = c.args.b.now in
    let all = zip_end a b c.loop-x.yielded c.into_iter-x-iterator.result c.loop-x.x-iterator c.next.new.self c.next.result (cc) (cc) c.loop-x.yielded_by c.in-None.is c.next.ensures.steps in (
      (λ zero. ext_get_or 0 a b (cc) (λ k l. c.loop-x.invariant.0 zero k (omega (arith, all)))),
      (λ same. c.loop-x.invariant.1 (λ k l. ap (λ (s : List ℕ). get_or s k 0) same)),
    )
