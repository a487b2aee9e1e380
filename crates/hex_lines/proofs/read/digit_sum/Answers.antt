-- `hex_lines::read::digit_sum` meets its contract. Assumes nothing.
use Rattle.std.proofs.Common.{◌≡◌, ℕ, suc, ◌+◌, ◌*◌, ◌/◌, ◌<◌, Bool, true, false, ◌&&◌, List, [], ◌∷◌, ◌++◌, length, get_or, refl, sym, ap, ap₂, ◌∙◌, arith}
use Rattle.std.specs.Slice.Iter.{chunks_exact_rest, chunks_exact_size}
use Rattle.octets.proofs.Tables.{table_ext}
use Rattle.hex_digits.specs.Digits.{is_digit, digit_value, all_digits, pair, decoded}
use Rattle.hex_lines.specs.Format.{sum}
use Rattle.hex_lines.proofs.read.digit_sum.Invariants.{Read}
use Rattle.hex_lines.proofs.read.digit_sum.Goals as goal

and_assoc : (a b c d : Bool) → (a && b && c) && d ≡ a && (b && (c && d))
and_assoc true true c d = refl
and_assoc true false c d = refl
and_assoc false b c d = refl

-- two digits more
module _ (a b : ℕ) (rest : List ℕ) where
  half : length (a ∷ b ∷ rest) / 2 ≡ suc (length rest / 2)
  half = omega arith

  sum_two : sum (decoded (a ∷ b ∷ rest) (length (a ∷ b ∷ rest) / 2)) ≡ pair (a ∷ b ∷ []) 0 + sum (decoded rest (length rest / 2))
  unfolding sum
  sum_two =
      ap (λ n. sum (decoded (a ∷ b ∷ rest) n)) half
      ∙ ap (λ t. pair (a ∷ b ∷ []) 0 + sum t) (table_ext (length rest / 2) (λ k. pair (a ∷ b ∷ rest) (2 * suc k)) (λ k. pair rest (2 * k)) (λ k h.
      let e : 2 * suc k ≡ suc (suc (2 * k)) = omega arith in
      let f : 2 * suc k + 1 ≡ suc (suc (2 * k + 1)) = omega arith in
      ap₂ (λ x y. digit_value x * 16 + digit_value y) (ap (λ n. get_or (a ∷ b ∷ rest) n 0) e) (ap (λ n. get_or (a ∷ b ∷ rest) n 0) f)))

  tests_two : (digits : Bool) → (digits && is_digit a && is_digit b) && all_digits rest ≡ digits && all_digits (a ∷ b ∷ rest)
  unfolding all_digits
  tests_two digits = and_assoc digits (is_digit a) (is_digit b) (all_digits rest)

more : (s rest rest' x : List ℕ) (total p : ℕ) (digits ia ib : Bool) → Read s rest total digits → rest ≡ x ++ rest' → length x ≡ 2
    → p ≡ pair x 0 → p < 256 → ia ≡ is_digit (get_or x 0 0) → ib ≡ is_digit (get_or x 1 0) → Read s rest' (total + p) (digits && ia && ib)
more s rest rest' [] total p digits ia ib w e h ep l ea eb = absurd (omega arith)
more s rest rest' (a ∷ []) total p digits ia ib w e h ep l ea eb = absurd (omega arith)
more s rest rest' (a ∷ b ∷ []) total p digits ia ib w e h ep l ea eb =
    let n : length rest ≡ suc (suc (length rest')) = ap length e in
    let q : sum (decoded rest (length rest / 2)) ≡ p + sum (decoded rest' (length rest' / 2)) =
    ap (λ r. sum (decoded r (length r / 2))) e ∙ sum_two a b rest' ∙ ap (λ m. m + sum (decoded rest' (length rest' / 2))) (sym ep) in
    record {
      sums = omega (arith, w.sums, q);
      tests = (λ i. (digits && ea i && eb i) && all_digits rest') ∙ tests_two a b rest' digits ∙ ap (λ r. digits && all_digits r) (sym e) ∙ w.tests;
      even = omega (arith, w.even, n);
      small = omega (arith, w.small, n);
    }
more s rest rest' (a ∷ b ∷ c ∷ x) total p digits ia ib w e h ep l ea eb = absurd (omega arith)

-- nothing is left
and_true : (t : Bool) → t && true ≡ t
and_true true = refl
and_true false = refl

done : (s rest : List ℕ) (total : ℕ) (digits : Bool) → Read s rest total digits → length rest < 2 → (all_digits s ≡ digits) × (total ≡ sum (decoded s (length s / 2)))
unfolding sum all_digits
done s [] total digits w h = (sym w.tests ∙ and_true digits, omega (arith, w.sums))
done s (a ∷ rest) total digits w h = absurd (omega (arith, w.even))

pub loop-two-init : goal.loop-two-init
loop-two-init c =
    let e = c.into_iter-two-iterator.ensures.into_iter_gives in
    (ap chunks_exact_size e ∙ c.chunks_exact-two-items.ensures.size, rw (ap chunks_exact_rest e ∙ c.chunks_exact-two-items.ensures.rest) (record { sums = omega arith; tests = refl; even = c.requires.0; small = omega arith }))

pub loop-two-preserved : goal.loop-two-preserved
loop-two-preserved c =
    let n = c.in-Some.ensures.steps in
    let i = c.loop-two.invariant in
    (n.0 ∙ i.0, more _ _ _ _ _ _ _ _ _ i.1 n.1.0 (n.1.1 ∙ i.0) (c.from-total.ensures ∙ c.pair.ensures) (omega arith) c.is_digit.ensures c.is_digit-in-loop-two.ensures)

pub returns-then-digits : goal.returns-then-digits
returns-then-digits c =
    let n = c.in-None.ensures.steps in
    let d = done _ _ _ _ c.loop-two.invariant.1 (omega (arith, n.1.0, c.loop-two.invariant.0)) in
    (d.0 ∙ c.if-digits.true, d.1)

pub returns-else-digits : goal.returns-else-digits
returns-else-digits c =
    let n = c.in-None.ensures.steps in
    (done _ _ _ _ c.loop-two.invariant.1 (omega (arith, n.1.0, c.loop-two.invariant.0))).0 ∙ c.if-digits.false
