-- `gcm::counter_mode::add_bytes` meets its contract: the first i bytes are written. Assumes nothing.
use Rattle.std.proofs.Common.{◌≡◌, ℕ, ◌+◌, ◌<◌, List, ◌∷◌, length, drop, get_or, ⊎_elim, sym, ap, ap₂, ◌∙◌, arith, length-set, length-drop, add-zero, drop-drop}
use Rattle.std.proofs.lemmas.List.{get_or-drop}
use lib.Bits.{bit_xor}
use Rattle.octets.proofs.Tables.{paste_more, paste_all}
use Rattle.gcm.specs.Gcm.{add_bytes}
use Rattle.gcm.proofs.Counter.{length_add_bytes, get_or_add_bytes}
use Rattle.gcm.proofs.counter_mode.add_bytes.Goals as goal

-- the next of the numbers from i on, and those behind it
next : (xs rest r : List ℕ) (x i : ℕ) → rest ≡ drop i xs → rest ≡ x ∷ r → (i < length xs) × (x ≡ get_or xs i 0) × (r ≡ drop (i + 1) xs)
next xs rest r x i h e =
    let left = sym (ap length e) ∙ ap length h ∙ length-drop i xs in (
      omega arith,
      ap (λ (l : List ℕ). get_or l 0 0) (sym e ∙ h) ∙ get_or-drop i xs 0 0 ∙ ap (λ (k : ℕ). get_or xs k 0) (add-zero i),
      ap (drop 1) (sym e ∙ h) ∙ drop-drop 1 i xs,
    )

pub loop-i-preserved : goal.loop-i-preserved
loop-i-preserved c =
    let a = c.args in
    let X = a.text.now in
    let S = a.stream.now in
    let l = c.loop-i in
    let i = l.i-iterator.count in
    let e = c.in-Some.ensures.steps in
    let t = next X _ _ _ i l.invariant.1 e.0.0 in
    let k = next S _ _ _ i l.invariant.2 e.0.1 in
    let inside : i < length (add_bytes X S) = rw length_add_bytes t.0 in
    rw (e.1, e.2) (
      omega (arith, t.0),
      t.2,
      k.2,
      simp length-set l.invariant.3,
      paste_more a.out.now (add_bytes X S) _ i _ (omega (arith, t.0)) inside l.invariant.4 (ap₂ bit_xor t.1 k.1 ∙ sym (get_or_add_bytes X S i t.0)),
    )

pub returns : goal.returns
returns c =
    let a = c.args in
    let l = c.loop-i in
    let i = l.i-iterator.count in
    let ended : i ≡ length a.text.now =
    ⊎_elim (λ u. let left = sym u.1.0 ∙ ap length l.invariant.1 ∙ length-drop i a.text.now in omega (arith, l.invariant.0))
    (λ u. let left = sym u.1.0 ∙ ap length l.invariant.2 ∙ length-drop i a.stream.now in omega (arith, l.invariant.0)) c.in-None.ensures.steps.0 in
    l.invariant.4 ∙ paste_all a.out.now (add_bytes a.text.now a.stream.now) i (rw length_add_bytes ended)
