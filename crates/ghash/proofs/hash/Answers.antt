-- `ghash::hash` meets its contract: what is left, hashed from the value so far on, gives what all of s does. Assumes nothing.
use Rattle.std.proofs.Common.{◌≡◌, ℕ, ◌<◌, min, List, ◌++◌, length, sym, ap, ◌∙◌}
use lib.Bits.{bit_xor}
use Rattle.octets.specs.Octets.{number}
use Rattle.ghash.specs.Ghash.{Yᵢ, ◌•◌}
use Rattle.ghash.specs.Input.{blocks}
use Rattle.ghash.proofs.Hashing.{Y_chunk, Y_padded}
use Rattle.ghash.proofs.hash.Goals as goal

-- a turn: the block b of what was left, s, is added and multiplied
next_Y : (H z k x z' w : ℕ) (s b r : List ℕ) → s ≡ b ++ r → length b ≡ min 16 (length s) → 0 < length s → Yᵢ H z s (blocks (length s)) ≡ w
    → k ≡ number b 0 16 → x ≡ bit_xor z k → z' ≡ x • H → Yᵢ H z' r (blocks (length r)) ≡ w
next_Y H z k x z' w s b r e long some all hk hx h =
    ap (λ (y : ℕ). Yᵢ H y r (blocks (length r))) (h ∙ ap (λ (y : ℕ). y • H) (hx ∙ ap (bit_xor z) hk))
    ∙ sym (Y_chunk H z b r (rw (← e) some) (long ∙ ap (λ (l : List ℕ). min 16 (length l)) e)) ∙ ap (λ (l : List ℕ). Yᵢ H z l (blocks (length l))) (sym e) ∙ all

-- the end: nothing is left
last_Y : (H z w : ℕ) (s : List ℕ) → length s ≡ 0 → Yᵢ H z s (blocks (length s)) ≡ w → z ≡ w
unfolding Yᵢ
last_Y H z w s e all = sym (ap (λ (n : ℕ). Yᵢ H z s (blocks n)) e) ∙ all

pub loop-block-preserved : goal.loop-block-preserved
loop-block-preserved c =
    let e = c.in-Some.ensures.steps in
    let inv = c.loop-block.invariant in
    (e.0 ∙ inv.0, λ H steps. next_Y H _ _ _ _ _ _ _ _ e.1.0 (e.1.1 ∙ ap (λ (n : ℕ). min n (length c.loop-block.block-iterator.rest.now)) inv.0) e.1.2 (inv.1 H steps) c.block_of.ensures c.add.ensures (c.product-z.ensures H steps))

pub returns : goal.returns
returns c H steps = last_Y H _ _ _ c.in-None.ensures.steps.1.0 (c.loop-block.invariant.1 H steps) ∙ Y_padded H _ _
