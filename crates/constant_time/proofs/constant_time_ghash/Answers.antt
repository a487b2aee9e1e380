-- `constant_time::constant_time_ghash` meets its contract. Assumes nothing.
use mathlib.Core.Path.{◌≡◌, sym, ap, ◌∙◌}
use mathlib.Core.Bool.{Bool, true, false, cond}
use mathlib.Core.List.{List}
use Prim.Native.Nat.{ℕ}
use native.Mathlib.Omega.{arith}
use borrow.Author.Tests.{leb-true}
use lib.ListN.{length}
use Rattle.octets.specs.Limits.{text_limit}
use Rattle.octets.specs.Octets.{number}
use Rattle.octets.proofs.Laws.{and-true}
use Rattle.ghash.specs.Ghash.{GHASH}
use Rattle.ghash.specs.Input.{hash_input}
use Rattle.constant_time.specs.Calls.{hashes, hash_call}
use Rattle.constant_time.proofs.constant_time_ghash.Goals as goal

-- what the words hold, by whether the lengths fit
left : (t : Bool) (h aad cipher : List ℕ) (before : ℕ) → hashes (length aad) (length cipher) ≡ t
    → cond t (GHASH (number h 0 16) (hash_input aad cipher)) before ≡ hash_call h aad cipher before
left t h aad cipher before e = ap (λ (b : Bool). cond b (GHASH (number h 0 16) (hash_input aad cipher)) before) (sym e)

pub ghash-y-requires : goal.ghash-y-requires
ghash-y-requires c =
    let a = c.args in
    let fits = and-true _ _ c.if-aad-cipher.true in
    let A = leb-true (length a.aad.now) text_limit fits.0 in
    let C = leb-true (length a.cipher.now) text_limit fits.1 in
    (omega arith, omega arith)

pub returns-then-aad-cipher : goal.returns-then-aad-cipher
returns-then-aad-cipher c =
    let a = c.args in (
      sym c.if-aad-cipher.true,
      c.ghash-y.ensures _ c.steps-t.ensures
          ∙ ap (λ (H : ℕ). GHASH H (hash_input a.aad.now a.cipher.now)) c.first_block.ensures
          ∙ left true a.h.now a.aad.now a.cipher.now _ c.if-aad-cipher.true,
    )

pub returns : goal.returns
returns c =
    let a = c.args in
    (sym c.if-aad-cipher.false, left false a.h.now a.aad.now a.cipher.now _ c.if-aad-cipher.false)
