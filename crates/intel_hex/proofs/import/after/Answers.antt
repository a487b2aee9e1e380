-- `intel_hex::import::after` meets its contract. Assumes nothing.
use mathlib.Core.Path.{sym, ap, ◌∙◌}
use Prim.Native.Nat.{ℕ, ◌+◌, ◌*◌}
use native.Mathlib.Omega.{arith}
use borrow.Author.Rules.{rules}
use Rattle.hex_lines.specs.Format.{boundary}
use Rattle.intel_hex.proofs.ImportLaws.{after_data, after_upper, after_end, upper_line_is, upper_is}
use Rattle.intel_hex.proofs.import.after.Goals as goal

pub returns-in-0 : goal.returns-in-0
returns-in-0 c =
    let a = c.args in
    let line = c.requires.1 in
    (after_data a.s.now a.reading _ _ (sym line.kind ∙ c.in-0.is) (c.data_place.ensures.0 ∙ ap (λ (x : ℕ). a.reading.upper * boundary + x) line.address) line.length, search rules)

pub number-requires : goal.number-requires
number-requires c =
    let a = c.args in
    (upper_line_is a.s.now c.requires.0 (sym c.requires.1.kind ∙ c.in-4.is)).inside

pub returns-in-4 : goal.returns-in-4
returns-in-4 c =
    let a = c.args in
    let k = sym c.requires.1.kind ∙ c.in-4.is in
    (after_upper a.s.now a.reading _ k (c.number.ensures.0 ∙ upper_is a.s.now (upper_line_is a.s.now c.requires.0 k).two), c.number.ensures.1)

pub returns-in_default : goal.returns-in_default
returns-in_default c =
    let a = c.args in
    let k = c.requires.1.kind in
    (after_end a.s.now a.reading (λ e. let f = k ∙ e in absurd (omega arith)) (λ e. let f = k ∙ e in absurd (omega arith)), search rules)
