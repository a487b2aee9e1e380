-- `aes::words::rotate` meets its contract.
-- Assumes nothing.
use Rattle.std.proofs.Common.{◌≡◌, ℕ, ◌*◌, ◌/◌, ◌%◌, ◌^◌, ap, ◌∙◌, arith}
use lib.Bits.{bit_or, or_shifted}
use Rattle.aes.specs.Word.{bytes_of}
use Rattle.aes.proofs.Columns.{rotate_bytes}
use Rattle.aes.proofs.words.rotate.Goals as goal

pub returns : goal.returns
returns c =
    let x = c.args.x in
    let fits = c.ranges.x.fits in
    let e : x * 2 ^ 8 % 2 ^ 32 ≡ x % 16777216 * 2 ^ 8 = omega arith in
    ap bytes_of (c.rotate_left.ensures ∙ ap (λ (y : ℕ). bit_or y (x / 16777216)) e ∙ or_shifted (x % 16777216) 8 (x / 16777216) (omega arith)) ∙ rotate_bytes x fits
