-- `hex_lines::write::two_bytes` meets its contract. Assumes nothing.
use Rattle.std.proofs.Common.{◌≡◌, [], ◌∷◌, ◌/◌, ◌%◌, ap, ◌∙◌, arith}
use Rattle.octets.specs.Octets.{bytes}
use Rattle.hex_lines.proofs.write.two_bytes.Goals as goal

pub returns : goal.returns
unfolding bytes
returns c =
    let n = c.args.n in
    let low : n % 256 ≡ n / 1 % 256 = omega arith in
    c.to_be_bytes.ensures ∙ ap (λ l. n / 256 % 256 ∷ l ∷ []) low
