-- `hex_digits::decode` meets its contract: the first i bytes are decoded. Assumes nothing.
use Rattle.std.proofs.Common.{◌≡◌, ◌*◌, ℕ, arith, length, length-take}
use Rattle.octets.proofs.Laws.{put_front}
use Rattle.octets.proofs.Tables.{is_table, length_table}
use Rattle.hex_digits.specs.Digits.{pair, decoded}
use Rattle.hex_digits.proofs.decode.Goals as goal

pub returns : goal.returns
returns c =
    let a = c.args in
    let k = c.loop-i in
    let long : length k.byte-items ≡ a.n = omega (arith, length-take {A = ℕ}) in
    let e : k.byte-items ≡ decoded a.s.now a.n = is_table a.n (λ i. pair a.s.now (2 * i)) k.byte-items long (λ i h. k.invariant i (omega arith)) in
    rw (put_front, length_table, e)
