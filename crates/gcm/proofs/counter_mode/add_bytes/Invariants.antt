-- `gcm::counter_mode::add_bytes` meets its contract: the first i bytes are written. Assumes nothing.
use Rattle.std.proofs.Common.{◌≡◌, ◌≤◌, length, drop}
use lib.Seq.{paste}
use Rattle.gcm.specs.Gcm.{add_bytes}
use Rattle.gcm.proofs.counter_mode.add_bytes.Given as goal

abbrev pub invariant-loop-i : goal.invariant-loop-i
invariant-loop-i l =
    let i = l.i-iterator.count in
    (i ≤ length l.text)
    × (l.i-iterator.iter.a.rest.now ≡ drop i l.text)
    × (l.i-iterator.iter.b.rest.now ≡ drop i l.stream)
    × (length l.out ≡ length l.initial.out)
    × (l.out ≡ paste l.initial.out 0 (add_bytes l.text l.stream) i)
