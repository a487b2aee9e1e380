-- `gcm::counter_mode::gctr` meets its contract: after i turns of its loop the first i blocks are written. Assumes nothing.
use Rattle.std.proofs.Common.{◌≡◌, ◌+◌, ◌*◌, ◌≤◌, min, length, drop}
use Rattle.octets.specs.Octets.{put}
use Rattle.aes.specs.Cipher.{cipher}
use Rattle.gcm.specs.Gcm.{CB, GCTRᵢ}
use Rattle.gcm.proofs.counter_mode.gctr.Given as goal

abbrev pub invariant-loop-i : goal.invariant-loop-i
invariant-loop-i l =
    let i = l.i-iterator.count in
    (l.i-iterator.iter.size ≡ 16)
    × (16 * i ≤ length l.text + 15)
    × (l.i-iterator.iter.rest.now ≡ drop (min (16 * i) (length l.text)) l.text)
    × (length l.out ≡ length l.initial.out)
    × (l.cb ≡ CB l.initial.cb i)
    × (l.out ≡ put l.initial.out 0 (GCTRᵢ (cipher l.schedule.rounds l.schedule.keys.now) l.initial.cb l.text i))
