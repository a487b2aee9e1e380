-- What look and its companion answer after any list.
use Prim.Native.Nat.{ℕ, ◌+◌, ◌*◌, ◌≤◌}
use mathlib.Core.Path.{◌≡◌, sym, subst, ◌∙◌}
use mathlib.Core.Bool.{true, false}
use mathlib.Core.Logic.{inl, inr}
use mathlib.Core.Option.{none, some}
use native.Mathlib.Omega.{arith}
use mathlib.Core.List.{List}
use lib.ListN.{length}
use Rattle.octets.specs.Octets.{part, blank}
use Rattle.stops.specs.Stops.{first_of}
use Rattle.ring.specs.Ring.{Newest, half_named, newest_record}
use Rattle.ring.proofs.RingLaws.{read_blank}
use Rattle.ring.proofs.FoundLaws.{found, not_blank, not_unreadable}
use Rattle.checkpoint.specs.Checkpoint.{Form, Checkpoint, head_length}
use Rattle.checkpoint.specs.Half.{read_as, open_length, stored_open}
use Rattle.checkpoint.specs.Fram.{fram_wrong, half_length}
use Rattle.checkpoint.proofs.HalfLaws.{open_stretched}
use Rattle.protocol.specs.Types.{Restarts}
use Rattle.protocol.specs.Calls.{Setup}
use Rattle.protocol.specs.Operations.{key_wrong, newest_half, look_stop, look_by, look, stretch_by, open_stretch, stretch_of}
use Rattle.protocol.specs.History.{State}
use Rattle.protocol.specs.Recovery.{looks, Seen}
use Rattle.protocol.proofs.Invariant.{ReadBy, DurableAt, Holds}
use Rattle.protocol.proofs.Reading.{reads, head_found, tag_found, restarts_found, read_found, open_length_found, open_found}
use Rattle.protocol.proofs.PowerUps.{Entry}

module _ (u : Setup) (s : State) (inv : Holds u s) (framed : fram_wrong s.firmware.largest_fram s.fram ≡ false) (keyed : key_wrong s.firmware.key_lengths (length u.key) ≡ false) where
  look_blank : blank s.ring ≡ true → look_stop s.firmware s.ring s.fram (looks u) ≡ some 6
  unfolding look_stop first_of
  look_blank b = rw (inv.ring_right, framed, keyed, read_blank u.sizes.pages u.sizes.slots s.ring inv.ring_right b)

  module _ (c : Checkpoint) (r : Entry u s c) where
    abbrev n : Newest
    n = found u.sizes.pages u.sizes.slots s.journal.count s.journal.owed

    read : ReadBy s.firmware c
    read = inv.reads_entry c r.entry_is

    look_passes : look_stop s.firmware s.ring s.fram (looks u) ≡ none
    unfolding look_stop first_of
    look_passes =
        rw (
          inv.ring_right,
          framed,
          keyed,
          reads inv.fram_right r,
          not_blank s.journal.owed u.sizes.pages u.sizes.slots s.journal.count,
          not_unreadable s.journal.owed u.sizes.pages u.sizes.slots s.journal.count,
          head_found inv.fram_right r s.firmware read,
          tag_found inv.fram_right r s.firmware read,
        )

    restarts_seen : look s.firmware s.ring s.fram (looks u) ≡ Restarts c.restarts
    unfolding look look_by
    restarts_seen = rw (look_passes, reads inv.fram_right r, restarts_found inv.fram_right r s.firmware read)

    abbrev half : List ℕ
    half = newest_half s.ring s.fram u.sizes.slots n

    open_fits : head_length (read_as s.firmware.form half) + open_length (read_as s.firmware.form half) half ≤ half_length s.fram
    open_fits = rw (open_length_found inv.fram_right r s.firmware read) (subst (λ (f : Form). head_length f + length c.open_part ≤ half_length s.fram) (sym (read_found inv.fram_right r s.firmware read)) (omega (arith, r.good.fits)))

    stretch_seen : part s.fram (half_named (newest_record s.ring u.sizes.slots n) * half_length s.fram + head_length (read_as s.firmware.form half)) (open_length (read_as s.firmware.form half) half)
        ≡ stored_open (read_as s.firmware.form half) half
    unfolding newest_half
    stretch_seen = open_stretched (read_as s.firmware.form half) s.fram (half_named (newest_record s.ring u.sizes.slots n)) open_fits

    open_seen : stretch_of s.fram (open_stretch s.firmware s.ring s.fram (looks u)) ≡ c.open_part
    unfolding open_stretch stretch_by stretch_of
    open_seen = rw (look_passes, reads inv.fram_right r) (stretch_seen ∙ open_found inv.fram_right r s.firmware read)

  pub seen : Seen u s
  unfolding look look_by
  seen = go inv.durable
    where
      go : DurableAt u s s.ring s.fram s.journal.owed → Seen u s
      go (inl x) = record {
        nothing = λ q. rw (look_blank x.ring_blank);
        restarts = λ c q. absurd (let p = x.no_entry in let z : ◌≡◌ {A = ℕ} 0 1 = cc in omega arith);
        open_part = λ c q. absurd (let p = x.no_entry in let z : ◌≡◌ {A = ℕ} 0 1 = cc in omega arith);
      }
      go (inr (c, r)) = record {
        nothing = λ q. absurd (let p = r.entry_is in let z : ◌≡◌ {A = ℕ} 0 1 = cc in omega arith);
        restarts = λ d q. let p = r.entry_is in let e : c ≡ d = cc in subst (λ (y : Checkpoint). look s.firmware s.ring s.fram (looks u) ≡ Restarts y.restarts) e (restarts_seen c r);
        open_part = λ d q. let p = r.entry_is in let e : c ≡ d = cc in subst (λ (y : Checkpoint). stretch_of s.fram (open_stretch s.firmware s.ring s.fram (looks u)) ≡ y.open_part) e (open_seen c r);
      }
