-- What a power-up after a list stops with, whatever its nonce. Assumes nothing.
use Prim.Native.Nat.{ℕ}
use mathlib.Core.Path.{◌≡◌, ap, ◌∙◌}
use mathlib.Core.Bool.{Bool, true, false, ◌||◌}
use mathlib.Core.Option.{Option, some}
use mathlib.Core.List.{[], ◌∷◌, ◌++◌}
use lib.ListN.{length}
use lib.Dec.{eqb, ltb}
use borrow.Author.Tests.{eq-eqb, le-ltb}
use Rattle.octets.specs.Limits.{restart_limit, nonce_length}
use Rattle.octets.specs.Octets.{blank}
use Rattle.stops.specs.Stops.{first_of}
use Rattle.ring.specs.Ring.{nonce_used}
use Rattle.ring.proofs.RingLaws.{read_blank}
use Rattle.ring.proofs.FoundLaws.{not_blank, not_unreadable}
use Rattle.checkpoint.specs.Checkpoint.{Checkpoint, sealed, sealed_length}
use Rattle.checkpoint.proofs.SealedLaws.{length_sealed, length_own_tag}
use Rattle.checkpoint.specs.Fram.{fram_wrong, half_length}
use Rattle.protocol.specs.Types.{Order, Firmware}
use Rattle.protocol.specs.Calls.{PowersUp, Setup, powered_up}
use Rattle.protocol.specs.Operations.{newest_in, in_turn, half_lines, key_wrong, nonce_wrong, staging_wrong, state_wrong, power_up_stop, power_up}
use Rattle.protocol.specs.History.{State, fresh}
use Rattle.protocol.specs.Journal.{power_up_draft}
use Rattle.protocol.specs.Orders.{ordered, AnyNonce}
use Rattle.protocol.specs.Recovery.{start_answer, Exact}
use Rattle.protocol.proofs.Exact.{exact}
use Rattle.protocol.proofs.Invariant.{Holds}
use Rattle.protocol.proofs.Reading.{reads, head_found, tag_found, restarts_found, outgrows_found}
use Rattle.protocol.proofs.PowerUps.{power_call, Entry}

-- the checkpoint c, sealed anew, outgrows the half
abbrev pub large : State → Checkpoint → Bool
large s c = ltb (half_length s.fram) (sealed_length s.firmware.form (length c.open_part) (length c.secret))

-- its length then
pub resealed_long : (u : Setup) (s : State) (a : PowersUp) (c : Checkpoint)
    → length (sealed u.key (power_up_draft s.firmware.form u.key a.nonce c)) ≡ sealed_length s.firmware.form (length c.open_part) (length c.secret)
unfolding power_up_draft
resealed_long u s a c = length_sealed u.key (power_up_draft s.firmware.form u.key a.nonce c) (length_own_tag u.key c)

pub answer_is : (firmware : Firmware) (s : State) (a : PowersUp) (o : Option ℕ) → power_up_stop firmware s.ring s.fram a ≡ o
    → (power_up firmware s.ring s.fram a).answer ≡ start_answer o
unfolding Exact fresh
answer_is firmware s a o e = (exact (fresh firmware s.ring s.fram) (powered_up a)).0 ∙ ap start_answer e

module _ (u : Setup) (s : State) (inv : Holds u s) (a : PowersUp) (keyed : key_wrong s.firmware.key_lengths (length u.key) ≡ false)
    (framed : fram_wrong s.firmware.largest_fram s.fram ≡ false) (l : AnyNonce u s (power_call u a)) where
  sizes_pass : key_wrong s.firmware.key_lengths (length u.key) || nonce_wrong (length a.nonce) ≡ false
  sizes_pass = rw (keyed, eq-eqb (length a.nonce) nonce_length l.nonce_long)

  buffers_pass : (o : Order) → staging_wrong a.staging s.fram || state_wrong (ordered o s.firmware) a.state ≡ false
  unfolding staging_wrong state_wrong
  buffers_pass o = rw (le-ltb (length a.staging) (half_length s.fram) l.staging, le-ltb (length a.state) s.firmware.longest_part l.state)

  pub stop_blank : blank s.ring ≡ true → power_up_stop s.firmware s.ring s.fram (power_call u a) ≡ some 6
  unfolding power_up_stop first_of
  stop_blank b = rw (inv.ring_right, framed, sizes_pass, buffers_pass s.firmware.order, read_blank u.sizes.pages u.sizes.slots s.ring inv.ring_right b)

  -- of the stops about the half only 13 can hold; in either order
  pub stop_entry : (o : Order) (c : Checkpoint) → Entry u s c
      → power_up_stop (ordered o s.firmware) s.ring s.fram (power_call u a) ≡ first_of (in_turn o (10, nonce_used s.ring u.sizes.slots (newest_in s.ring u.sizes) a.nonce)
      ((11, false) ∷ (12, false) ∷ (13, eqb c.restarts restart_limit) ∷ []) ++ (4, large s c) ∷ [])
  unfolding half_lines power_up_stop first_of
  stop_entry o c r =
      rw (
        inv.ring_right,
        framed,
        sizes_pass,
        buffers_pass o,
        reads inv.fram_right r,
        not_blank s.journal.owed u.sizes.pages u.sizes.slots s.journal.count,
        not_unreadable s.journal.owed u.sizes.pages u.sizes.slots s.journal.count,
        head_found inv.fram_right r s.firmware (inv.reads_entry c r.entry_is),
        tag_found inv.fram_right r s.firmware (inv.reads_entry c r.entry_is),
        restarts_found inv.fram_right r s.firmware (inv.reads_entry c r.entry_is),
        outgrows_found inv.fram_right r s.firmware (inv.reads_entry c r.entry_is),
      )
