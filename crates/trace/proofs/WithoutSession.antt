-- A save without a session (document 02, A.4): the keeper's own save, given the session of zeros, refuses with the number that the trace prints.
-- Assumes nothing.
use Rattle.std.proofs.Common.{ℕ, ◌^◌, ◌<◌, ◌≡◌, refl, sym, ap, ◌∙◌, Bool, true, false, cond, ◌||◌, inl, inr, List, [], arith, length, eq-eqb, le-ltb}
use mathlib.Core.Option.{some}
use Rattle.octets.specs.Limits.{fram_limit, nonce_length, packet_limit}
use Rattle.octets.specs.Octets.{blank, bytes}
use Rattle.octets.proofs.Numbers.{length_bytes}
use Rattle.stops.specs.Stops.{first_of}
use Rattle.ring.specs.Ring.{read_ring, is_blank, is_unreadable}
use Rattle.ring.proofs.RingLaws.{read_blank}
use Rattle.ring.proofs.FoundLaws.{not_blank, not_unreadable}
use Rattle.checkpoint.specs.Fram.{fram_wrong, half_length}
use Rattle.checkpoint.specs.Checkpoint.{Longer, part_wrong}
use Rattle.protocol.specs.Types.{Stopped, this_firmware}
use Rattle.protocol.specs.Calls.{from_session}
use Rattle.protocol.specs.Operations.{nonce_wrong, staging_wrong, parts_wrong, packet_wrong, begin, no_session, from_wrong, ring_lines, save_stop, save}
use Rattle.protocol.specs.History.{State}
use Rattle.protocol.proofs.Facts.{no_fact}
use Rattle.protocol.proofs.Invariant.{DurableAt, Holds}
use Rattle.protocol.proofs.Reading.{reads}
use Rattle.protocol.proofs.FreeResults.{no_session_stale}
use Rattle.trace.specs.Trace.{bench_pages, bench_slots, bench_sizes, fram_length, bench_staging, nonce_of, saving, key_refused}
use Rattle.trace.specs.Rule.{bench_setup}

module _ (key : List ℕ) (right : key_refused key ≡ false) (s : State) (inv : Holds (bench_setup key) s) (long : length s.fram ≡ fram_length) (v : ℕ) (small : v < 2 ^ 28) where
  lengths_pass : key_refused key || nonce_wrong (length (nonce_of v)) ≡ false
  lengths_pass = rw (right, eq-eqb (length (nonce_of v)) nonce_length (length_bytes nonce_length v))

  parts_pass : parts_wrong this_firmware [] (bytes 4 v) s.fram || staging_wrong bench_staging s.fram ≡ false
  unfolding parts_wrong part_wrong staging_wrong half_length
  parts_pass = rw (length_bytes 4 v, long)

  fram_passes : fram_wrong fram_limit s.fram ≡ false
  unfolding fram_wrong
  fram_passes = rw long

  packet_passes : packet_wrong Longer v ≡ false
  unfolding packet_wrong
  packet_passes = le-ltb packet_limit v (omega arith)

  stop_blank : blank s.ring ≡ true → save_stop this_firmware s.ring s.fram (saving key v bench_staging (from_session no_session)) ≡ some 6
  unfolding save_stop from_wrong ring_lines first_of
  stop_blank b = rw (inv.ring_right, fram_passes, lengths_pass, parts_pass, packet_passes, read_blank bench_pages bench_slots s.ring inv.ring_right b)

  stop_recorded : is_blank (read_ring s.ring bench_pages bench_slots) ≡ false → is_unreadable (read_ring s.ring bench_pages bench_slots) ≡ false
      → save_stop this_firmware s.ring s.fram (saving key v bench_staging (from_session no_session)) ≡ some 8
  unfolding save_stop from_wrong ring_lines first_of
  stop_recorded b u =
      rw (inv.ring_right, fram_passes, lengths_pass, parts_pass, packet_passes, b, u, no_session_stale s.ring bench_sizes inv.ring_right b u)

  answer_is : (x : ℕ) → save_stop this_firmware s.ring s.fram (saving key v bench_staging (from_session no_session)) ≡ some x → (save this_firmware s.ring s.fram (saving key v bench_staging (from_session no_session))).answer ≡ Stopped x
  unfolding save begin
  answer_is x e = rw e

  blank_not : is_blank (read_ring s.ring bench_pages bench_slots) ≡ false → (b : Bool) → blank s.ring ≡ b → b ≡ false
  blank_not e false q = refl
  blank_not e true q = no_fact (sym (ap is_blank (read_blank bench_pages bench_slots s.ring inv.ring_right q)) ∙ e)

  pub without_session : (save this_firmware s.ring s.fram (saving key v bench_staging (from_session no_session))).answer ≡ Stopped (cond (blank s.ring) 6 8)
  without_session = go inv.durable
    where
      go : DurableAt (bench_setup key) s s.ring s.fram s.journal.owed → (save this_firmware s.ring s.fram (saving key v bench_staging (from_session no_session))).answer ≡ Stopped (cond (blank s.ring) 6 8)
      go (inl x) = answer_is 6 (stop_blank x.ring_blank) ∙ ap (λ (b : Bool). Stopped (cond b 6 8)) (sym x.ring_blank)
      go (inr (c, r)) =
          let n = reads inv.fram_right r in
          let b : is_blank (read_ring s.ring bench_pages bench_slots) ≡ false = ap is_blank n ∙ not_blank s.journal.owed bench_pages bench_slots s.journal.count in
          let u : is_unreadable (read_ring s.ring bench_pages bench_slots) ≡ false = ap is_unreadable n ∙ not_unreadable s.journal.owed bench_pages bench_slots s.journal.count in
          answer_is 8 (stop_recorded b u) ∙ ap (λ (q : Bool). Stopped (cond q 6 8)) (sym (blank_not b (blank s.ring) refl))
