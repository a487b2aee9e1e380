-- What a first save leaves, run to its end. Assumes nothing.
use Prim.Native.Nat.{ℕ, ◌≤◌}
use mathlib.Core.Path.{◌≡◌, sym, ap, subst, ◌∙◌}
use mathlib.Core.Bool.{Bool, false, ◌||◌}
use mathlib.Core.Option.{none}
use mathlib.Core.List.{List, [], ◌++◌}
use native.Mathlib.Nat.{zero-div, zero-mod}
use native.Mathlib.Omega.{arith}
use lib.ListN.{length, length-append}
use borrow.Author.Tests.{eq-eqb, le-ltb}
use Rattle.octets.specs.Limits.{key_lengths, fram_limit, part_limit, packet_limit, nonce_length, tag_length}
use Rattle.stops.specs.Stops.{first_of}
use Rattle.stops.proofs.Laws.{passes, neither}
use Rattle.ring.specs.Ring.{Newest, newest_record, slot_at, record_of, At}
use Rattle.ring.proofs.SizeLaws.{sized_alike}
use Rattle.ring.proofs.FoundLaws.{found}
use Rattle.checkpoint.specs.Checkpoint.{Longer, Checkpoint, sealed, sealed_length}
use Rattle.checkpoint.specs.Fram.{fram_wrong, half_length, half_at}
use Rattle.checkpoint.proofs.FramLaws.{an_image, fram_kept, half_kept, half_long}
use Rattle.checkpoint.proofs.SealedLaws.{part_passes, length_sealed}
use Rattle.protocol.specs.Types.{Firmware, this_firmware}
use Rattle.protocol.specs.Calls.{Setup, saved}
use Rattle.protocol.specs.Operations.{key_wrong, nonce_wrong, tag_wrong, from_wrong, parts_wrong, staging_wrong, packet_wrong, written_number, number_from, restarts_from, previous_tag, newest_half, save_checkpoint, ring_lines, save_stop}
use Rattle.protocol.specs.Journal.{empty}
use Rattle.protocol.specs.History.{State, fresh}
use Rattle.protocol.specs.Histories.{to_its_end}
use Rattle.protocol.proofs.Invariant.{ReadBy, half_of}
use Rattle.protocol.proofs.Reading.{reads, record_found, half_found, newest_half_is, behind}
use Rattle.protocol.proofs.PowerUps.{Entry}
use Rattle.protocol.proofs.Runs.{Whole, recorded_entry}
use Rattle.protocol.proofs.Histories.{first_save_whole}
use Rattle.factory.specs.Exactly.{FirstArguments, Lent, call, after_save, Leaves, Room}
use Rattle.factory.proofs.Programmed.{checkpoint_from, Programmed, first_bytes, one_ring}

-- the first of all records stands in page 0, slot 0
first_place : (pages slots count : ℕ) (owed : Bool) → count ≡ 1 → owed ≡ false → found pages slots count owed ≡ At 0 0
first_place pages slots count owed e o = (λ i. found pages slots (e i) (o i)) ∙ rw (zero-div slots, zero-mod pages, zero-mod slots)

module _ (u : Setup) (f : FirstArguments) (l : Lent) (e : save_stop this_firmware l.ring l.fram (call u f l.staging) ≡ none) where
  abbrev c : Checkpoint
  c = save_checkpoint Longer (call u f l.staging)

  abbrev t : State
  t = after_save u f l

  pub whole : Whole u (fresh this_firmware l.ring l.fram) c f.nonce
      (let s = fresh this_firmware l.ring l.fram in to_its_end u s (saved (call u f l.staging)))
  whole = first_save_whole u this_firmware l.ring l.fram (call u f l.staging).arguments f.starting_tag e

  entry : Entry u t c
  entry = recorded_entry u t c whole.holds whole.ended.entry

  count_is : t.journal.count ≡ 1
  unfolding fresh empty
  count_is = whole.count

  place : found u.sizes.pages u.sizes.slots t.journal.count t.journal.owed ≡ At 0 0
  place = first_place u.sizes.pages u.sizes.slots t.journal.count t.journal.owed count_is whole.ended.owed

  half_is : half_of t.journal.count ≡ 0
  half_is = ap half_of count_is

  small : ReadBy this_firmware c
  unfolding fresh
  small = subst (λ (x : Firmware). ReadBy x c) whole.passed.firmware (whole.holds.reads_entry c whole.ended.entry)

  slot_is : slot_at t.ring u.sizes.slots 0 0 ≡ record_of f.nonce 0
  unfolding newest_record save_checkpoint
  slot_is =
      sym (ap (λ (n : Newest). newest_record t.ring u.sizes.slots n) place)
      ∙ record_found whole.holds.fram_right entry ∙ ap (record_of f.nonce) half_is

  there : half_at t.fram 0 ≡ sealed u.key c ++ behind whole.holds.fram_right entry
  unfolding newest_half
  there =
      ap (half_at t.fram) (sym (half_found whole.holds.fram_right entry ∙ half_is))
      ∙ newest_half_is whole.holds.fram_right entry

  pub as_long : length (after_save u f l).fram ≡ length l.fram
  unfolding fresh
  as_long = whole.passed.fram_long

  fram_fits : fram_wrong fram_limit t.fram ≡ false
  unfolding save_stop
  fram_fits = fram_kept fram_limit l.fram t.fram as_long (passes _ e).1.0

  key_fits : key_wrong key_lengths (length u.key) ≡ false
  unfolding save_stop
  key_fits = (neither _ _ (neither _ _ (passes _ e).1.1.0).0).0

  -- a session was handed out
  pub handed_out : (after_save u f l).sessions ≡ [] → ⊥
  handed_out none_out = let s = whole.ended.session in let z : ◌≡◌ {A = ℕ} 0 1 = cc in omega arith

  pub left_programmed : Programmed u (after_save u f l).ring (after_save u f l).fram f
  unfolding save_checkpoint written_number number_from restarts_from previous_tag
  left_programmed = record {
    ring_right = whole.holds.ring_right;
    fram_right = fram_fits;
    key_right = key_fits;
    range = entry.good.range;
    open_small = small.1.0;
    secret_small = small.1.1;
    nonce_long = entry.good.nonce_long;
    reads = reads whole.holds.fram_right entry ∙ place;
    slot = slot_is;
    behind = behind whole.holds.fram_right entry;
    there = there;
  }

-- ---- a first save with the same parts, nonce, packet number and starting tag

module _ {u : Setup} {ring fram : List ℕ} {f : FirstArguments} (p : Programmed u ring fram f) (l : Lent) (room : Room l ring fram) where
  -- its checkpoint fits the half
  fits : sealed_length Longer (length f.open_part) (length f.secret) ≤ half_length l.fram
  fits =
      let long = half_long fram 0 (an_image fram_limit fram p.fram_right) (omega arith) in
      let both = ap length p.there ∙ length-append (sealed u.key (checkpoint_from f)) p.behind in
      let whole = length_sealed u.key (checkpoint_from f) p.range.previous_long in
      omega (arith, long, both, whole, half_kept fram l.fram room.fram_long)

  lengths_pass : key_wrong key_lengths (length u.key) || nonce_wrong (length f.nonce) || tag_wrong (length f.starting_tag) ≡ false
  lengths_pass = rw (p.key_right, eq-eqb (length f.nonce) nonce_length p.nonce_long, eq-eqb (length f.starting_tag) tag_length p.range.previous_long)

  buffers_pass : parts_wrong this_firmware f.open_part f.secret l.fram || staging_wrong l.staging l.fram ≡ false
  unfolding parts_wrong staging_wrong
  buffers_pass =
      rw (
        part_passes part_limit f.open_part p.range.open_whole p.open_small,
        part_passes part_limit f.secret p.range.secret_whole p.secret_small,
        le-ltb (half_length l.fram) (sealed_length Longer (length f.open_part) (length f.secret)) fits,
      )
      (le-ltb (length l.staging) (half_length l.fram) (omega (arith, room.staging_long, half_kept fram l.fram room.fram_long)))

  pub begins_again : save_stop this_firmware l.ring l.fram (call u f l.staging) ≡ none
  unfolding save_stop first_of from_wrong ring_lines packet_wrong
  begins_again =
      rw (
        sized_alike u.sizes.pages u.sizes.slots l.ring ring room.ring_long p.ring_right,
        fram_kept fram_limit fram l.fram room.fram_long p.fram_right,
        lengths_pass,
        buffers_pass,
        le-ltb packet_limit f.packet p.range.packet_small,
        room.blank_ring,
      )

  -- it leaves these memories
  pub leaves_again : Leaves u f l ring fram
  leaves_again =
      let left = left_programmed u f l begins_again in
      record {
        as_long = room.fram_long;
        begins = begins_again;
        said_saved = handed_out u f l begins_again;
        this_ring = one_ring left p;
        these_bytes = first_bytes left ∙ sym (first_bytes p);
      }
