-- Each bench value by computing, and M13's by the laws of lengths.
use Rattle.std.proofs.Common.{◌≡◌, refl, ℕ, length}
use lib.ListN.{length-replicate}
use Rattle.octets.specs.Octets.{part, put, same, blank, number, bytes}
use Rattle.octets.specs.Search.{first_below}
use Rattle.octets.specs.Word.{word_at, kind_of, value_of, word, top_word}
use Rattle.sbox.specs.Field.{xtime, times, power, inverse, affine, turned, sub_byte, ◌•◌}
use Rattle.ring.specs.Ring.{ring_wrong, slot_at, page_at, newest_record, nonce_in, nonce_used, not_newest, is_record, half_named, next_page, used_from, records, filled, alone, followed, reading, read_ring, target_page, target_slot, page_before, record_put}
use Rattle.ring_shapes.specs.Shapes.{from_slot, from_page, shapes, with_records, ring_of, ring_number, size_wrong, past_last, shape_stop}
use Rattle.chain.specs.Chain.{tag_at, entry_with, own_twice, first_entry, place, ends_early, order, entries_wrong, too_short, chain_stop, ordered_by, chain_order}
use Rattle.settings.specs.Settings as settings
use Rattle.settings.specs.Settings.{list_wrong, kind_wrong, kinds_wrong, value_wrong, values_wrong, list_stop, read_stop, write_stop, changed, written_by, settings_write}
use Rattle.stops.specs.Stops.{first_of}
use Rattle.gcm.specs.Calls.{key_wrong}
use Rattle.checkpoint.specs.Fram.{fram_wrong, half_length, half_at}
use Rattle.checkpoint.specs.Checkpoint.{Older, Longer, words, part_wrong, sealed}
use Rattle.checkpoint.specs.Half.{form_of, kind_at, value_at, open_length, secret_length, stored_restarts, kinds_from, stored_length, good_head}
use Rattle.checkpoint.proofs.SealedLaws.{length_sealed}
use Rattle.bench_values.specs.Values.{M13, key, zeros, table, orders, one_save, keys, rings, new_units, chains, many_entries, lists_read, lists_written, Agree, Values}
use Rattle.protocol.specs.Operations.{parts_wrong, state_wrong, staging_wrong, packet_wrong, session_wrong, save_restarts, larger, newest_half, from_wrong, stale, ring_lines, save_stop, half_lines, power_up_stop, look_stop}
use Rattle.protocol.specs.Journal.{stores_of, erase_if}
use Rattle.factory.specs.Factory.{not_first, factory_stop}

older_long : length (sealed key (M13 Older)) ≡ 56
older_long = length_sealed key (M13 Older) refl

longer_long : length (sealed key (M13 Longer)) ≡ 60
longer_long = length_sealed key (M13 Longer) refl

zeros_long : (n : ℕ) → length (zeros n) ≡ n
unfolding zeros
zeros_long n = length-replicate {A = ℕ} n 0

table_agrees : Agree table
unfolding read_ring reading used_from alone followed filled records is_record half_named next_page page_at target_page target_slot blank part number word_at kind_of value_of sub_byte inverse affine turned power times xtime ◌•◌ stores_of erase_if from_wrong ring_lines save_stop power_up_stop good_head kinds_from kind_at value_at open_length secret_length stored_restarts stored_length words word bytes first_of ring_wrong fram_wrong half_length parts_wrong state_wrong part_wrong staging_wrong packet_wrong session_wrong save_restarts larger key_wrong
table_agrees = rw (older_long, longer_long, zeros_long 262144, zeros_long 32768, zeros_long 262152, zeros_long 32769, zeros_long 32772, zeros_long 0, zeros_long 96, zeros_long 32767, zeros_long 40000, zeros_long 131072, zeros_long 4096, zeros_long 131080, zeros_long 4097, zeros_long 4100, zeros_long 88, zeros_long 4095)

orders_agree : Agree orders
unfolding read_ring reading used_from alone followed filled records is_record half_named next_page page_at blank part number word_at kind_of half_lines power_up_stop newest_half newest_record slot_at nonce_used nonce_in same half_at form_of good_head kinds_from kind_at value_at value_of open_length secret_length stored_restarts stored_length first_of ring_wrong fram_wrong half_length state_wrong staging_wrong key_wrong
orders_agree = rw (zeros_long 96, zeros_long 32768)

one_save_agrees : Agree one_save
unfolding read_ring reading used_from alone followed filled records is_record half_named next_page page_at blank part number word_at kind_of value_of newest_record slot_at nonce_used nonce_in not_newest stale session_wrong same from_wrong ring_lines save_stop first_of ring_wrong fram_wrong half_length parts_wrong part_wrong packet_wrong staging_wrong key_wrong
one_save_agrees = rw (zeros_long 96)

keys_agree : Agree keys
unfolding read_ring reading used_from page_at blank part from_wrong ring_lines save_stop power_up_stop look_stop first_of ring_wrong fram_wrong half_length parts_wrong part_wrong packet_wrong state_wrong staging_wrong key_wrong
keys_agree = rw (zeros_long 0, zeros_long 15, zeros_long 16, zeros_long 17, zeros_long 24, zeros_long 31, zeros_long 32, zeros_long 33, zeros_long 96, zeros_long 32768)

rings_agree : Agree rings
unfolding ring_number ring_of with_records shapes from_page from_slot shape_stop size_wrong past_last first_of ring_wrong record_put put page_before
rings_agree = rw (zeros_long 96, zeros_long 144, zeros_long 192, zeros_long 128, zeros_long 256, zeros_long 160, zeros_long 240, zeros_long 95, zeros_long 97)

new_units_agree : Agree new_units
unfolding read_ring reading used_from alone followed filled records is_record half_named next_page page_at blank part number word_at kind_of value_of look_stop newest_half newest_record slot_at half_at form_of good_head kinds_from kind_at value_at open_length secret_length stored_restarts stored_length first_of ring_wrong fram_wrong half_length key_wrong factory_stop not_first
new_units_agree = rw (zeros_long 16, zeros_long 24, zeros_long 32)

chains_agree : Agree chains
unfolding chain_order ordered_by chain_stop entries_wrong too_short own_twice ends_early order place first_entry entry_with first_below tag_at part put same first_of
chains_agree = refl

many_entries_agree : Agree many_entries
unfolding chain_stop entries_wrong too_short first_of
many_entries_agree = rw (zeros_long 2048, zeros_long 2049, zeros_long 2080)

lists_read_agree : Agree lists_read
unfolding read_stop list_stop list_wrong kinds_wrong kind_wrong values_wrong value_wrong settings.place first_below word_at number top_word bytes first_of
lists_read_agree = refl

lists_written_agree : Agree lists_written
unfolding settings_write written_by write_stop changed list_stop list_wrong kinds_wrong kind_wrong values_wrong value_wrong settings.place first_below word_at number top_word bytes put first_of
lists_written_agree = refl

pub values : Values
unfolding Values
values = (table_agrees, orders_agree, one_save_agrees, keys_agree, rings_agree, new_units_agree, chains_agree, many_entries_agree, lists_read_agree, lists_written_agree)
