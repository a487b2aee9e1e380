-- The operations of `first_firmware` are document 01's: its lists of stops, written out as its table has them, its limits included, and its checkpoints.
-- Its first save and save are the one save with a starting tag and with a session.
use Rattle.std.specs.Prelude.{ℕ, ◌+◌, ◌%◌, ◌≡◌, Bool, not, ◌||◌, List, [], ◌∷◌, length, take, eqb, leb, ltb}
use Rattle.octets.specs.Limits.{restart_limit, nonce_length}
use Rattle.octets.specs.Octets.{blank}
use Rattle.stops.specs.Stops.{first_of}
use Rattle.ring.specs.Ring.{ring_wrong, is_blank, is_unreadable, is_pending, newest_record, nonce_used}
use Rattle.checkpoint.specs.Fram.{fram_wrong, half_length}
use Rattle.checkpoint.specs.Checkpoint.{Older, Checkpoint, head_words, part_wrong, own_tag, sealed_length}
use Rattle.checkpoint.specs.Half.{stored_restarts, good_head, good_tag}
use Rattle.protocol.specs.Types.{first_firmware}
use Rattle.protocol.specs.Calls.{SaveArguments, PowersUp, Looks, Advances}
use Rattle.protocol.specs.Operations.{nonce_wrong, tag_wrong, newest_in, newest_half, staging_wrong, stale, phase_wrong, save_checkpoint, resumed, save_stop, power_up_stop, look_stop, advance_stop}
use Rattle.protocol.specs.Entries.{FirstSave, NextSave, as_first, as_next}

-- stop 3 of a key
abbrev pub wrong_key : List ℕ → Bool
wrong_key key = not (eqb (length key) 32)

-- stop 4 of both parts: the checkpoint is 44 bytes and both parts
abbrev pub wrong_parts : List ℕ → SaveArguments → Bool
wrong_parts fram a =
    part_wrong 4096 a.open_part || part_wrong 4096 a.secret || ltb (half_length fram) (44 + length a.open_part + length a.secret) || staging_wrong a.staging fram

pub record OlderStops (ring fram : List ℕ) : Type 0 where
  pub first_save : (a : FirstSave) → save_stop first_firmware ring fram (as_first a) ≡ first_of (
      (1, ring_wrong a.arguments.sizes.pages a.arguments.sizes.slots ring) ∷
      (2, fram_wrong 131072 fram) ∷
      (3, wrong_key a.arguments.key || nonce_wrong (length a.arguments.nonce) || tag_wrong (length a.starting_tag)) ∷
      (4, wrong_parts fram a.arguments) ∷
      (5, not (blank ring)) ∷ [])
  pub save : (a : NextSave) → let n = newest_in ring a.arguments.sizes in save_stop first_firmware ring fram (as_next a) ≡ first_of (
      (1, ring_wrong a.arguments.sizes.pages a.arguments.sizes.slots ring) ∷
      (2, fram_wrong 131072 fram) ∷
      (3, wrong_key a.arguments.key || nonce_wrong (length a.arguments.nonce)) ∷
      (4, wrong_parts fram a.arguments) ∷
      (6, is_blank n) ∷
      (7, is_unreadable n) ∷
      (8, stale ring a.arguments.sizes.slots n a.session) ∷
      (9, is_pending n) ∷
      (10, nonce_used ring a.arguments.sizes.slots n a.arguments.nonce) ∷ [])
  pub power_up : (a : PowersUp) → let n = newest_in ring a.sizes in let half = newest_half ring fram a.sizes.slots n in power_up_stop first_firmware ring fram a ≡ first_of (
      (1, ring_wrong a.sizes.pages a.sizes.slots ring) ∷
      (2, fram_wrong 131072 fram) ∷
      (3, wrong_key a.key || nonce_wrong (length a.nonce)) ∷
      (4, staging_wrong a.staging fram || ltb (length a.state) 4096) ∷
      (6, is_blank n) ∷
      (7, is_unreadable n) ∷
      (10, nonce_used ring a.sizes.slots n a.nonce) ∷
      (11, not (good_head 4096 Older half)) ∷
      (12, not (good_tag Older a.key (take nonce_length (newest_record ring a.sizes.slots n)) half)) ∷
      (13, eqb (stored_restarts Older half) restart_limit) ∷ [])
  pub look : (a : Looks) → let n = newest_in ring a.sizes in let half = newest_half ring fram a.sizes.slots n in look_stop first_firmware ring fram a ≡ first_of (
      (1, ring_wrong a.sizes.pages a.sizes.slots ring) ∷
      (2, fram_wrong 131072 fram) ∷
      (3, wrong_key a.key) ∷
      (6, is_blank n) ∷
      (7, is_unreadable n) ∷
      (11, not (good_head 4096 Older half)) ∷
      (12, not (good_tag Older a.key (take nonce_length (newest_record ring a.sizes.slots n)) half)) ∷ [])
  pub advance : (a : Advances) → advance_stop first_firmware ring fram a ≡ first_of (
      (1, ring_wrong a.sizes.pages a.sizes.slots ring) ∷
      (2, fram_wrong 131072 fram) ∷
      (4, staging_wrong a.staging fram) ∷ (
        14,
        not (eqb (a.job.length % 4) 0) || ltb a.job.length 44 || ltb (half_length fram) a.job.length || leb a.sizes.pages a.job.page ||
            leb a.sizes.slots a.job.slot || ltb 1 a.job.half || phase_wrong a.job.phase a.job a.sizes ring,
      ) ∷ [])

-- a checkpoint of document 01, in its words
abbrev pub older : List ℕ → List ℕ → ℕ → List ℕ → List ℕ → Checkpoint
older open_part secret restarts previous nonce =
    record { form = Older; packet = 0; open_part = open_part; secret = secret; restarts = restarts; previous = previous; nonce = nonce }

pub record OlderCheckpoints : Type 0 where
  pub head : (packet open_words secret_words restarts : ℕ) → head_words Older packet open_words secret_words restarts ≡ (1, open_words) ∷ (2, secret_words) ∷ (3, restarts) ∷ []
  pub long : (m n : ℕ) → sealed_length Older m n ≡ 44 + m + n
  pub first_save : (a : FirstSave) → save_checkpoint Older (as_first a) ≡ older a.arguments.open_part a.arguments.secret 0 a.starting_tag a.arguments.nonce
  pub save : (a : NextSave) → save_checkpoint Older (as_next a) ≡ older a.arguments.open_part a.arguments.secret 0 a.session.tag a.arguments.nonce
  pub power_up : (key nonce : List ℕ) (c : Checkpoint) → c.packet ≡ 0 → resumed Older key nonce c ≡ older c.open_part c.secret (c.restarts + 1) (own_tag key c) nonce

unfoldable pub OlderIs : Type 0
OlderIs = ((ring fram : List ℕ) → OlderStops ring fram) × OlderCheckpoints
