-- Document 01's and document 02's offsets in a sealed checkpoint, each as a number of its own: what the definitions of Checkpoint.antt come to.
use Rattle.std.specs.Prelude.{ℕ, ◌+◌, ◌-◌, ◌/◌, ◌%◌, ◌≤◌, ◌≡◌, List, length}
use Rattle.octets.specs.Limits.{part_most, restart_limit, packet_limit, tag_length}
use Rattle.octets.specs.Octets.{part}
use Rattle.octets.specs.Word.{word_at}
use Rattle.gcm.specs.Gcm.{encrypted}
use Rattle.checkpoint.specs.Checkpoint.{Form, Older, Longer, Checkpoint, own_tag, sealed}

-- the packet numbers of a form
abbrev pub PacketInRange : Form → ℕ → Type 0
PacketInRange Older packet = packet ≡ 0
PacketInRange Longer packet = packet ≤ packet_limit

-- both parts are whole words whose number fits a word of the head, the restarts and the packet number in range, and the previous tag is 16 bytes
pub record InRange (c : Checkpoint) : Type 0 where
  pub open_whole : length c.open_part % 4 ≡ 0
  pub open_small : length c.open_part ≤ part_most
  pub secret_whole : length c.secret % 4 ≡ 0
  pub secret_small : length c.secret ≤ part_most
  pub restarts_small : c.restarts ≤ restart_limit
  pub packet_small : PacketInRange c.form c.packet
  pub previous_long : length c.previous ≡ tag_length

-- document 01's layout
pub record OlderLayout (key : List ℕ) (c : Checkpoint) : Type 0 where
  pub open_words : word_at (sealed key c) 0 ≡ 0x40000000 + length c.open_part / 4
  pub secret_words : word_at (sealed key c) 4 ≡ 0x80000000 + length c.secret / 4
  pub restarts : word_at (sealed key c) 8 ≡ 0xC0000000 + c.restarts
  pub previous : part (sealed key c) 12 16 ≡ c.previous
  pub open_part : part (sealed key c) 28 (length c.open_part) ≡ c.open_part
  pub secret : part (sealed key c) (28 + length c.open_part) (length c.secret) ≡ encrypted key c.nonce c.secret
  pub tag : part (sealed key c) (length (sealed key c) - 16) 16 ≡ own_tag key c
  pub long : length (sealed key c) ≡ 44 + length c.open_part + length c.secret

-- document 02's
pub record LongerLayout (key : List ℕ) (c : Checkpoint) : Type 0 where
  pub packet : word_at (sealed key c) 0 ≡ c.packet
  pub open_words : word_at (sealed key c) 4 ≡ 0x40000000 + length c.open_part / 4
  pub secret_words : word_at (sealed key c) 8 ≡ 0x80000000 + length c.secret / 4
  pub restarts : word_at (sealed key c) 12 ≡ 0xC0000000 + c.restarts
  pub previous : part (sealed key c) 16 16 ≡ c.previous
  pub open_part : part (sealed key c) 32 (length c.open_part) ≡ c.open_part
  pub secret : part (sealed key c) (32 + length c.open_part) (length c.secret) ≡ encrypted key c.nonce c.secret
  pub tag : part (sealed key c) (length (sealed key c) - 16) 16 ≡ own_tag key c
  pub long : length (sealed key c) ≡ 48 + length c.open_part + length c.secret

abbrev pub LayoutOf : Form → List ℕ → Checkpoint → Type 0
LayoutOf Older key c = OlderLayout key c
LayoutOf Longer key c = LongerLayout key c

abbrev pub Layout : List ℕ → Checkpoint → Type 0
Layout key c = LayoutOf c.form key c
