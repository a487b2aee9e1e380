-- What the head of a half says.
use Rattle.std.specs.Prelude.{◌≡◌, Bool, ℕ, List}
use Rattle.octets.specs.Limits.{part_limit}
use Rattle.octets.specs.Octets.{Bytes}
use Rattle.checkpoint.specs.Checkpoint.{head_length}
use Rattle.checkpoint.specs.Half.{form_of, stored_packet, open_length, secret_length, stored_restarts, good_head}

pub record HeadOf (half : List ℕ) (is_good : Bool) (start packet open_part secret restarts : ℕ) : Type 0 where
  pub bytes : Bytes half
  pub good : good_head part_limit (form_of half) half ≡ is_good
  pub start_is : start ≡ head_length (form_of half)
  pub packet_is : packet ≡ stored_packet (form_of half) half
  pub open_is : open_part ≡ open_length (form_of half) half
  pub secret_is : secret ≡ secret_length (form_of half) half
  pub restarts_is : restarts ≡ stored_restarts (form_of half) half
