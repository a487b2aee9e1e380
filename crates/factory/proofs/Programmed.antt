-- Memories that hold a first save's checkpoint and nothing else in the ring: what both sides of the theorem come to. Assumes nothing.
use Prim.Native.Nat.{ℕ, ◌≤◌}
use mathlib.Core.Path.{◌≡◌, sym, ap, subst, ◌∙◌}
use mathlib.Core.Bool.{false}
use mathlib.Core.List.{List, ◌++◌}
use lib.ListN.{length, take, drop, take-append-drop}
use lib.Seq.{take-append_seam}
use Rattle.octets.specs.Limits.{key_lengths, fram_limit, part_limit, nonce_length}
use Rattle.ring.specs.Ring.{ring_wrong, slot_at, record_of, At, read_ring}
use Rattle.ring.proofs.RecordLaws.{nonce_of_record}
use Rattle.ring.proofs.FirstLaws.{same_first}
use Rattle.checkpoint.specs.Checkpoint.{Checkpoint, Longer, checkpoint_of, sealed}
use Rattle.checkpoint.specs.Fram.{fram_wrong, half_at}
use Rattle.checkpoint.specs.Half.{stored}
use Rattle.checkpoint.specs.Layout.{InRange}
use Rattle.checkpoint.proofs.FramLaws.{fram_kept}
use Rattle.checkpoint.proofs.SealedLaws.{length_sealed}
use Rattle.checkpoint.proofs.HalfLaws.{read_back}
use Rattle.protocol.specs.Calls.{Setup}
use Rattle.protocol.specs.Operations.{key_wrong}
use Rattle.factory.specs.Exactly.{FirstArguments, checkpoint_length}

-- the checkpoint of a first save
abbrev pub checkpoint_from : FirstArguments → Checkpoint
checkpoint_from f = checkpoint_of f.packet f.open_part f.secret 0 f.starting_tag f.nonce

-- the ring's one record stands in page 0, slot 0 and names half A, which begins with that checkpoint, sealed
pub record Programmed (u : Setup) (ring fram : List ℕ) (f : FirstArguments) : Type 0 where
  pub ring_right : ring_wrong u.sizes.pages u.sizes.slots ring ≡ false
  pub fram_right : fram_wrong fram_limit fram ≡ false
  pub key_right : key_wrong key_lengths (length u.key) ≡ false
  pub range : InRange (checkpoint_from f)
  pub open_small : length f.open_part ≤ part_limit
  pub secret_small : length f.secret ≤ part_limit
  pub nonce_long : length f.nonce ≡ nonce_length
  pub reads : read_ring ring u.sizes.pages u.sizes.slots ≡ At 0 0
  pub slot : slot_at ring u.sizes.slots 0 0 ≡ record_of f.nonce 0
  pub behind : List ℕ
  pub there : half_at fram 0 ≡ sealed u.key (checkpoint_from f) ++ behind

module _ {u : Setup} {ring fram : List ℕ} {f : FirstArguments} (p : Programmed u ring fram f) where
  -- the bytes of half A in the checkpoint's length
  pub first_bytes : take (checkpoint_length f) (half_at fram 0) ≡ sealed u.key (checkpoint_from f)
  first_bytes =
      let whole : List ℕ = sealed u.key (checkpoint_from f) in
      (λ i. take (sym (length_sealed u.key (checkpoint_from f) p.range.previous_long) i) (p.there i)) ∙ take-append_seam whole p.behind

  -- other bytes of the FRAM don't count
  pub moved_to : (ring' fram' : List ℕ) → ring ≡ ring' → length fram ≡ length fram'
      → take (checkpoint_length f) (half_at fram 0) ≡ take (checkpoint_length f) (half_at fram' 0) → Programmed u ring' fram' f
  moved_to ring' fram' e l h =
      let n : ℕ = checkpoint_length f in
      record {
        ring_right = subst (λ (r : List ℕ). ring_wrong u.sizes.pages u.sizes.slots r ≡ false) e p.ring_right;
        fram_right = fram_kept fram_limit fram fram' (sym l) p.fram_right;
        key_right = p.key_right;
        range = p.range;
        open_small = p.open_small;
        secret_small = p.secret_small;
        nonce_long = p.nonce_long;
        reads = subst (λ (r : List ℕ). read_ring r u.sizes.pages u.sizes.slots ≡ At 0 0) e p.reads;
        slot = subst (λ (r : List ℕ). slot_at r u.sizes.slots 0 0 ≡ record_of f.nonce 0) e p.slot;
        behind = drop n (half_at fram' 0);
        there = sym (take-append-drop n (half_at fram' 0)) ∙ ap (λ (l : List ℕ). l ++ drop n (half_at fram' 0)) (sym h ∙ first_bytes);
      }

  -- what is read of them
  pub checkpoint_is : stored Longer u.key f.nonce (half_at fram 0) ≡ checkpoint_from f
  checkpoint_is = ap (λ (l : List ℕ). stored Longer u.key f.nonce l) p.there ∙ read_back u.key (checkpoint_from f) p.behind p.range

  pub nonce_is : take nonce_length (slot_at ring u.sizes.slots 0 0) ≡ f.nonce
  nonce_is = ap (λ (l : List ℕ). take nonce_length l) p.slot ∙ nonce_of_record f.nonce 0 p.nonce_long

-- memories that hold the same first save have the same ring
pub one_ring : {u : Setup} {ring ring' fram fram' : List ℕ} {f : FirstArguments} → Programmed u ring fram f → Programmed u ring' fram' f → ring ≡ ring'
one_ring {u} {ring} {ring'} p q = same_first u.sizes.pages u.sizes.slots ring ring' p.ring_right q.ring_right p.reads q.reads (p.slot ∙ sym q.slot)

-- and memories hold one first save at the most
pub one_save : {u : Setup} {ring fram : List ℕ} {f g : FirstArguments} → Programmed u ring fram f → Programmed u ring fram g → f ≡ g
one_save {u} {ring} {fram} {f} {g} p q = λ i. first_from (same i)
  where
    first_from : Checkpoint → FirstArguments
    first_from c = record { open_part = c.open_part; secret = c.secret; nonce = c.nonce; packet = c.packet; starting_tag = c.previous }

    same : checkpoint_from f ≡ checkpoint_from g
    same = sym (checkpoint_is p) ∙ ap (λ (n : List ℕ). stored Longer u.key n (half_at fram 0)) (sym (nonce_is p) ∙ nonce_is q) ∙ checkpoint_is q
