-- Memories are accepted exactly if they hold a first save's checkpoint. Assumes nothing.
use Prim.Native.Nat.{ℕ, ◌+◌, ◌*◌}
use mathlib.Core.Path.{◌≡◌, refl, sym, ap, subst, ◌∙◌}
use mathlib.Core.Bool.{Bool, true, false, not, true≢false}
use mathlib.Core.Option.{Option, none, some}
use mathlib.Core.List.{List, ◌++◌}
use native.Mathlib.Omega.{arith}
use lib.ListN.{length, take, drop}
use lib.Dec.{eqb}
use borrow.Author.Tests.{eqb-true, not-false}
use Rattle.octets.specs.Limits.{key_lengths, fram_limit, part_limit, nonce_length, tag_length, slot_length}
use Rattle.octets.specs.Octets.{Bytes, part}
use Rattle.octets.proofs.Laws.{length_part}
use Rattle.octets.proofs.Bytes.{bytes_part}
use Rattle.stops.specs.Stops.{first_of, then_stop}
use Rattle.stops.proofs.Laws.{passes, neither}
use Rattle.gcm.specs.Gcm.{encrypted}
use Rattle.gcm.proofs.Bytes.{encrypted_bytes}
use Rattle.ring.specs.Ring.{Newest, Blank, Unreadable, At, AtPending, ring_wrong, slot_at, half_named, record_of, is_record, is_blank, is_unreadable, is_pending, newest_page, newest_slot, newest_record}
use Rattle.ring.proofs.SizeLaws.{sized}
use Rattle.ring.proofs.PageLaws.{length_slot}
use Rattle.ring.proofs.RecordLaws.{half_named_of}
use Rattle.ring.proofs.NewestLaws.{newest_is_record}
use Rattle.ring.proofs.FirstLaws.{record_again}
use Rattle.checkpoint.specs.Checkpoint.{Form, Older, Longer, Checkpoint, checkpoint_of, words_length, head_length, sealed}
use Rattle.checkpoint.specs.Fram.{fram_wrong, half_length, half_at}
use Rattle.checkpoint.specs.Half.{form_of, open_length, secret_length, good_head, good_tag, stored_packet, stored_previous, stored_open, stored_cipher, stored_restarts, stored_length, stored}
use Rattle.checkpoint.specs.Layout.{InRange}
use Rattle.checkpoint.proofs.StoredLaws.{begins, stored_in_range, stored_small}
use Rattle.checkpoint.proofs.HalfLaws.{form_is, head_passes, tag_passes, restarts_is}
use Rattle.protocol.specs.Types.{this_firmware}
use Rattle.protocol.specs.Calls.{Setup}
use Rattle.protocol.specs.Operations.{key_wrong, newest_in, newest_half, look_stop}
use Rattle.protocol.specs.Recovery.{looks}
use Rattle.factory.specs.Factory.{is_older, not_first, factory_stop}
use Rattle.factory.specs.Exactly.{FirstArguments, OfBytes, AllBytes}
use Rattle.factory.proofs.Programmed.{checkpoint_from, Programmed, nonce_is}

-- ---- memories that hold one are accepted

module _ {u : Setup} {ring fram : List ℕ} {f : FirstArguments} (p : Programmed u ring fram f) where
  abbrev c : Checkpoint
  c = checkpoint_from f

  abbrev half : List ℕ
  half = newest_half ring fram u.sizes.slots (At 0 0)

  names_A : half_named (newest_record ring u.sizes.slots (At 0 0)) ≡ 0
  unfolding newest_record
  names_A = ap half_named p.slot ∙ half_named_of f.nonce 0 p.nonce_long (omega arith)

  half_is : half ≡ sealed u.key c ++ p.behind
  unfolding newest_half
  half_is = ap (half_at fram) names_A ∙ p.there

  form_found : form_of half ≡ Longer
  form_found = ap form_of half_is ∙ form_is u.key c p.behind p.range

  head_found : good_head part_limit (form_of half) half ≡ true
  head_found = (λ i. good_head part_limit (form_found i) (half_is i)) ∙ head_passes u.key c p.behind p.range part_limit p.open_small p.secret_small

  tag_found : good_tag (form_of half) u.key (take nonce_length (newest_record ring u.sizes.slots (At 0 0))) half ≡ true
  unfolding newest_record
  tag_found = (λ i. good_tag (form_found i) u.key (nonce_is p i) (half_is i)) ∙ tag_passes u.key c p.behind p.range

  restarts_found : stored_restarts (form_of half) half ≡ 0
  restarts_found = (λ i. stored_restarts (form_found i) (half_is i)) ∙ restarts_is u.key c p.behind p.range

  look_passes : look_stop this_firmware ring fram (looks u) ≡ none
  unfolding look_stop first_of
  look_passes = rw (p.ring_right, p.fram_right, p.key_right, p.reads, head_found, tag_found)

  pub accepts : factory_stop ring fram (looks u) ≡ none
  unfolding factory_stop not_first
  accepts = rw (look_passes, p.reads, names_A, restarts_found, form_found)

-- ---- memories that are accepted hold one

then_none : (o : Option ℕ) (n : ℕ) (b : Bool) → then_stop o n b ≡ none → (o ≡ none) × (b ≡ false)
then_none (some s) n b e = let z : ◌≡◌ {A = ℕ} 0 1 = cc in absurd (omega arith)
then_none none n true e = let z : ◌≡◌ {A = ℕ} 0 1 = cc in absurd (omega arith)
then_none none n false e = (refl, refl)

-- where stop 19 does not apply
record IsFirst (n : Newest) (half : ℕ) (form : Form) (restarts : ℕ) : Type 0 where
  page : newest_page n ≡ 0
  slot : newest_slot n ≡ 0
  half_A : half ≡ 0
  none_pending : is_pending n ≡ false
  no_restart : restarts ≡ 0
  longer : form ≡ Longer

not_older : (form : Form) → is_older form ≡ false → form ≡ Longer
not_older Older e = absurd (true≢false e)
not_older Longer e = refl

zero_is : (n : ℕ) → not (eqb n 0) ≡ false → n ≡ 0
zero_is n e = eqb-true n 0 (not-false _ e)

is_first : (n : Newest) (half : ℕ) (form : Form) (restarts : ℕ) → not_first n half form restarts ≡ false → IsFirst n half form restarts
unfolding not_first
is_first n h form restarts e =
    let a = neither _ _ e in
    let b = neither _ _ a.0 in
    let c = neither _ _ b.0 in
    let d = neither _ _ c.0 in
    let g = neither _ _ d.0 in
    record {
      page = zero_is _ g.0;
      slot = zero_is _ g.1;
      half_A = zero_is _ d.1;
      none_pending = c.1;
      no_restart = zero_is _ b.1;
      longer = not_older form a.1;
    }

at_first : (n : Newest) → is_blank n ≡ false → is_unreadable n ≡ false → is_pending n ≡ false → newest_page n ≡ 0 → newest_slot n ≡ 0 → n ≡ At 0 0
at_first Blank b r w p s = absurd (true≢false b)
at_first Unreadable b r w p s = absurd (true≢false r)
at_first (At page slot) b r w p s = λ i. At (p i) (s i)
at_first (AtPending page pending) b r w p s = absurd (true≢false w)

-- the first save that half A of these memories holds
abbrev pub held : Setup → (ring fram : List ℕ) → FirstArguments
held u ring fram =
    let half = half_at fram 0 in
    let nonce = take nonce_length (slot_at ring u.sizes.slots 0 0) in
    record {
      open_part = stored_open Longer half;
      secret = encrypted u.key nonce (stored_cipher Longer half);
      nonce = nonce;
      packet = stored_packet Longer half;
      starting_tag = stored_previous Longer half;
    }

module _ (u : Setup) (ring fram : List ℕ) (m : AllBytes u ring fram) where
  slot_bytes : Bytes (slot_at ring u.sizes.slots 0 0)
  unfolding slot_at
  slot_bytes = bytes_part ring (slot_length * (0 * u.sizes.slots + 0)) slot_length m.ring_bytes

  nonce_bytes : Bytes (take nonce_length (slot_at ring u.sizes.slots 0 0))
  unfolding part
  nonce_bytes = bytes_part (slot_at ring u.sizes.slots 0 0) 0 nonce_length slot_bytes

  A_bytes : Bytes (half_at fram 0)
  unfolding half_at
  A_bytes = bytes_part fram (0 * half_length fram) (half_length fram) m.fram_bytes

  pub held_bytes : OfBytes (held u ring fram)
  unfolding stored_open stored_cipher stored_previous
  held_bytes =
      let A = half_at fram 0 in
      let nonce = take nonce_length (slot_at ring u.sizes.slots 0 0) in
      record {
        open_part = bytes_part A (head_length Longer) (open_length Longer A) A_bytes;
        secret = encrypted_bytes u.key nonce (stored_cipher Longer A) m.key_bytes nonce_bytes
            (bytes_part A (head_length Longer + open_length Longer A) (secret_length Longer A) A_bytes);
        nonce = nonce_bytes;
        starting_tag = bytes_part A (words_length Longer) tag_length A_bytes;
      }

  module _ (e : factory_stop ring fram (looks u) ≡ none) where
    abbrev n : Newest
    n = newest_in ring u.sizes

    abbrev named : List ℕ
    named = newest_half ring fram u.sizes.slots n

    abbrev slot : List ℕ
    slot = slot_at ring u.sizes.slots 0 0

    abbrev nonce : List ℕ
    nonce = take nonce_length slot

    abbrev A : List ℕ
    A = half_at fram 0

    both : (look_stop this_firmware ring fram (looks u) ≡ none)
        × (not_first n (half_named (newest_record ring u.sizes.slots n)) (form_of named) (stored_restarts (form_of named) named) ≡ false)
    unfolding factory_stop
    both = then_none _ 19 _ e

    first : IsFirst n (half_named (newest_record ring u.sizes.slots n)) (form_of named) (stored_restarts (form_of named) named)
    first = is_first _ _ _ _ both.1

    record Looked : Type 0 where
      ring_right : ring_wrong u.sizes.pages u.sizes.slots ring ≡ false
      fram_right : fram_wrong fram_limit fram ≡ false
      key_right : key_wrong key_lengths (length u.key) ≡ false
      not_blank : is_blank n ≡ false
      readable : is_unreadable n ≡ false
      head : good_head part_limit (form_of named) named ≡ true
      tag : good_tag (form_of named) u.key (take nonce_length (newest_record ring u.sizes.slots n)) named ≡ true

    looked : Looked
    unfolding look_stop
    looked =
        let p = passes _ both.0 in
        let l = p.1.1.1 in
        record {
          ring_right = p.0;
          fram_right = p.1.0;
          key_right = p.1.1.0;
          not_blank = l.0;
          readable = l.1.0;
          head = not-false _ l.1.1.0;
          tag = not-false _ l.1.1.1.0;
        }

    found : n ≡ At 0 0
    found = at_first n looked.not_blank looked.readable first.none_pending first.page first.slot

    record_is : newest_record ring u.sizes.slots n ≡ slot
    unfolding newest_record
    record_is = ap (λ (x : Newest). newest_record ring u.sizes.slots x) found

    names_A' : half_named slot ≡ 0
    names_A' = sym (ap half_named record_is) ∙ first.half_A

    is_record_here : is_record slot ≡ true
    is_record_here =
        sym (ap is_record record_is) ∙ newest_is_record u.sizes.pages u.sizes.slots ring looked.ring_right looked.not_blank looked.readable

    slot_long : length slot ≡ slot_length
    slot_long =
        let z = sized u.sizes.pages u.sizes.slots ring looked.ring_right in
        length_slot z 0 0 (omega (arith, z.numbers.some_pages)) (omega (arith, z.numbers.some_slots))

    nonce_long : length nonce ≡ nonce_length
    unfolding part
    nonce_long = length_part slot 0 nonce_length (omega (arith, slot_long))

    named_is : named ≡ A
    unfolding newest_half
    named_is = ap (half_at fram) first.half_A

    head_A : good_head part_limit Longer A ≡ true
    head_A = sym (λ i. good_head part_limit (first.longer i) (named_is i)) ∙ looked.head

    tag_A : good_tag Longer u.key nonce A ≡ true
    tag_A = sym (λ i. good_tag (first.longer i) u.key (take nonce_length (record_is i)) (named_is i)) ∙ looked.tag

    restarts_A : stored_restarts Longer A ≡ 0
    restarts_A = sym (λ i. stored_restarts (first.longer i) (named_is i)) ∙ first.no_restart

    same : stored Longer u.key nonce A ≡ checkpoint_from (held u ring fram)
    unfolding stored
    same = ap (λ (r : ℕ). checkpoint_of (stored_packet Longer A) (stored_open Longer A) (encrypted u.key nonce (stored_cipher Longer A)) r (stored_previous Longer A) nonce) restarts_A

    pub holds_one : Programmed u ring fram (held u ring fram)
    unfolding stored
    holds_one =
        let fit = stored_small part_limit Longer u.key nonce A head_A in
        record {
          ring_right = looked.ring_right;
          fram_right = looked.fram_right;
          key_right = looked.key_right;
          range = subst InRange same (stored_in_range part_limit Longer u.key nonce A head_A);
          open_small = fit.0;
          secret_small = fit.1;
          nonce_long = nonce_long;
          reads = found;
          slot = record_again slot slot_long slot_bytes is_record_here ∙ ap (record_of nonce) names_A';
          behind = drop (stored_length Longer A) A;
          there = begins part_limit Longer u.key nonce A head_A A_bytes tag_A ∙ ap (λ (c : Checkpoint). sealed u.key c ++ drop (stored_length Longer A) A) same;
        }
