-- A half that begins with a sealed checkpoint has a good head and tag and reads as that checkpoint, whatever follows it;
-- and a half with a good head and tag begins with the checkpoint that it reads as, sealed. Assumes nothing.
use Prim.Native.Nat.{ℕ, ◌/◌, ◌≤◌, ◌<◌, ◌+◌, ◌*◌, ◌^◌}
use mathlib.Core.Path.{◌≡◌, refl, sym, ap, subst, ◌∙◌}
use mathlib.Core.Logic.{◌⊎◌, inl, inr}
use mathlib.Core.Bool.{Bool, true, false, cond}
use mathlib.Core.List.{List, ◌++◌}
use native.Mathlib.Omega.{arith}
use lib.ListN.{length, length-append}
use lib.Dec.{eqb}
use borrow.Author.Tests.{le-leb}
use Rattle.octets.specs.Limits.{restart_limit}
use Rattle.octets.specs.Octets.{part}
use Rattle.octets.specs.Word.{word_at, kind_of}
use Rattle.octets.proofs.Laws.{same_refl}
use Rattle.octets.proofs.Numbers.{kind_is, value_is}
use Rattle.gcm.specs.Gcm.{encrypted}
use Rattle.gcm.proofs.Laws.{encrypted_twice}
use Rattle.checkpoint.specs.Checkpoint.{Form, Older, Longer, Checkpoint, head_words, open_word, secret_word, restarts_word, head_length, associated, own_tag, sealed}
use Rattle.checkpoint.specs.Fram.{half_length, half_at}
use Rattle.checkpoint.specs.Half.{kind_at, value_at, form_of, read_as, Reads, stored_packet, kinds_from, open_length, secret_length, stored_restarts, stored_length, good_head, stored_associated, stored_previous, stored_open, stored_cipher, stored_tag, good_tag, stored}
use Rattle.checkpoint.specs.Layout.{PacketInRange, InRange}
use Rattle.checkpoint.proofs.FramLaws.{part_of_half}
use Rattle.checkpoint.proofs.StoredLaws.{head_facts, packet_small}
use Rattle.checkpoint.proofs.SealedLaws.{length_sealed, first_word, first_word_at, open_word_at, secret_word_at, restarts_word_at, associated_at, open_at, cipher_at, tag_at, previous_at}

-- ---- the form

pub reads_own : (form : Form) → Reads form form
reads_own Older = refl
reads_own Longer = tt

-- ---- reading what was sealed

untrue : (b : Bool) → (b ≡ true → ⊥) → b ≡ false
untrue true f = absurd (f refl)
untrue false f = refl

module _ (key : List ℕ) (c : Checkpoint) (rest : List ℕ) (g : InRange c) where
  abbrev half : List ℕ
  half = sealed key c ++ rest

  first_kind : (form : Form) (packet n w : ℕ) → w ≡ first_word form packet n → PacketInRange form packet → n < 2 ^ 30 → cond (eqb (kind_of w) 1) Older Longer ≡ form
  first_kind Older packet n w e p h = rw (e, kind_is 1 n h)
  first_kind Longer packet n w e p h = rw (e, kind_is 0 packet (omega arith))

  pub form_is : form_of (sealed key c ++ rest) ≡ c.form
  unfolding form_of kind_at
  form_is = first_kind c.form c.packet (length c.open_part / 4) (word_at half 0) (first_word_at key c rest g) g.packet_small (omega (arith, g))

  read_form : (firmware form : Form) → form ≡ c.form → Reads firmware form → read_as firmware (sealed key c ++ rest) ≡ c.form
  read_form Older form e r = sym r ∙ e
  read_form Longer form e r = form_is

  pub read_as_is : (firmware : Form) → Reads firmware c.form → read_as firmware (sealed key c ++ rest) ≡ c.form
  read_as_is firmware r = read_form firmware c.form refl r

  packet_in : (form : Form) (packet n : ℕ) (h : List ℕ) → word_at h 0 ≡ first_word form packet n → PacketInRange form packet → stored_packet form h ≡ packet
  unfolding stored_packet value_at
  packet_in Older packet n h e p = sym p
  packet_in Longer packet n h e p = rw e (value_is 0 packet (omega arith))

  pub packet_is : stored_packet c.form (sealed key c ++ rest) ≡ c.packet
  packet_is = packet_in c.form c.packet (length c.open_part / 4) half (first_word_at key c rest g) g.packet_small

  pub open_length_is : open_length c.form (sealed key c ++ rest) ≡ length c.open_part
  unfolding open_length value_at
  open_length_is = rw (open_word_at key c rest g, value_is 1 (length c.open_part / 4) (omega (arith, g))) (omega (arith, g))

  pub secret_length_is : secret_length c.form (sealed key c ++ rest) ≡ length c.secret
  unfolding secret_length value_at
  secret_length_is = rw (secret_word_at key c rest g, value_is 2 (length c.secret / 4) (omega (arith, g))) (omega (arith, g))

  pub restarts_is : stored_restarts c.form (sealed key c ++ rest) ≡ c.restarts
  unfolding stored_restarts value_at
  restarts_is = rw (restarts_word_at key c rest g) (value_is 3 c.restarts (omega (arith, g)))

  fits : stored_length c.form (sealed key c ++ rest) ≤ length (sealed key c ++ rest)
  unfolding stored_length
  fits = rw (open_length_is, secret_length_is, length-append (sealed key c) rest, length_sealed key c g.previous_long) (omega arith)

  -- the kinds of the words from the open part's length on
  kinds_at : (form : Form) (packet n m r : ℕ) (h : List ℕ) → word_at h 0 ≡ first_word form packet n → word_at h (4 * open_word form) ≡ 1 * 2 ^ 30 + n
      → word_at h (4 * secret_word form) ≡ 2 * 2 ^ 30 + m → word_at h (4 * restarts_word form) ≡ 3 * 2 ^ 30 + r → PacketInRange form packet
      → n < 2 ^ 30 → m < 2 ^ 30 → r < 2 ^ 30 → kinds_from h 0 (head_words form 0 0 0 0) ≡ true
  unfolding kinds_from kind_at
  kinds_at Older packet n m r h e a b d p x y z = rw (a, b, d, kind_is 1 n x, kind_is 2 m y, kind_is 3 r z)
  kinds_at Longer packet n m r h e a b d p x y z = rw (e, a, b, d, kind_is 0 packet (omega arith), kind_is 1 n x, kind_is 2 m y, kind_is 3 r z)

  pub head_passes : (limit : ℕ) → length c.open_part ≤ limit → length c.secret ≤ limit → good_head limit c.form (sealed key c ++ rest) ≡ true
  unfolding good_head
  head_passes limit open_small secret_small =
      rw (
        kinds_at c.form c.packet (length c.open_part / 4) (length c.secret / 4) c.restarts half (first_word_at key c rest g) (open_word_at key c rest g)
            (secret_word_at key c rest g) (restarts_word_at key c rest g) g.packet_small (omega (arith, g)) (omega (arith, g)) (omega (arith, g)),
        le-leb (stored_length c.form (sealed key c ++ rest)) (length (sealed key c ++ rest)) fits,
        open_length_is,
        secret_length_is,
        restarts_is,
        le-leb (length c.open_part) limit open_small,
        le-leb (length c.secret) limit secret_small,
        le-leb c.restarts restart_limit g.restarts_small,
      )

  -- firmware reads the head in the checkpoint's form, or finds a wrong kind
  read_or_refused : (firmware : Form) (limit : ℕ) → (read_as firmware half ≡ c.form) ⊎ (good_head limit (read_as firmware half) half ≡ false)
  unfolding good_head kinds_from kind_at
  read_or_refused Longer limit = inl form_is
  read_or_refused Older limit = go c.form refl
    where
      first : Longer ≡ c.form → word_at half 0 ≡ 0 * 2 ^ 30 + c.packet
      first e = first_word_at key c rest g ∙ ap (λ (f : Form). first_word f c.packet (length c.open_part / 4)) (sym e)

      go : (form : Form) → form ≡ c.form → (Older ≡ c.form) ⊎ (good_head limit Older half ≡ false)
      go Older e = inl e
      go Longer e = inr (rw (first e, kind_is 0 c.packet (omega (arith, packet_small c.form c.packet g.packet_small))))

  -- a part above the limit is refused, in whatever form the head is read
  pub head_refused : (firmware : Form) (limit : ℕ) → (limit < length c.open_part) ⊎ (limit < length c.secret)
      → good_head limit (read_as firmware (sealed key c ++ rest)) (sealed key c ++ rest) ≡ false
  head_refused firmware limit above = from (read_or_refused firmware limit)
    where
      small : good_head limit c.form half ≡ true → (length c.open_part ≤ limit) × (length c.secret ≤ limit)
      small e = let f = head_facts limit c.form half e in (subst (λ (n : ℕ). n ≤ limit) open_length_is f.open_small, subst (λ (n : ℕ). n ≤ limit) secret_length_is f.secret_small)

      never : (limit < length c.open_part) ⊎ (limit < length c.secret) → good_head limit c.form half ≡ true → ⊥
      never (inl x) e = omega (arith, (small e).0)
      never (inr x) e = omega (arith, (small e).1)

      from : (read_as firmware half ≡ c.form) ⊎ (good_head limit (read_as firmware half) half ≡ false) → good_head limit (read_as firmware half) half ≡ false
      from (inl e) = ap (λ (f : Form). good_head limit f half) e ∙ untrue (good_head limit c.form half) (never above)
      from (inr e) = e

  -- and so is a head that the firmware does not read
  pub unread_refused : (firmware : Form) (limit : ℕ) → (Reads firmware c.form → ⊥) → good_head limit (read_as firmware (sealed key c ++ rest)) (sealed key c ++ rest) ≡ false
  unread_refused Longer limit unread = absurd (unread tt)
  unread_refused Older limit unread = from (read_or_refused Older limit)
    where
      from : (Older ≡ c.form) ⊎ (good_head limit Older half ≡ false) → good_head limit Older half ≡ false
      from (inl e) = absurd (unread (sym e))
      from (inr e) = e

  pub associated_is : stored_associated c.form (sealed key c ++ rest) ≡ associated c
  unfolding stored_associated
  associated_is = rw open_length_is (associated_at key c rest g)

  pub open_is : stored_open c.form (sealed key c ++ rest) ≡ c.open_part
  unfolding stored_open
  open_is = rw open_length_is (open_at key c rest g)

  pub cipher_is : stored_cipher c.form (sealed key c ++ rest) ≡ encrypted key c.nonce c.secret
  unfolding stored_cipher
  cipher_is = rw (open_length_is, secret_length_is) (cipher_at key c rest g)

  pub tag_is : stored_tag c.form (sealed key c ++ rest) ≡ own_tag key c
  unfolding stored_tag
  tag_is = rw (open_length_is, secret_length_is) (tag_at key c rest g)

  pub previous_is : stored_previous c.form (sealed key c ++ rest) ≡ c.previous
  unfolding stored_previous
  previous_is = previous_at key c rest g

  pub tag_passes : good_tag c.form key c.nonce (sealed key c ++ rest) ≡ true
  unfolding good_tag own_tag
  tag_passes = rw (tag_is, cipher_is, associated_is) (same_refl (own_tag key c))

  pub read_back : stored c.form key c.nonce (sealed key c ++ rest) ≡ c
  unfolding stored
  read_back = rw (packet_is, open_is, cipher_is, restarts_is, previous_is, encrypted_twice)

-- ---- the open part of a half, as a stretch of the image

pub open_stretched : (form : Form) (fram : List ℕ) (h : ℕ) → head_length form + open_length form (half_at fram h) ≤ half_length fram
    → part fram (h * half_length fram + head_length form) (open_length form (half_at fram h)) ≡ stored_open form (half_at fram h)
unfolding stored_open
open_stretched form fram h l = sym (part_of_half fram h (head_length form) (open_length form (half_at fram h)) l)
