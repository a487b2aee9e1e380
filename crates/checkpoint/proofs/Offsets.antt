-- The papers' offsets hold of every sealed checkpoint. Assumes nothing.
use Prim.Native.Nat.{ℕ, ◌+◌, ◌-◌}
use mathlib.Core.Path.{◌≡◌, ap, ◌∙◌, sym}
use mathlib.Core.List.{List, [], ◌++◌, append-nil}
use native.Mathlib.Omega.{arith}
use native.Mathlib.Nat.{zero-add}
use lib.ListN.{length}
use Rattle.octets.specs.Octets.{part}
use Rattle.octets.specs.Word.{word_at}
use Rattle.checkpoint.specs.Checkpoint.{Form, Older, Longer, Checkpoint, sealed}
use Rattle.checkpoint.specs.Layout.{InRange, LayoutOf, Layout}
use Rattle.checkpoint.proofs.SealedLaws.{length_sealed, first_word_at, open_word_at, secret_word_at, restarts_word_at, open_at, cipher_at, tag_at, previous_at}

-- the checkpoint of these values
abbrev with_form : Form → ℕ → List ℕ → List ℕ → ℕ → List ℕ → List ℕ → Checkpoint
with_form form packet open_part secret restarts previous nonce =
    record { form = form; packet = packet; open_part = open_part; secret = secret; restarts = restarts; previous = previous; nonce = nonce }

module _ (key : List ℕ) (packet : ℕ) (o s : List ℕ) (r : ℕ) (p n : List ℕ) where
  whole : (form : Form) (f : List ℕ → ℕ) → f (sealed key (with_form form packet o s r p n)) ≡ f (sealed key (with_form form packet o s r p n) ++ [])
  whole form f = ap f (sym (append-nil (sealed key (with_form form packet o s r p n))))

  bytes : (form : Form) (f : List ℕ → List ℕ) → f (sealed key (with_form form packet o s r p n)) ≡ f (sealed key (with_form form packet o s r p n) ++ [])
  bytes form f = ap f (sym (append-nil (sealed key (with_form form packet o s r p n))))

  by_form : (form : Form) → InRange (with_form form packet o s r p n) → LayoutOf form key (with_form form packet o s r p n)
  by_form Older g = record {
    open_words = whole Older (λ x. word_at x 0) ∙ open_word_at key c [] g;
    secret_words = whole Older (λ x. word_at x 4) ∙ secret_word_at key c [] g;
    restarts = whole Older (λ x. word_at x 8) ∙ restarts_word_at key c [] g;
    previous = bytes Older (λ x. part x 12 16) ∙ previous_at key c [] g;
    open_part = bytes Older (λ x. part x 28 (length o)) ∙ open_at key c [] g;
    secret = bytes Older (λ x. part x (28 + length o) (length s)) ∙ cipher_at key c [] g;
    tag = ap (λ (i : ℕ). part (sealed key c) i 16) last ∙ bytes Older (λ x. part x (28 + length o + length s) 16) ∙ tag_at key c [] g;
    long = length_sealed key c g.previous_long;
  }
    where
      c : Checkpoint
      c = with_form Older packet o s r p n

      last : length (sealed key (with_form Older packet o s r p n)) - 16 ≡ 28 + length o + length s
      last = omega (arith, length_sealed key c g.previous_long)
  by_form Longer g = record {
    packet = whole Longer (λ x. word_at x 0) ∙ first_word_at key c [] g ∙ zero-add packet;
    open_words = whole Longer (λ x. word_at x 4) ∙ open_word_at key c [] g;
    secret_words = whole Longer (λ x. word_at x 8) ∙ secret_word_at key c [] g;
    restarts = whole Longer (λ x. word_at x 12) ∙ restarts_word_at key c [] g;
    previous = bytes Longer (λ x. part x 16 16) ∙ previous_at key c [] g;
    open_part = bytes Longer (λ x. part x 32 (length o)) ∙ open_at key c [] g;
    secret = bytes Longer (λ x. part x (32 + length o) (length s)) ∙ cipher_at key c [] g;
    tag = ap (λ (i : ℕ). part (sealed key c) i 16) last ∙ bytes Longer (λ x. part x (32 + length o + length s) 16) ∙ tag_at key c [] g;
    long = length_sealed key c g.previous_long;
  }
    where
      c : Checkpoint
      c = with_form Longer packet o s r p n

      last : length (sealed key (with_form Longer packet o s r p n)) - 16 ≡ 32 + length o + length s
      last = omega (arith, length_sealed key c g.previous_long)

pub layout : (key : List ℕ) (c : Checkpoint) → InRange c → Layout key c
layout key c g = by_form key c.packet c.open_part c.secret c.restarts c.previous c.nonce c.form g
