-- A half with a good head and tag begins with the checkpoint that it reads as, sealed. Assumes nothing.
use Prim.Native.Nat.{ℕ, zero, suc, ◌+◌, ◌*◌, ◌/◌, ◌≤◌}
use Rattle.std.specs.Prelude.{eqb}
use mathlib.Core.Path.{◌≡◌, refl, sym, ap, ap₂, ◌∙◌}
use mathlib.Core.Bool.{true}
use mathlib.Core.List.{List, [], ◌∷◌, ◌++◌}
use native.Mathlib.Omega.{arith}
use lib.ListN.{length, take, drop, take-append-drop}
use lib.Seq.{take-add, drop-drop}
use borrow.Author.Tests.{eqb-true, leb-true}
use Rattle.octets.specs.Limits.{restart_limit, packet_limit, tag_length}
use Rattle.octets.specs.Octets.{Bytes, part}
use Rattle.octets.specs.Word.{value_of}
use Rattle.octets.proofs.Laws.{and-true, same_equal, length_part}
use Rattle.octets.proofs.Numbers.{word_again}
use Rattle.gcm.specs.Gcm.{encrypted, tag}
use Rattle.gcm.proofs.Laws.{encrypted_twice, length_encrypted}
use Rattle.checkpoint.specs.Checkpoint.{Form, Older, Longer, head_words, open_word, secret_word, restarts_word, words, words_length, head_length, head, associated, own_tag, sealed, sealed_length}
use Rattle.checkpoint.specs.Half.{kind_at, value_at, stored_packet, kinds_from, open_length, secret_length, stored_restarts, stored_length, good_head, stored_associated, stored_previous, stored_open, stored_cipher, stored_tag, good_tag, stored}
use Rattle.checkpoint.specs.Layout.{PacketInRange, InRange}

-- two parts, of which the second begins at k where the first ends
part_join : (xs : List ℕ) (i m k n : ℕ) → k ≡ i + m → part xs i m ++ part xs k n ≡ part xs i (m + n)
unfolding part
part_join xs i m k n e =
    ap (λ (j : ℕ). take m (drop i xs) ++ take n (drop j xs)) e ∙ ap (λ (l : List ℕ). take m (drop i xs) ++ take n l) (sym (drop-drop m i xs)) ∙ sym (take-add m n (drop i xs))

front : (xs : List ℕ) (n : ℕ) → part xs 0 n ≡ take n xs
unfolding part
front xs n = refl

-- ---- a good head

pub record GoodHead (limit : ℕ) (form : Form) (half : List ℕ) : Type 0 where
  pub kinds : kinds_from half 0 (head_words form 0 0 0 0) ≡ true
  pub open_small : open_length form half ≤ limit
  pub secret_small : secret_length form half ≤ limit
  pub restarts_small : stored_restarts form half ≤ restart_limit
  pub fits : sealed_length form (open_length form half) (secret_length form half) ≤ length half

pub head_facts : (limit : ℕ) (form : Form) (half : List ℕ) → good_head limit form half ≡ true → GoodHead limit form half
unfolding good_head stored_length
head_facts limit form half e =
    let a = and-true _ _ e in
    let b = and-true _ _ a.0 in
    let c = and-true _ _ b.0 in
    let d = and-true _ _ c.0 in
    record {
      kinds = d.0;
      open_small = leb-true _ _ d.1;
      secret_small = leb-true _ _ c.1;
      restarts_small = leb-true _ _ b.1;
      fits = leb-true _ _ a.1;
    }

-- the words of a list of kinds, with the values that stand in the half from the i-th word on
words_from : List ℕ → ℕ → List (ℕ × ℕ) → List (ℕ × ℕ)
words_from half i [] = []
words_from half i (w ∷ more) = (w.0, value_at half i) ∷ words_from half (suc i) more

words_again : (half : List ℕ) → Bytes half → (i n : ℕ) (ws : List (ℕ × ℕ)) → n ≡ length ws → 4 * (i + n) ≤ length half
    → kinds_from half i ws ≡ true → words (words_from half i ws) ≡ part half (4 * i) (4 * n)
unfolding words words_from kinds_from kind_at value_at part
words_again half b i zero [] l h e = refl
words_again half b i (suc n) [] l h e = absurd (omega arith)
words_again half b i zero (w ∷ ws) l h e = absurd (omega arith)
words_again half b i (suc n) (w ∷ ws) l h e =
    let k = and-true (eqb (kind_at half i) w.0) (kinds_from half (suc i) ws) e in
    let m : 4 * suc i ≡ 4 * i + 4 = omega arith in
    let t : 4 + 4 * n ≡ 4 * suc n = omega arith in
    (λ j. word_again half (4 * i) w.0 (omega arith) b (eqb-true _ _ k.0) j ++ words_again half b (suc i) n ws (omega arith) (omega arith) k.1 j)
    ∙ part_join half (4 * i) 4 (4 * suc i) (4 * n) m ∙ ap (λ (x : ℕ). part half (4 * i) x) t

-- ---- packet numbers

pub stored_packet_small : (form : Form) (half : List ℕ) → PacketInRange form (stored_packet form half)
unfolding stored_packet value_at value_of
stored_packet_small Older half = refl
stored_packet_small Longer half = omega arith

pub packet_small : (form : Form) (packet : ℕ) → PacketInRange form packet → packet ≤ packet_limit
packet_small Older packet n = omega arith
packet_small Longer packet n = n

-- ---- what is stored

module _ (limit : ℕ) (form : Form) (key nonce half : List ℕ) (good : good_head limit form half ≡ true) where
  facts : GoodHead limit form half
  facts = head_facts limit form half good

  pub length_open : length (stored_open form half) ≡ open_length form half
  unfolding stored_open
  length_open = length_part half (head_length form) (open_length form half) (omega (arith, facts.fits))

  pub length_cipher : length (stored_cipher form half) ≡ secret_length form half
  unfolding stored_cipher
  length_cipher = length_part half (head_length form + open_length form half) (secret_length form half) (omega (arith, facts.fits))

  pub length_secret : length (encrypted key nonce (stored_cipher form half)) ≡ secret_length form half
  length_secret = length_encrypted key nonce (stored_cipher form half) ∙ length_cipher

  length_previous : length (stored_previous form half) ≡ tag_length
  unfolding stored_previous
  length_previous = length_part half (words_length form) tag_length (omega (arith, facts.fits))

  pub stored_in_range : InRange (stored form key nonce half)
  unfolding stored open_length secret_length value_at value_of
  stored_in_range = record {
    open_whole = omega (arith, length_open);
    open_small = omega (arith, length_open);
    secret_whole = omega (arith, length_secret);
    secret_small = omega (arith, length_secret);
    restarts_small = facts.restarts_small;
    packet_small = stored_packet_small form half;
    previous_long = length_previous;
  }

  pub stored_small : (length (stored form key nonce half).open_part ≤ limit) × (length (stored form key nonce half).secret ≤ limit)
  unfolding stored
  stored_small = (omega (arith, length_open, facts.open_small), omega (arith, length_secret, facts.secret_small))

  stored_bytes : stored_associated form half ++ stored_cipher form half ++ stored_tag form half ≡ take (stored_length form half) half
  unfolding stored_associated stored_cipher stored_tag stored_length
  stored_bytes =
      let n : ℕ = head_length form + open_length form half in
      let m : ℕ = secret_length form half in
      let e : n + m + tag_length ≡ sealed_length form (open_length form half) (secret_length form half) = omega arith in
      ap (λ (l : List ℕ). l ++ part half (n + m) tag_length) (part_join half 0 n n m (omega arith))
      ∙ part_join half 0 (n + m) (n + m) tag_length (omega arith) ∙ front half (n + m + tag_length) ∙ ap (λ (k : ℕ). take k half) e

  -- ---- its bytes

  module _ (b : Bytes half) where
    -- the words of either form
    all_words : (f : Form) → head_words f (stored_packet f half) (value_at half (open_word f)) (value_at half (secret_word f)) (value_at half (restarts_word f))
        ≡ words_from half 0 (head_words f 0 0 0 0)
    unfolding words_from stored_packet
    all_words Older = refl
    all_words Longer = refl

    head_again : head (stored form key nonce half) ≡ part half 0 (head_length form)
    unfolding head stored stored_previous stored_restarts open_length secret_length
    head_again =
        let o : length (stored_open form half) / 4 ≡ value_at half (open_word form) = whole (length (stored_open form half)) (value_at half (open_word form)) length_open in
        let s : length (encrypted key nonce (stored_cipher form half)) / 4 ≡ value_at half (secret_word form) =
        whole (length (encrypted key nonce (stored_cipher form half))) (value_at half (secret_word form)) length_secret in
        let n : ℕ = length (head_words form 0 0 0 0) in
        let w = words_again half b 0 n (head_words form 0 0 0 0) refl (omega (arith, facts.fits)) facts.kinds in
        (λ i. words (head_words form (stored_packet form half) (o i) (s i) (value_at half (restarts_word form))) ++ part half (words_length form) tag_length)
        ∙ ap (λ (l : List (ℕ × ℕ)). words l ++ part half (words_length form) tag_length) (all_words form)
        ∙ ap (λ (l : List ℕ). l ++ part half (words_length form) tag_length) w
        ∙ part_join half 0 (words_length form) (words_length form) tag_length (omega arith)
      where
        whole : (n v : ℕ) → n ≡ 4 * v → n / 4 ≡ v
        whole n v e = omega arith

    pub associated_again : associated (stored form key nonce half) ≡ stored_associated form half
    unfolding associated stored_associated stored stored_open
    associated_again =
        ap (λ (l : List ℕ). l ++ part half (head_length form) (open_length form half)) head_again
        ∙ part_join half 0 (head_length form) (head_length form) (open_length form half) (omega arith)

    module _ (tag_good : good_tag form key nonce half ≡ true) where
      -- its tag is that of the checkpoint
      pub tag_again : own_tag key (stored form key nonce half) ≡ stored_tag form half
      unfolding own_tag good_tag stored
      tag_again =
          ap₂ (λ (a c : List ℕ). tag key nonce a c) associated_again (encrypted_twice key nonce (stored_cipher form half))
          ∙ sym (same_equal (stored_tag form half) (tag key nonce (stored_associated form half) (stored_cipher form half)) tag_good)

      pub sealed_again : sealed key (stored form key nonce half) ≡ take (stored_length form half) half
      unfolding sealed stored
      sealed_again =
          ap₂ (λ (a t : List ℕ). a ++ encrypted key nonce (encrypted key nonce (stored_cipher form half)) ++ t) associated_again tag_again
          ∙ ap (λ (l : List ℕ). stored_associated form half ++ l ++ stored_tag form half) (encrypted_twice key nonce (stored_cipher form half)) ∙ stored_bytes

      -- the half begins with it
      pub begins : half ≡ sealed key (stored form key nonce half) ++ drop (stored_length form half) half
      begins = sym (take-append-drop (stored_length form half) half) ∙ ap (λ (l : List ℕ). l ++ drop (stored_length form half) half) (sym sealed_again)
