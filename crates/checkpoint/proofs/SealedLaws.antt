-- The bytes of a sealed checkpoint, with any bytes behind it. Assumes nothing.
use Prim.Native.Nat.{ℕ, ◌+◌, ◌*◌, ◌/◌, ◌%◌, ◌^◌, ◌≤◌, ◌<◌}
use mathlib.Core.Path.{◌≡◌, refl, sym, ap, ◌∙◌}
use mathlib.Core.Bool.{false}
use mathlib.Core.List.{List, [], ◌∷◌, ◌++◌, append_assoc, append-nil}
use native.Mathlib.Omega.{arith}
use native.Mathlib.Nat.{add-zero, mul-add}
use lib.ListN.{length, length-append}
use lib.Seq.{take_at, drop_at}
use borrow.Author.Tests.{eqb-true, le-ltb, ltb-false, not-false, eq-eqb}
use Rattle.octets.specs.Limits.{tag_length}
use Rattle.octets.specs.Octets.{part}
use Rattle.octets.specs.Word.{word, word_at}
use Rattle.octets.proofs.Numbers.{length_word, word_front, word_behind}
use Rattle.stops.proofs.Laws.{neither}
use Rattle.gcm.specs.Gcm.{encrypted}
use Rattle.gcm.proofs.Laws.{length_encrypted, length_tag}
use Rattle.checkpoint.specs.Checkpoint.{Form, Older, Longer, Checkpoint, front_words, head_words, open_word, secret_word, restarts_word, words, words_length, head_length, head, associated, own_tag, sealed, sealed_length, part_wrong}
use Rattle.checkpoint.specs.Layout.{PacketInRange, InRange}

-- ---- parts

-- what a part that passes stop 4 is, and that such a one passes
pub part_sizes : (limit : ℕ) (p : List ℕ) → part_wrong limit p ≡ false → (length p % 4 ≡ 0) × (length p ≤ limit)
unfolding part_wrong
part_sizes limit p e =
    let x = neither _ _ e in
    (eqb-true (length p % 4) 0 (not-false _ x.0), ltb-false limit (length p) x.1)

pub part_passes : (limit : ℕ) (p : List ℕ) → length p % 4 ≡ 0 → length p ≤ limit → part_wrong limit p ≡ false
unfolding part_wrong
part_passes limit p w s = rw (eq-eqb (length p % 4) 0 w) (le-ltb limit (length p) s)

pub empty_passes : (limit : ℕ) → part_wrong limit [] ≡ false
empty_passes limit = part_passes limit [] refl (omega arith)

-- ---- the head of either form

pub words_append : (xs ys : List (ℕ × ℕ)) → words (xs ++ ys) ≡ words xs ++ words ys
unfolding words
words_append [] ys = refl
words_append (x ∷ xs) ys = rw (words_append xs ys) (sym (append_assoc (word x.0 x.1) (words xs) (words ys)))

-- at most one word stands before the open part's length, and all are three more
pub front_small : (form : Form) → open_word form ≤ 1
front_small Older = omega arith
front_small Longer = omega arith

pub words_more : (form : Form) → words_length form ≡ 4 * open_word form + 12
words_more Older = refl
words_more Longer = refl

pub head_small : (form : Form) → head_length form ≤ head_length Longer
head_small form = omega (arith, words_more form, front_small form)

pub length_front : (form : Form) (packet : ℕ) → length (words (front_words form packet)) ≡ 4 * open_word form
unfolding words
length_front Older packet = refl
length_front Longer packet = simp (length-append, length_word)

-- ---- lengths

-- the words of a checkpoint's head
abbrev words_of : Checkpoint → List ℕ
words_of c = words (head_words c.form c.packet (length c.open_part / 4) (length c.secret / 4) c.restarts)

length_words : (c : Checkpoint) → length (words_of c) ≡ words_length c.form
unfolding words
length_words c = rw (words_append, words_more c.form) (simp (length-append, length_front c.form c.packet, length_word) refl)

pub length_head : (c : Checkpoint) → length c.previous ≡ tag_length → length (head c) ≡ head_length c.form
unfolding head
length_head c h = length-append (words_of c) c.previous ∙ (λ i. length_words c i + h i)

pub length_associated : (c : Checkpoint) → length c.previous ≡ tag_length → length (associated c) ≡ head_length c.form + length c.open_part
unfolding associated
length_associated c h = length-append (head c) c.open_part ∙ ap (λ (n : ℕ). n + length c.open_part) (length_head c h)

pub length_own_tag : (key : List ℕ) (c : Checkpoint) → length (own_tag key c) ≡ tag_length
unfolding own_tag
length_own_tag key c = length_tag key c.nonce _ _

pub length_sealed : (key : List ℕ) (c : Checkpoint) → length c.previous ≡ tag_length
    → length (sealed key c) ≡ sealed_length c.form (length c.open_part) (length c.secret)
unfolding sealed
length_sealed key c h = simp (length-append, length_associated c h, length_own_tag, length_encrypted) (omega arith)

-- ---- the words

-- three words behind a front of k bytes, the word at offset i being one of them
abbrev Three : (front rest : List ℕ) (k n m r i : ℕ) → Type 0
Three front rest k n m r i =
    let xs = front ++ (word 1 n ++ (word 2 m ++ (word 3 r ++ rest))) in
    (i ≡ k → word_at xs i ≡ 1 * 2 ^ 30 + n) × (i ≡ k + 4 → word_at xs i ≡ 2 * 2 ^ 30 + m) × (i ≡ k + 8 → word_at xs i ≡ 3 * 2 ^ 30 + r)

three_words : (front rest : List ℕ) (k n m r i : ℕ) → length front ≡ k → n < 2 ^ 30 → m < 2 ^ 30 → r < 2 ^ 30 → Three front rest k n m r i
three_words front rest k n m r i l x y z = (
  λ e. ap (λ (j : ℕ). word_at xs j) (e ∙ sym (add-zero k)) ∙ word_behind front _ k 0 l ∙ word_front 1 n _ (omega arith) x,
  λ e. ap (λ (j : ℕ). word_at xs j) e ∙ word_behind front _ k 4 l ∙ word_behind (word 1 n) _ 4 0 (length_word 1 n) ∙ word_front 2 m _ (omega arith) y,
  λ e. ap (λ (j : ℕ). word_at xs j) e ∙ word_behind front _ k 8 l ∙ word_behind (word 1 n) _ 4 4 (length_word 1 n)
      ∙ word_behind (word 2 m) _ 4 0 (length_word 2 m) ∙ word_front 3 r rest (omega arith) z,
)
  where
    xs : List ℕ
    xs = front ++ (word 1 n ++ (word 2 m ++ (word 3 r ++ rest)))

abbrev pub first_word : Form → ℕ → ℕ → ℕ
first_word Older packet open_words = 1 * 2 ^ 30 + open_words
first_word Longer packet open_words = 0 * 2 ^ 30 + packet

first_of_words : (form : Form) (packet open_words : ℕ) (rest : List ℕ) → PacketInRange form packet → open_words < 2 ^ 30
    → word_at (words (front_words form packet) ++ (word 1 open_words ++ rest)) 0 ≡ first_word form packet open_words
unfolding words
first_of_words Older packet open_words rest n h = word_front 1 open_words rest (omega arith) h
first_of_words Longer packet open_words rest n h = rw append-nil (word_front 0 packet _ (omega arith) (omega arith))

-- ---- the layout, split in different places

module _ (key : List ℕ) (c : Checkpoint) (rest : List ℕ) where
  by_words : sealed key c ++ rest ≡ words (front_words c.form c.packet) ++ (word 1 (length c.open_part / 4) ++ (word 2 (length c.secret / 4) ++ (word 3 c.restarts ++
      (c.previous ++ (c.open_part ++ (encrypted key c.nonce c.secret ++ (own_tag key c ++ rest)))))))
  unfolding sealed associated head words
  by_words = rw words_append (simp append_assoc)

  by_parts : sealed key c ++ rest ≡ head c ++ (c.open_part ++ (encrypted key c.nonce c.secret ++ (own_tag key c ++ rest)))
  unfolding sealed associated
  by_parts = simp append_assoc

  by_associated : sealed key c ++ rest ≡ associated c ++ (encrypted key c.nonce c.secret ++ (own_tag key c ++ rest))
  unfolding sealed
  by_associated = simp append_assoc

  by_tag : sealed key c ++ rest ≡ associated c ++ encrypted key c.nonce c.secret ++ (own_tag key c ++ rest)
  unfolding sealed
  by_tag = simp append_assoc

-- ---- what stands where

module _ (key : List ℕ) (c : Checkpoint) (rest : List ℕ) (g : InRange c) where
  abbrev behind : List ℕ
  behind = c.previous ++ (c.open_part ++ (encrypted key c.nonce c.secret ++ (own_tag key c ++ rest)))

  three : (i : ℕ) → Three (words (front_words c.form c.packet)) behind (4 * open_word c.form) (length c.open_part / 4) (length c.secret / 4) c.restarts i
  three i = three_words (words (front_words c.form c.packet)) behind (4 * open_word c.form) (length c.open_part / 4) (length c.secret / 4) c.restarts i
      (length_front c.form c.packet) (omega (arith, g)) (omega (arith, g)) (omega (arith, g))

  pub open_word_at : word_at (sealed key c ++ rest) (4 * open_word c.form) ≡ 1 * 2 ^ 30 + length c.open_part / 4
  open_word_at = rw (by_words key c rest) ((three (4 * open_word c.form)).0 refl)

  pub secret_word_at : word_at (sealed key c ++ rest) (4 * secret_word c.form) ≡ 2 * 2 ^ 30 + length c.secret / 4
  secret_word_at = rw (by_words key c rest) ((three (4 * secret_word c.form)).1 (mul-add 4 (open_word c.form) 1))

  pub restarts_word_at : word_at (sealed key c ++ rest) (4 * restarts_word c.form) ≡ 3 * 2 ^ 30 + c.restarts
  restarts_word_at = rw (by_words key c rest) ((three (4 * restarts_word c.form)).2 (mul-add 4 (open_word c.form) 2))

  -- the first word of either form
  pub first_word_at : word_at (sealed key c ++ rest) 0 ≡ first_word c.form c.packet (length c.open_part / 4)
  first_word_at = rw (by_words key c rest) (first_of_words c.form c.packet (length c.open_part / 4) _ g.packet_small (omega (arith, g)))

  pub associated_at : part (sealed key c ++ rest) 0 (head_length c.form + length c.open_part) ≡ associated c
  unfolding part
  associated_at = rw by_associated (take_at (associated c) _ (head_length c.form + length c.open_part) (length_associated c g.previous_long))

  pub open_at : part (sealed key c ++ rest) (head_length c.form) (length c.open_part) ≡ c.open_part
  unfolding part
  open_at = rw (by_parts, drop_at (head c) _ (head_length c.form) (length_head c g.previous_long)) (take_at c.open_part _ (length c.open_part) refl)

  pub cipher_at : part (sealed key c ++ rest) (head_length c.form + length c.open_part) (length c.secret) ≡ encrypted key c.nonce c.secret
  unfolding part
  cipher_at = rw (by_associated, drop_at (associated c) _ (head_length c.form + length c.open_part) (length_associated c g.previous_long))
      (take_at (encrypted key c.nonce c.secret) _ (length c.secret) (length_encrypted key c.nonce c.secret))

  pub tag_at : part (sealed key c ++ rest) (head_length c.form + length c.open_part + length c.secret) tag_length ≡ own_tag key c
  unfolding part
  tag_at =
      let l : length (associated c ++ encrypted key c.nonce c.secret) ≡ head_length c.form + length c.open_part + length c.secret =
      simp (length-append, length_associated c g.previous_long, length_encrypted) in
      rw (by_tag, drop_at (associated c ++ encrypted key c.nonce c.secret) _ (head_length c.form + length c.open_part + length c.secret) l)
      (take_at (own_tag key c) rest tag_length (length_own_tag key c))

  pub previous_at : part (sealed key c ++ rest) (words_length c.form) tag_length ≡ c.previous
  unfolding part head
  previous_at =
      rw (by_parts, append_assoc (words_of c) c.previous, drop_at (words_of c) _ (words_length c.form) (length_words c)) (take_at c.previous _ tag_length g.previous_long)
