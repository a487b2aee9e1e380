-- `checkpoint::staging::write_head` meets its contract. Assumes nothing.
use mathlib.Core.Path.{◌≡◌, ap, ◌∙◌}
use mathlib.Core.List.{List, ◌++◌, append_assoc, append-nil}
use Prim.Native.Nat.{ℕ}
use lib.ListN.{length}
use Rattle.octets.specs.Limits.{tag_length}
use Rattle.octets.specs.Octets.{put}
use Rattle.octets.specs.Word.{word}
use Rattle.octets.proofs.Numbers.{length_word}
use Rattle.octets.proofs.Lent.{Front, front_on}
use Rattle.checkpoint.specs.Checkpoint.{Longer, words, head_words}
use Rattle.checkpoint.proofs.staging.write_head.Goals as goal

-- four words and a tag, one after the other
staged : (xs a b c d e t : List ℕ) (p x y z : ℕ) → length t ≡ tag_length
    → a ≡ put xs 0 (word 0 p) → b ≡ put a 4 (word 1 x) → c ≡ put b 8 (word 2 y) → d ≡ put c 12 (word 3 z) → e ≡ put d 16 t
    → e ≡ put xs 0 (words (head_words Longer p x y z) ++ t)
unfolding words
staged xs a b c d e t p x y z l h₁ h₂ h₃ h₄ h₅ =
    let one : Front xs a (word 0 p) 4 = record { written = h₁; long = length_word 0 p } in
    let two = front_on (word 1 x) b 4 one h₂ (length_word 1 x) in
    let three = front_on (word 2 y) c 4 two h₃ (length_word 2 y) in
    let four = front_on (word 3 z) d 4 three h₄ (length_word 3 z) in
    (front_on t e tag_length four h₅ l).written ∙ ap (put xs 0) (simp (append_assoc, append-nil))

pub returns : goal.returns
returns c =
    let a = c.args in
    staged a.staging.now _ _ _ _ _ a.previous.now a.packet a.«open» a.secret a.restarts c.requires.4
    c.write_word.ensures c.write_word-2.ensures c.write_word-3.ensures c.write_word-4.ensures c.copy_at.ensures
