-- A text written behind another. Assumes nothing.
use Prim.Native.Nat.{ℕ, ◌+◌, ◌*◌, ◌/◌, ◌%◌, ◌≤◌, ◌<◌}
use mathlib.Core.Path.{◌≡◌, refl, sym, ap, subst, ◌∙◌}
use mathlib.Core.Bool.{true, false}
use mathlib.Core.List.{List, [], ◌∷◌, ◌++◌, append_assoc}
use native.Mathlib.Omega.{arith}
use lib.ListN.{length, drop, replicate, length-append}
use lib.Seq.{take_at, drop-drop, drop_at}
use borrow.Author.Tests.{lt-ltb, le-ltb}
use Rattle.octets.specs.Limits.{slot_length}
use Rattle.octets.specs.Octets.{put}
use Rattle.octets.proofs.Laws.{put_front, length_put}
use Rattle.stops.specs.View.{stop_number}
use Rattle.stops.specs.declared.Stop.TheVariants.{RingSize}
use Rattle.ring.specs.Ring.{ring_wrong, Newest, AtPending, read_ring, newest_page, newest_slot, Within}
use Rattle.ring.proofs.SizeLaws.{sized, slot_ends}
use Rattle.ring.proofs.NewestLaws.{read_within, pending_before}
use Rattle.ring_line.specs.declared.Line.{Line}
use Rattle.ring_line.specs.Text.{ascii, digit, decimal, refused_text, newest_text, ring_text}
use Rattle.ring_line.specs.Line.{line_limit, line_of, Added, Short}

-- what is put behind what was put at the front
put_put : (z t x : List ℕ) → length t + length x ≤ length z → put (put z 0 t) (length t) x ≡ put z 0 (t ++ x)
unfolding put
put_put z t x h =
    let f : put z 0 t ≡ t ++ drop (length t) z = put_front z t in
    let d : drop (length t + length x) (t ++ drop (length t) z) ≡ drop (length (t ++ x)) z =
    sym (drop-drop (length x) (length t) (t ++ drop (length t) z)) ∙ ap (drop (length x)) (drop_at t (drop (length t) z) (length t) refl)
    ∙ drop-drop (length x) (length t) z ∙ ap (λ (n : ℕ). drop n z) (sym (length-append t x)) in
    rw (f, take_at t (drop (length t) z) (length t) refl, d, put_front z (t ++ x), append_assoc)

pub added : (l : Line) (x b : List ℕ) → length l.bytes ≡ line_limit → l.length + length x ≤ line_limit → b ≡ put l.bytes l.length x
    → Added l x (record { bytes = b; length = l.length + length x })
added l x b room fits e =
    record {
      room = ap length e ∙ length_put l.bytes l.length x (omega arith) ∙ room;
      long = refl;
      holds = λ before h.
          let same : l.length ≡ length before = ap (λ (m : Line). m.length) h in
          let bytes' : b ≡ put (replicate line_limit 0) 0 (before ++ x) =
          e ∙ ap (λ (m : Line). put m.bytes m.length x) h ∙ put_put (replicate line_limit 0) before x (omega arith) in
          let length' : l.length + length x ≡ length (before ++ x) = rw length-append (omega arith) in
          λ i. record { bytes = bytes' i; length = length' i };
    }

-- what is known of a line with a text behind it, if it holds a text before
pub behind : {l r : Line} {t x : List ℕ} {n : ℕ} (m : ℕ) → Short t l n → Added l x r → n + length x ≤ m → Short (t ++ x) r m
behind {t = t} m s a h = record { room = a.room; short = omega (arith, s.short, a.long); holds = a.holds t s.holds }

-- a text that is another
pub text_is : {l r : Line} {x y : List ℕ} (k : ℕ) → x ≡ y → length x ≤ k → Added l x r → Added l y r × (length y ≤ k)
text_is {l} {r} k e h a = (subst (λ (t : List ℕ). Added l t r) e a, rw (← e) h)

-- a number by its digits
pub one_digit : (n a : ℕ) → n < 10 → a ≡ digit n → a ∷ [] ≡ decimal n
unfolding decimal
one_digit n a h e = rw (lt-ltb n 10, e)

pub two_digits : (n a b : ℕ) → 10 ≤ n → n < 100 → a ≡ digit (n / 10) → b ≡ digit (n % 10) → a ∷ b ∷ [] ≡ decimal n
unfolding decimal
two_digits n a b l h e f = rw (le-ltb n 10, lt-ltb n 100, e, f)

pub three_digits : (n a b c : ℕ) → 100 ≤ n → a ≡ digit (n / 100) → b ≡ digit (n / 10 % 10) → c ≡ digit (n % 10) → a ∷ b ∷ c ∷ [] ≡ decimal n
unfolding decimal
three_digits n a b c l e f g =
    let l' : 10 ≤ n = omega arith in
    rw (le-ltb n 10 l', le-ltb n 100, e, f, g)

-- a place of a ring of right sizes: its numbers have at most three digits, and its slot lies in the image
pub record Fits (ring : List ℕ) (slots p s : ℕ) : Type 0 where
  pub page : p < 1000
  pub slot : s < 1000
  pub ends : slot_length * (p * slots + s) + slot_length ≤ length ring

module _ (pages slots : ℕ) (ring : List ℕ) (w : ring_wrong pages slots ring ≡ false) {n : Newest} (e : n ≡ read_ring ring pages slots) where
  fits : Within pages slots n → Fits ring slots (newest_page n) (newest_slot n)
  fits i =
      let z = sized pages slots ring w in
      record {
        page = omega (arith, i.page_in, z.numbers.few_pages);
        slot = omega (arith, i.slot_in, z.numbers.few_slots);
        ends = slot_ends z (newest_page n) i.page_in (newest_slot n) i.slot_in;
      }

  pub newest_fits : Fits ring slots (newest_page n) (newest_slot n)
  newest_fits = fits (subst (Within pages slots) (sym e) (read_within pages slots ring w))

  pub pending_fits : (p q : ℕ) → n ≡ AtPending p q → q < 1000
  pending_fits p q f = omega (arith, (pending_before pages slots ring w p q (sym e ∙ f)).0, (sized pages slots ring w).numbers.few_pages)

-- the same text, under another name and a weaker bound
pub no_longer : {r : Line} {t x : List ℕ} {n : ℕ} (m : ℕ) → t ≡ x → n ≤ m → Short t r n → Short x r m
no_longer m e h s = record { room = s.room; short = omega (arith, s.short); holds = s.holds ∙ ap line_of e }

-- the text by the test of the sizes
module _ (pages slots : ℕ) (ring : List ℕ) where
  pub text_wrong : ring_wrong pages slots ring ≡ true → refused_text (stop_number RingSize) ++ ascii "\n" ≡ ring_text pages slots ring
  unfolding ring_text
  text_wrong e = rw e

  pub text_right : ring_wrong pages slots ring ≡ false → newest_text ring slots (read_ring ring pages slots) ++ ascii "\n" ≡ ring_text pages slots ring
  unfolding ring_text
  text_right e = rw e
