-- Laws of the lines of a text: how it is cut into lines, and what is judged and stored behind the first. Assumes nothing.
use mathlib.Core.Path.{◌≡◌, refl, sym, ap, subst, ◌∙◌}
use mathlib.Core.Bool.{Bool, true, false, cond, not, ◌&&◌, ◌||◌}
use mathlib.Core.Option.{Option, none, some}
use mathlib.Core.Logic.{◌⊎◌, inl, inr}
use mathlib.Core.List.{List, [], ◌∷◌, ◌++◌, append_assoc}
use Prim.Native.Nat.{ℕ, zero, suc, ◌+◌, ◌-◌, ◌*◌, ◌≤◌, ◌<◌}
use native.Mathlib.Numerals.{add-one}
use native.Mathlib.Omega.{arith}
use lib.Dec.{eqb, ltb}
use lib.ListN.{length, take, drop, get_or, length-append, length-drop, take-append-drop, get_or-append}
use lib.Seq.{take-suc, take_all, take_at, drop-cons, get_or-drop, get_or_at, get_or-append-add, length-take-le}
use borrow.Author.Tests.{ltb-true, ltb-false, eqb-true, eq-eqb, ne_eqb}
use Rattle.octets.specs.Octets.{part, put}
use Rattle.octets.proofs.Laws.{drop_take}
use Rattle.stops.specs.Stops.{first_of}
use Rattle.hex_digits.specs.Digits.{is_digit, all_digits}
use Rattle.hex_digits.proofs.Laws.{digit_at}
use Rattle.hex_lines.specs.Format.{mark, line_feed, carriage_return, data_line, upper_line, boundary}
use Rattle.hex_lines.specs.Line.{data_length, address, kind, shape_wrong, malformed, checksum_wrong}
use Rattle.hex_lines.specs.Inner.{line_end, Begins}
use Rattle.hex_lines.proofs.ReadLaws.{good, Ends, feed, return_feed, ends, end_inside, end_is_feed, end_is_return, Same, at_front, byte_front, same_front, not_malformed, line_size, Frame, frame_begins}
use Rattle.intel_hex.specs.Import.{Lines, line, rest, longer, lines_of, bare, misplaced, line_stop, after, image_after, or_else, empty, text_stop, stored}
use Rattle.intel_hex.specs.Inner.{checks}
use Rattle.intel_hex.specs.declared.import.Reading.{Reading}

-- ---- lines

pub lines_split : (l t : List ℕ) → ((i : ℕ) → i < length l → get_or l i 0 ≡ line_feed → ⊥) → lines_of (l ++ (line_feed ∷ t)) ≡ line l (lines_of t)
unfolding lines_of
lines_split [] t n = refl
lines_split (b ∷ l) t n =
    rw (ne_eqb b line_feed (n 0 (omega arith))) (ap (longer b) (lines_split l t (λ i h. n (suc i) (omega arith))))

-- the line l stands first in s, and more behind it
record Cut (s l : List ℕ) (more : Lines) : Type 0 where
  behind : List ℕ
  splits : s ≡ l ++ (line_feed ∷ behind)
  lines : more ≡ lines_of behind

lines_cut : (s l : List ℕ) (more : Lines) → lines_of s ≡ line l more → Cut s l more
unfolding lines_of
lines_cut [] l more e = let z : ◌≡◌ {A = ℕ} 0 1 = cc in absurd (omega arith)
lines_cut (b ∷ s) l more e = fed (eqb b line_feed) refl e (λ l' more' f. lines_cut s l' more' f)
  where
    longer_cut : (ls : Lines) → lines_of s ≡ ls → longer b ls ≡ line l more → ((l' : List ℕ) (more' : Lines) → lines_of s ≡ line l' more' → Cut s l' more') → Cut (b ∷ s) l more
    longer_cut (line l' more') f e again =
        let c : Cut s l' more' = again l' more' f in
        let el : l ≡ b ∷ l' = cc in
        let em : more ≡ more' = cc in
        record {
          behind = c.behind;
          splits = ap (λ (t : List ℕ). b ∷ t) c.splits ∙ ap (λ (t : List ℕ). t ++ (line_feed ∷ c.behind)) (sym el);
          lines = em ∙ c.lines;
        }
    longer_cut (rest t) f e again = let z : ◌≡◌ {A = ℕ} 0 1 = cc in absurd (omega arith)

    fed : (t : Bool) → eqb b line_feed ≡ t → cond t (line [] (lines_of s)) (longer b (lines_of s)) ≡ line l more
        → ((l' : List ℕ) (more' : Lines) → lines_of s ≡ line l' more' → Cut s l' more') → Cut (b ∷ s) l more
    fed true f e again =
        let el : l ≡ [] = cc in
        let em : more ≡ lines_of s = cc in
        record {
          behind = s;
          splits = ap (λ (c : ℕ). c ∷ s) (eqb-true b line_feed f) ∙ ap (λ (t : List ℕ). t ++ (line_feed ∷ s)) (sym el);
          lines = em;
        }
    fed false f e again = longer_cut (lines_of s) refl e again

-- bytes that no line feed closes are some, if the text has some
rest_empty : (s t : List ℕ) → lines_of s ≡ rest t → 0 < length s → empty t ≡ false
unfolding lines_of
rest_empty [] t e h = absurd (omega arith)
rest_empty (b ∷ s) t e h = fed (eqb b line_feed) e
  where
    longer_rest : (ls : Lines) → longer b ls ≡ rest t → empty t ≡ false
    longer_rest (line l more) e = let z : ◌≡◌ {A = ℕ} 0 1 = cc in absurd (omega arith)
    longer_rest (rest u) e = let f : t ≡ b ∷ u = cc in ap empty f

    fed : (c : Bool) → cond c (line [] (lines_of s)) (longer b (lines_of s)) ≡ rest t → empty t ≡ false
    fed true e = let z : ◌≡◌ {A = ℕ} 0 1 = cc in absurd (omega arith)
    fed false e = longer_rest (lines_of s) e

-- ---- the carriage return before a line feed

bare_is : (l : List ℕ) → (bare l ≡ l) ⊎ (l ≡ bare l ++ (carriage_return ∷ []))
unfolding bare
bare_is l = go (eqb (get_or l (length l - 1) 0) carriage_return) refl
  where
    go : (t : Bool) → eqb (get_or l (length l - 1) 0) carriage_return ≡ t
        → (cond t (take (length l - 1) l) l ≡ l) ⊎ (l ≡ cond t (take (length l - 1) l) l ++ (carriage_return ∷ []))
    go false e = inl refl
    go true e = inr (some_bytes l (eqb-true (get_or l (length l - 1) 0) carriage_return e))
      where
        some_bytes : (l : List ℕ) → get_or l (length l - 1) 0 ≡ carriage_return → l ≡ take (length l - 1) l ++ (carriage_return ∷ [])
        some_bytes [] e = absurd (omega arith)
        some_bytes (b ∷ m) e =
            let n : ℕ = length (b ∷ m) - 1 in
            let f : suc n ≡ length (b ∷ m) = omega arith in
            sym (take_all (suc n) (b ∷ m) (omega arith)) ∙ take-suc (b ∷ m) n 0 (omega arith) ∙ ap (λ (c : ℕ). take n (b ∷ m) ++ (c ∷ [])) e

bare_same : (l : List ℕ) → (get_or l (length l - 1) 0 ≡ carriage_return → ⊥) → bare l ≡ l
unfolding bare
bare_same l n = ap (λ (t : Bool). cond t (take (length l - 1) l) l) (ne_eqb (get_or l (length l - 1) 0) carriage_return n)

bare_return : (l : List ℕ) → bare (l ++ (carriage_return ∷ [])) ≡ l
unfolding bare
bare_return l =
    let e : length (l ++ (carriage_return ∷ [])) - 1 ≡ length l = omega (arith, length-append l (carriage_return ∷ [])) in
    rw e (ap (λ (t : Bool). cond t (take (length l) (l ++ (carriage_return ∷ []))) (l ++ (carriage_return ∷ [])))
    (eq-eqb (get_or (l ++ (carriage_return ∷ [])) (length l) 0) carriage_return (get_or_at l carriage_return [] 0 (length l) refl))
    ∙ take_at l (carriage_return ∷ []) (length l) refl)

-- ---- a text that begins with a line

no_digit : (c b : ℕ) → is_digit c ≡ true → is_digit b ≡ false → c ≡ b → ⊥
no_digit c b d n e = let z : ◌≡◌ {A = Bool} true false = sym d ∙ ap is_digit e ∙ n in let y : ◌≡◌ {A = ℕ} 0 1 = cc in omega arith

-- where the first line of a text is not malformed
line_begins : (s l : List ℕ) (more : Lines) → lines_of s ≡ line l more → malformed (bare l) ≡ false → Begins s
line_begins s l more e m = frame_begins (bare l) s (good (bare l) m) (framed (bare_is l))
  where
    c : Cut s l more
    c = lines_cut s l more e

    framed : (bare l ≡ l) ⊎ (l ≡ bare l ++ (carriage_return ∷ [])) → Frame (bare l) s
    framed (inl f) =
        let front : s ≡ bare l ++ (line_feed ∷ c.behind) = c.splits ∙ ap (λ (x : List ℕ). x ++ (line_feed ∷ c.behind)) (sym f) in
        let at : get_or s (length (bare l)) 0 ≡ line_feed =
        ap (λ (x : List ℕ). get_or x (length (bare l)) 0) front ∙ get_or_at (bare l) line_feed c.behind 0 (length (bare l)) refl in
        record { behind = line_feed ∷ c.behind; front = front; closed = rw (end_is_feed s (length (bare l)) at) (omega arith) }
    framed (inr f) =
        let t : List ℕ = carriage_return ∷ line_feed ∷ c.behind in
        let front : s ≡ bare l ++ t =
        c.splits ∙ ap (λ (x : List ℕ). x ++ (line_feed ∷ c.behind)) f ∙ append_assoc (bare l) (carriage_return ∷ []) (line_feed ∷ c.behind) in
        let at : get_or s (length (bare l)) 0 ≡ carriage_return =
        ap (λ (x : List ℕ). get_or x (length (bare l)) 0) front ∙ get_or_at (bare l) carriage_return (line_feed ∷ c.behind) 0 (length (bare l)) refl in
        let next : get_or s (length (bare l) + 1) 0 ≡ line_feed =
        ap (λ (x : List ℕ). get_or x (length (bare l) + 1) 0) front ∙ get_or-append-add (bare l) t 1 0 in
        record { behind = t; front = front; closed = rw (end_is_return s (length (bare l)) at next) (omega arith) }

-- the line that a text begins with
pub record Begun (s : List ℕ) : Type 0 where
  pub raw : List ℕ
  pub lines : lines_of s ≡ line raw (lines_of (drop (line_size s) s))
  pub good : malformed (bare raw) ≡ false
  pub same : Same (bare raw) s
  pub inside : line_size s ≤ length s

pub begun : (s : List ℕ) → Begins s → Begun s
unfolding part
begun s g = closed (ends s (line_end s) g.closed)
  where
    n : ℕ
    n = line_end s

    b : List ℕ
    b = take n s

    inside : line_size s ≤ length s
    inside = end_inside s n (ends s n g.closed)

    long : length b ≡ n
    long = length-take-le n s (omega (arith, inside))

    front : s ≡ b ++ drop n s
    front = sym (take-append-drop n s)

    digits : all_digits (drop 1 b) ≡ true
    digits =
        let m : line_end s ≡ 1 + (10 + 2 * data_length s) = omega arith in
        ap (λ (k : ℕ). all_digits (drop 1 (take k s))) m ∙ ap all_digits (drop_take 1 (10 + 2 * data_length s) s) ∙ g.digits

    same_length : data_length s ≡ data_length b
    same_length = byte_front b (drop n s) s front 0 (omega (arith, long))

    long_b : length b ≡ 11 + 2 * data_length b
    long_b = long ∙ ap (λ (m : ℕ). 11 + 2 * m) same_length

    same : Same b s
    same = same_front b (drop n s) s front long_b

    right : malformed b ≡ false
    right = not_malformed b (record {
      marked = sym (at_front b (drop n s) s front 0 (omega (arith, long))) ∙ g.marked;
      digits = digits;
      long = long_b;
      shape = sym (λ i. shape_wrong (same.kind i) (same.length i) (same.address i)) ∙ g.shape;
    })

    -- behind the mark stand digits, and no digit is a line feed or a carriage return
    digit : (i : ℕ) → 0 < i → i < n → is_digit (get_or b i 0) ≡ true
    digit i p h =
        let e : 1 + (i - 1) ≡ i = omega arith in
        subst (λ (k : ℕ). is_digit (get_or b k 0) ≡ true) e
        (ap is_digit (sym (get_or-drop 1 b (i - 1) 0)) ∙ digit_at (drop 1 b) (i - 1) digits (rw length-drop (omega (arith, long))))

    no_feed : (i : ℕ) → i < length b → get_or b i 0 ≡ line_feed → ⊥
    no_feed zero h e =
        let m : get_or b 0 0 ≡ mark = sym (at_front b (drop n s) s front 0 (omega (arith, long))) ∙ g.marked in
        omega arith
    no_feed (suc i) h e = no_digit (get_or b (suc i) 0) line_feed (digit (suc i) (omega arith) (omega (arith, long))) refl e

    no_return : get_or b (length b - 1) 0 ≡ carriage_return → ⊥
    no_return e = no_digit (get_or b (length b - 1) 0) carriage_return (digit (length b - 1) (omega (arith, long)) (omega (arith, long))) refl e

    closed : Ends s n → Begun s
    closed (feed e f) =
        let t : List ℕ = drop (n + 1) s in
        let h : n < length s = omega (arith, inside) in
        let d : drop n s ≡ line_feed ∷ t = drop-cons s n 0 h ∙ (λ i. f i ∷ drop (sym (add-one n) i) s) in
        let bared : bare b ≡ b = bare_same b no_return in
        record {
          raw = b;
          lines = ap lines_of (front ∙ ap (λ (x : List ℕ). b ++ x) d) ∙ lines_split b t no_feed ∙ ap (λ (k : ℕ). line b (lines_of (drop (n + k) s))) (sym e);
          good = ap malformed bared ∙ right;
          same = subst (λ (x : List ℕ). Same x s) (sym bared) same;
          inside = inside;
        }
    closed (return_feed e f f') =
        let t : List ℕ = drop (n + 2) s in
        let h : n + 1 < length s = omega (arith, inside) in
        let two : suc (n + 1) ≡ n + 2 = omega arith in
        let d : drop n s ≡ carriage_return ∷ line_feed ∷ t =
        drop-cons s n 0 (omega arith) ∙ (λ i. f i ∷ drop (sym (add-one n) i) s) ∙ ap (λ (x : List ℕ). carriage_return ∷ x) (drop-cons s (n + 1) 0 h ∙ (λ i. f' i ∷ drop (two i) s)) in
        let bared : bare (b ++ (carriage_return ∷ [])) ≡ b = bare_return b in
        record {
          raw = b ++ (carriage_return ∷ []);
          lines = ap lines_of (front ∙ ap (λ (x : List ℕ). b ++ x) d ∙ sym (append_assoc b (carriage_return ∷ []) (line_feed ∷ t)))
              ∙ lines_split (b ++ (carriage_return ∷ [])) t no_feed_more ∙ ap (λ (k : ℕ). line (b ++ (carriage_return ∷ [])) (lines_of (drop (n + k) s))) (sym e);
          good = ap malformed bared ∙ right;
          same = subst (λ (x : List ℕ). Same x s) (sym bared) same;
          inside = inside;
        }
      where
        no_feed_more : (i : ℕ) → i < length (b ++ (carriage_return ∷ [])) → get_or (b ++ (carriage_return ∷ [])) i 0 ≡ line_feed → ⊥
        no_feed_more i h e = go (ltb i (length b)) refl
          where
            go : (u : Bool) → ltb i (length b) ≡ u → ⊥
            go true l = no_feed i (ltb-true i (length b) l) (sym (get_or-append b (carriage_return ∷ []) 0 i (ltb-true i (length b) l)) ∙ e)
            go false l =
                let k : length b ≡ i = omega (arith, ltb-false i (length b) l, length-append b (carriage_return ∷ [])) in
                let z : carriage_return ≡ line_feed = sym (get_or_at b carriage_return [] 0 i k) ∙ e in
                omega arith

-- ---- judging and storing, a line further

pub or_false : (a b : Bool) → b ≡ false → a || b ≡ a
or_false true b e = refl
or_false false b e = e

module _ (s : List ℕ) (u : Begun s) where
  line_checks : (size : ℕ) (r : Reading) → line_stop size r (bare u.raw) ≡ checks size r (kind s) (address s) (data_length s) (checksum_wrong s)
  unfolding line_stop checks
  line_checks size r =
      let e = u.same in
      ap (λ (t : Bool). first_of ((15, t) ∷ (16, checksum_wrong (bare u.raw)) ∷ (17, eqb (kind (bare u.raw)) data_line && misplaced size (r.upper * boundary + address (bare u.raw)) (address (bare u.raw)) (data_length (bare u.raw)) r.next) ∷ []))
      (or_false r.ended (malformed (bare u.raw)) u.good)
      ∙ sym (λ i. first_of ((15, r.ended) ∷ (16, e.checksum i) ∷ (17, eqb (e.kind i) data_line && misplaced size (r.upper * boundary + e.address i) (e.address i) (e.length i) r.next) ∷ []))

  after_line : (r : Reading) → after r (bare u.raw) ≡ after r s
  unfolding after
  after_line r =
      let e = u.same in
      sym (λ i.
      cond (eqb (e.kind i) data_line) (record { upper = r.upper; next = r.upper * boundary + e.address i + e.length i; ended = r.ended })
      (cond (eqb (e.kind i) upper_line) (record { upper = get_or (e.bytes i) 0 0 * 256 + get_or (e.bytes i) 1 0; next = r.next; ended = r.ended })
      (record { upper = r.upper; next = r.next; ended = true })))

  image_line : (r : Reading) (image : List ℕ) → image_after r image (bare u.raw) ≡ image_after r image s
  unfolding image_after
  image_line r image = let e = u.same in sym (λ i. cond (eqb (e.kind i) data_line) (put image (r.upper * boundary + e.address i) (e.bytes i)) image)

  pub stop_on : (size : ℕ) (r : Reading)
      → text_stop size r (lines_of s) ≡ or_else (checks size r (kind s) (address s) (data_length s) (checksum_wrong s)) (text_stop size (after r s) (lines_of (drop (line_size s) s)))
  unfolding text_stop
  stop_on size r =
      ap (text_stop size r) u.lines
      ∙ (λ i. or_else (line_checks size r i) (text_stop size (after_line r i) (lines_of (drop (line_size s) s))))

  pub stored_on : (r : Reading) (image : List ℕ) → stored r image (lines_of s) ≡ stored (after r s) (image_after r image s) (lines_of (drop (line_size s) s))
  unfolding stored
  stored_on r image =
      ap (stored r image) u.lines ∙ (λ i. stored (after_line r i) (image_line r image i) (lines_of (drop (line_size s) s)))

-- a text that does not begin with a line is refused with 15
module _ (s : List ℕ) (some_bytes : 0 < length s) (size : ℕ) (r : Reading) where
  refused_line : (l : List ℕ) (more : Lines) → malformed (bare l) ≡ true → text_stop size r (line l more) ≡ some 15
  unfolding text_stop line_stop first_of
  refused_line l more e = go r.ended refl
    where
      go : (t : Bool) → r.ended ≡ t → or_else (line_stop size r (bare l)) (text_stop size (after r (bare l)) more) ≡ some 15
      go true f = rw (f) refl
      go false f = rw (f, e) refl

  refused_rest : (t : List ℕ) → empty t ≡ false → text_stop size r (rest t) ≡ some 15
  unfolding text_stop first_of
  refused_rest t e = go r.ended refl
    where
      go : (u : Bool) → r.ended ≡ u → cond {A = Option ℕ} (not r.ended || not (empty t)) (some 15) none ≡ some 15
      go true f = rw (f, e) refl
      go false f = rw f refl

  -- it begins with a line, or it is refused
  begins_or : (Begins s) ⊎ (text_stop size r (lines_of s) ≡ some 15)
  begins_or = go (lines_of s) refl
    where
      go : (ls : Lines) → lines_of s ≡ ls → (Begins s) ⊎ (text_stop size r (lines_of s) ≡ some 15)
      go (rest t) e = inr (ap (text_stop size r) e ∙ refused_rest t (rest_empty s t e some_bytes))
      go (line l more) e = right (malformed (bare l)) refl
        where
          right : (t : Bool) → malformed (bare l) ≡ t → (Begins s) ⊎ (text_stop size r (lines_of s) ≡ some 15)
          right true f = inr (ap (text_stop size r) e ∙ refused_line l more f)
          right false f = inl (line_begins s l more e f)

  pub not_begun : (Begins s → ⊥) → text_stop size r (lines_of s) ≡ some 15
  not_begun n = go begins_or
    where
      go : (Begins s) ⊎ (text_stop size r (lines_of s) ≡ some 15) → text_stop size r (lines_of s) ≡ some 15
      go (inl g) = absurd (n g)
      go (inr e) = e

  pub judged_begins : text_stop size r (lines_of s) ≡ none → Begins s
  judged_begins p = go begins_or
    where
      go : (Begins s) ⊎ (text_stop size r (lines_of s) ≡ some 15) → Begins s
      go (inl g) = g
      go (inr e) = let z : ◌≡◌ {A = ℕ} 0 1 = cc in absurd (omega arith)
