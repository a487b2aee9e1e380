-- After an accepted import the image holds each byte that a data line names, and everywhere else what it held. Assumes nothing.
use mathlib.Core.Path.{◌≡◌, refl, sym, ap, subst, ◌∙◌}
use mathlib.Core.Bool.{Bool, true, false, ◌&&◌, ◌||◌}
use mathlib.Core.Option.{Option, none, some}
use mathlib.Core.Logic.{inl, inr, ⊎_elim}
use mathlib.Core.List.{List, [], ◌∷◌}
use Prim.Native.Nat.{ℕ, ◌+◌, ◌-◌, ◌≤◌, ◌<◌}
use native.Mathlib.Omega.{arith}
use lib.Dec.{eqb, ltb}
use lib.ListN.{length, get_or}
use borrow.Author.Tests.{eqb-true, eqb-false, ltb-true, ltb-false}
use Rattle.octets.specs.Octets.{put}
use Rattle.octets.proofs.Laws.{length_put, put_before, put_within, put_after}
use Rattle.octets.proofs.Tables.{length_table, get_or_table}
use Rattle.stops.specs.Stops.{first_of}
use Rattle.stops.proofs.Laws.{passes}
use Rattle.hex_lines.specs.Format.{data_line, upper_line}
use Rattle.hex_lines.specs.Line.{byte_of, data_length, address, kind, data_bytes, upper_bits, malformed, checksum_wrong}
use Rattle.intel_hex.specs.Export.{image_wrong}
use Rattle.intel_hex.specs.Import.{Lines, line, rest, lines_of, bare, data_place, misplaced, start, line_stop, after, image_after, text_stop, stored, import_stop, import_by, import}
use Rattle.intel_hex.specs.Names.{LineNames, Names, Precisely}
use Rattle.intel_hex.specs.declared.import.Reading.{Reading}
use Rattle.intel_hex.proofs.ImportLaws.{after_data, after_upper, after_end, image_data, image_other, both_none, Placed, well_placed}

-- the first address above the data, behind a line
next_data : (l : List ℕ) (r : Reading) → kind l ≡ data_line → (after r l).next ≡ data_place r l + data_length l
next_data l r k = sym (ap (λ (x : Reading). x.next) (after_data l r (data_place r l) (data_length l) k refl refl))

next_other : (l : List ℕ) (r : Reading) → (kind l ≡ data_line → ⊥) → (after r l).next ≡ r.next
next_other l r k = go (eqb (kind l) upper_line) refl
  where
    go : (t : Bool) → eqb (kind l) upper_line ≡ t → (after r l).next ≡ r.next
    go true e = sym (ap (λ (x : Reading). x.next) (after_upper l r (upper_bits l) (eqb-true (kind l) upper_line e) refl))
    go false e = sym (ap (λ (x : Reading). x.next) (after_end l r k (eqb-false (kind l) upper_line e)))

-- what a line that passed leaves
record Stored (size : ℕ) (r : Reading) (image l : List ℕ) : Type 0 where
  long : length (image_after r image l) ≡ length image
  above : r.next ≤ (after r l).next
  kept : (i : ℕ) → i < r.next → get_or (image_after r image l) i 0 ≡ get_or image i 0
  inside : (i b : ℕ) → LineNames r l i b → i < size
  below : (i b : ℕ) → LineNames r l i b → i < (after r l).next
  named : (i b : ℕ) → LineNames r l i b → get_or (image_after r image l) i 0 ≡ b
  others : (i : ℕ) → ((b : ℕ) → LineNames r l i b → ⊥) → get_or (image_after r image l) i 0 ≡ get_or image i 0

module _ (size : ℕ) (r : Reading) (image l : List ℕ) (whole : length image ≡ size) where
  other_stored : (kind l ≡ data_line → ⊥) → Stored size r image l
  other_stored k =
      let same : image_after r image l ≡ image = sym (image_other l image r k) in
      record {
        long = ap length same;
        above = omega (arith, next_other l r k);
        kept = λ i h. ap (λ (x : List ℕ). get_or x i 0) same;
        inside = λ i b m. absurd (k m.is_data);
        below = λ i b m. absurd (k m.is_data);
        named = λ i b m. absurd (k m.is_data);
        others = λ i m. ap (λ (x : List ℕ). get_or x i 0) same;
      }

  data_stored : kind l ≡ data_line → Placed size (data_place r l) (data_length l) r.next → Stored size r image l
  data_stored k w =
      record {
        long = ap length (sym put_is) ∙ length_put image p d (omega (arith, w.fits, dl));
        above = omega (arith, next_data l r k, w.rises);
        kept = λ i h. ap (λ (x : List ℕ). get_or x i 0) (sym put_is) ∙ put_before image d p i (omega (arith, w.fits)) (omega (arith, w.rises));
        inside = λ i b m. omega (arith, w.fits, m.within, m.place);
        below = λ i b m. omega (arith, next_data l r k, m.within, m.place);
        named = λ i b m. ap (λ (x : List ℕ). get_or x i 0) (sym put_is) ∙ ap (λ (j : ℕ). get_or (put image p d) j 0) m.place
            ∙ put_within image d p m.offset (omega (arith, w.fits)) (omega (arith, dl, m.within))
            ∙ get_or_table n (λ j. byte_of l (4 + j)) m.offset m.within ∙ sym m.byte;
        others = λ i m. ap (λ (x : List ℕ). get_or x i 0) (sym put_is) ∙ elsewhere i m (ltb i p) refl (ltb i (p + n)) refl;
      }
    where
      n : ℕ
      n = data_length l

      p : ℕ
      p = data_place r l

      d : List ℕ
      d = data_bytes l

      dl : length d ≡ n
      dl = length_table n (λ j. byte_of l (4 + j))

      put_is : put image p d ≡ image_after r image l
      put_is = image_data l image r k

      elsewhere : (i : ℕ) → ((b : ℕ) → LineNames r l i b → ⊥) → (t : Bool) → ltb i p ≡ t → (u : Bool) → ltb i (p + n) ≡ u → get_or (put image p d) i 0 ≡ get_or image i 0
      elsewhere i m true e u f = put_before image d p i (omega (arith, w.fits)) (ltb-true i p e)
      elsewhere i m false e true f =
          let h : p ≤ i = ltb-false i p e in
          let h' : i < p + n = ltb-true i (p + n) f in
          absurd (m (byte_of l (4 + (i - p))) (record { is_data = k; offset = i - p; within = omega arith; place = omega arith; byte = refl }))
      elsewhere i m false e false f = put_after image d p i (omega (arith, w.fits)) (omega (arith, dl, ltb-false i (p + n) f))

  stored_line : line_stop size r l ≡ none → Stored size r image l
  unfolding line_stop
  stored_line e = go (eqb (kind l) data_line) refl
    where
      m : Bool
      m = misplaced size (data_place r l) (address l) (data_length l) r.next

      last : (eqb (kind l) data_line && m) ≡ false
      last = (passes ((15, r.ended || malformed l) ∷ (16, checksum_wrong l) ∷ (17, eqb (kind l) data_line && m) ∷ []) e).1.1.0

      go : (t : Bool) → eqb (kind l) data_line ≡ t → Stored size r image l
      go true f =
          data_stored (eqb-true (kind l) data_line f)
          (well_placed size (data_place r l) (address l) (data_length l) r.next (sym (ap (λ (t : Bool). t && m) f) ∙ last))
      go false f = other_stored (eqb-false (kind l) data_line f)

-- what the lines behind a reading leave below its data
kept_below : (size : ℕ) (r : Reading) (image : List ℕ) (ls : Lines) → length image ≡ size → text_stop size r ls ≡ none
    → (i : ℕ) → i < r.next → get_or (stored r image ls) i 0 ≡ get_or image i 0
unfolding text_stop stored
kept_below size r image (rest s) w e i h = refl
kept_below size r image (line l more) w e i h =
    let b = both_none (line_stop size r (bare l)) (text_stop size (after r (bare l)) more) e in
    let k : Stored size r image (bare l) = stored_line size r image (bare l) w b.0 in
    kept_below size (after r (bare l)) (image_after r image (bare l)) more (k.long ∙ w) b.1 i (omega (arith, k.above)) ∙ k.kept i h

-- a line more
module _ (size : ℕ) (r : Reading) (image l : List ℕ) (more : Lines) (w : length image ≡ size) (k : Stored size r image (bare l))
    (e : text_stop size (after r (bare l)) more ≡ none)
    (p : Precisely (after r (bare l)) more (image_after r image (bare l)) (stored (after r (bare l)) (image_after r image (bare l)) more)) where
  below : (i : ℕ) → i < (after r (bare l)).next → get_or (stored (after r (bare l)) (image_after r image (bare l)) more) i 0 ≡ get_or (image_after r image (bare l)) i 0
  below = kept_below size (after r (bare l)) (image_after r image (bare l)) more (k.long ∙ w) e

  precisely_line : Precisely r (line l more) image (stored r image (line l more))
  unfolding stored Names
  precisely_line = record {
    same_length = p.same_length ∙ k.long;
    inside = λ i b m. ⊎_elim (λ h. subst (λ (s : ℕ). i < s) (sym w) (k.inside i b h)) (λ h. subst (λ (s : ℕ). i < s) k.long (p.inside i b h)) m;
    named = λ i b m. ⊎_elim (λ h. below i (k.below i b h) ∙ k.named i b h) (λ h. p.named i b h) m;
    others = λ i m. p.others i (λ b h. m b (inr h)) ∙ k.others i (λ b h. m b (inl h));
  }

precisely_lines : (size : ℕ) (r : Reading) (image : List ℕ) (ls : Lines) → length image ≡ size → text_stop size r ls ≡ none → Precisely r ls image (stored r image ls)
unfolding text_stop stored Names
precisely_lines size r image (rest s) w e = record { same_length = refl; inside = λ i b m. absurd m; named = λ i b m. absurd m; others = λ i m. refl }
precisely_lines size r image (line l more) w e =
    let b = both_none (line_stop size r (bare l)) (text_stop size (after r (bare l)) more) e in
    let k : Stored size r image (bare l) = stored_line size r image (bare l) w b.0 in
    precisely_line size r image l more w k b.1 (precisely_lines size (after r (bare l)) (image_after r image (bare l)) more (k.long ∙ w) b.1)

-- ---- the theorem

-- an import that answers no stop stored the lines, and its text passes
accepted : (o : Option ℕ) (text image : List ℕ) → (import_by o text image).stop ≡ none → (o ≡ none) × ((import_by o text image).image ≡ stored start image (lines_of text))
unfolding import_by
accepted none text image e = (refl, refl)
accepted (some n) text image e = let z : ◌≡◌ {A = ℕ} 0 1 = cc in absurd (omega arith)

pub precisely : (text image : List ℕ) → (import text image).stop ≡ none → Precisely start (lines_of text) image (import text image).image
unfolding import import_stop
precisely text image e =
    let a = accepted (import_stop text image) text image e in
    let b = both_none (first_of ((2, image_wrong (length image)) ∷ [])) (text_stop (length image) start (lines_of text)) a.0 in
    subst (Precisely start (lines_of text) image) (sym a.1) (precisely_lines (length image) start image (lines_of text) refl b.1)
