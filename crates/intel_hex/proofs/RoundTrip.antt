-- Importing an export into any image of the same length gives the exported image. Assumes nothing.
use mathlib.Core.Path.{◌≡◌, refl, sym, ap, ap₂, subst, ◌∙◌}
use mathlib.Core.Bool.{Bool, true, false, cond, not, ◌&&◌}
use mathlib.Core.Option.{Option, none, some}
use mathlib.Core.List.{List, [], ◌∷◌, ◌++◌, append_assoc, append-nil}
use Prim.Native.Nat.{ℕ, zero, suc, ◌+◌, ◌-◌, ◌*◌, ◌/◌, ◌%◌, ◌^◌, ◌≤◌, ◌<◌, min}
use native.Mathlib.Nat.{zero-add, mod-lt}
use native.Mathlib.Numerals.{one-add}
use native.Mathlib.Omega.{arith}
use lib.Dec.{lit<, eqb, ltb}
use lib.ListN.{length, take, drop, get_or, length-append, length-take, length-drop, get_or-append}
use lib.Seq.{take-add, take_all, take_at, drop_at, get_or_at, get_or-drop, length-take-le}
use borrow.Author.Tests.{eqb-true, eqb-false, eq-eqb, le-ltb, lt-ltb}
use Rattle.octets.specs.Limits.{image_limit, data_per_line}
use Rattle.octets.specs.Octets.{Bytes, part, put, bytes}
use Rattle.octets.specs.Table.{table}
use Rattle.octets.proofs.Laws.{put_front}
use Rattle.octets.proofs.Bytes.{bytes_append, bytes_part, bytes_bytes}
use Rattle.octets.proofs.Lent.{put_on, over}
use Rattle.octets.proofs.Tables.{is_table}
use Rattle.stops.specs.Stops.{first_of}
use Rattle.stops.proofs.Laws.{passes}
use Rattle.hex_digits.specs.Digits.{digit_value, all_digits, pair, encoded}
use Rattle.hex_digits.proofs.Laws.{length_encoded, encoded_digits, pair_encoded}
use Rattle.hex_lines.specs.Format.{mark, line_feed, data_line, end_line, upper_line, boundary, checksum}
use Rattle.hex_lines.specs.Line.{line_bytes, hex_line, byte_of, bytes_of, data_length, address, kind, data_bytes, upper_bits, shape_wrong, checksum_wrong}
use Rattle.hex_lines.specs.Inner.{line_end, end_length, Begins}
use Rattle.hex_lines.proofs.WriteLaws.{length_hex_line}
use Rattle.hex_lines.proofs.ReadLaws.{line_size, end_is_feed}
use Rattle.intel_hex.specs.Export.{place, upper, upper_part, data_part, block, blocks, line_count, hex_text, image_wrong, export_stop, export_by, export}
use Rattle.intel_hex.specs.Import.{lines_of, data_place, misplaced, start, after, image_after, or_else, text_stop, stored, import}
use Rattle.intel_hex.specs.Inner.{checks}
use Rattle.intel_hex.specs.declared.import.Reading.{Reading}
use Rattle.intel_hex.proofs.ExportLaws.{upper_some, upper_none, image_fits}
use Rattle.intel_hex.proofs.TextLaws.{begun, stop_on, stored_on}
use Rattle.intel_hex.proofs.ImportLaws.{after_data, after_upper, after_end, image_data, image_other, text_end, stored_end, import_done, stop_text}

-- ---- a line as it was written, with a text behind it

one_byte : (x : ℕ) → x < 256 → Bytes (x ∷ [])
one_byte x h zero = h
one_byte x h (suc i) = lit< tt

-- the line's type, length and address are in range and go together
record Line (k a : ℕ) (s : List ℕ) : Type 0 where
  small : k < 256
  low : a < boundary
  short : length s < 256
  bytes_of : Bytes s
  shape : shape_wrong k (length s) a ≡ false

-- what is read of it
record Whole (k a : ℕ) (s t text : List ℕ) : Type 0 where
  begins : Begins text
  length_is : data_length text ≡ length s
  address_is : address text ≡ a
  kind_is : kind text ≡ k
  data_is : data_bytes text ≡ s
  checksum_is : checksum_wrong text ≡ false
  behind : drop (line_size text) text ≡ t

module _ (k a : ℕ) (s t : List ℕ) (l : Line k a s) where
  -- the bytes before the checksum, and all
  b : List ℕ
  b = line_bytes k a s

  B : List ℕ
  B = b ++ (checksum b ∷ [])

  E : List ℕ
  E = encoded B

  n : ℕ
  n = length s

  text : List ℕ
  text = hex_line k a s ++ t

  long_b : length b ≡ 4 + n
  unfolding b n bytes
  long_b = omega arith

  long_B : length B ≡ 5 + n
  unfolding B
  long_B = omega (arith, length-append b (checksum b ∷ []), long_b)

  long_E : length E ≡ 10 + 2 * n
  unfolding E
  long_E = omega (arith, length_encoded B, long_B)

  text_is : text ≡ mark ∷ (E ++ (line_feed ∷ t))
  unfolding text hex_line E B b
  text_is = ap (λ (x : List ℕ). mark ∷ x) (append_assoc (encoded (line_bytes k a s ++ (checksum (line_bytes k a s) ∷ []))) (line_feed ∷ []) t)

  small_b : Bytes b
  unfolding b bytes
  small_b zero = l.short
  small_b (suc zero) = mod-lt (a / 2 ^ 8) (lit< tt)
  small_b (suc (suc zero)) = mod-lt (a / 2 ^ 0) (lit< tt)
  small_b (suc (suc (suc zero))) = l.small
  small_b (suc (suc (suc (suc i)))) = l.bytes_of i

  small_B : Bytes B
  unfolding B
  small_B = bytes_append b (checksum b ∷ []) small_b (one_byte (checksum b) (mod-lt _ (lit< tt)))

  -- byte i of the line
  byte : (i : ℕ) → i < 5 + n → byte_of text i ≡ get_or B i 0
  unfolding E
  byte i h =
      ap (λ (x : List ℕ). pair x (1 + 2 * i)) text_is
      ∙ ap₂ (λ (x y : ℕ). digit_value x * 16 + digit_value y)
      (ap (λ (j : ℕ). get_or (mark ∷ (E ++ (line_feed ∷ t))) j 0) (one-add (2 * i)))
      (ap (λ (j : ℕ). get_or (mark ∷ (E ++ (line_feed ∷ t))) j 0) (let e : 1 + 2 * i + 1 ≡ suc (2 * i + 1) = omega arith in e))
      ∙ pair_encoded B (line_feed ∷ t) i small_B (omega (arith, long_B))

  first : (i : ℕ) → i < 4 + n → byte_of text i ≡ get_or b i 0
  unfolding B
  first i h = byte i (omega arith) ∙ get_or-append b (checksum b ∷ []) 0 i (omega (arith, long_b))

  data_length_is : data_length text ≡ n
  unfolding b n
  data_length_is = first 0 (omega arith)

  whole_address : address text ≡ a
  unfolding b bytes
  whole_address =
      ap₂ (λ (x y : ℕ). x * 256 + y) (first 1 (omega arith)) (first 2 (omega arith)) ∙ (let e : a / 2 ^ 8 % 256 * 256 + a / 2 ^ 0 % 256 ≡ a = omega (arith, l.low) in e)

  whole_kind : kind text ≡ k
  unfolding b bytes
  whole_kind = first 3 (omega arith)

  whole_data : data_bytes text ≡ s
  unfolding b bytes n
  whole_data =
      ap (λ (m : ℕ). table m (λ i. byte_of text (4 + i))) data_length_is
      ∙ sym (is_table n (λ i. byte_of text (4 + i)) s refl (λ i h. sym (first (4 + i) (omega arith) ∙ sym (get_or-drop 4 b i 0))))

  whole_checksum : checksum_wrong text ≡ false
  unfolding checksum_wrong B
  whole_checksum =
      let last : byte_of text (4 + n) ≡ checksum b = byte (4 + n) (omega arith) ∙ get_or_at b (checksum b) [] 0 (4 + n) long_b in
      let others : bytes_of text 0 (4 + n) ≡ b =
      sym (is_table (4 + n) (λ i. byte_of text (0 + i)) b long_b (λ i h. sym (ap (byte_of text) (zero-add i) ∙ first i h))) in
      ap (λ (m : ℕ). not (eqb (byte_of text (4 + m)) (checksum (bytes_of text 0 (4 + m))))) data_length_is
      ∙ ap₂ (λ (x : ℕ) (y : List ℕ). not (eqb x (checksum y))) last others
      ∙ ap not (eq-eqb (checksum b) (checksum b) refl)

  feed : get_or text (11 + 2 * n) 0 ≡ line_feed
  feed =
      ap (λ (x : List ℕ). get_or x (11 + 2 * n) 0) text_is
      ∙ ap (λ (j : ℕ). get_or (mark ∷ (E ++ (line_feed ∷ t))) j 0) (let e : 11 + 2 * n ≡ suc (10 + 2 * n) = omega arith in e)
      ∙ get_or_at E line_feed t 0 (10 + 2 * n) long_E

  end_is : line_end text ≡ 11 + 2 * n
  end_is = ap (λ (m : ℕ). 11 + 2 * m) data_length_is

  closed : end_length text (line_end text) ≡ 1
  closed = ap (end_length text) end_is ∙ end_is_feed text (11 + 2 * n) feed

  whole : Whole k a s t (hex_line k a s ++ t)
  unfolding part E n text
  whole = record {
    begins = record {
      marked = ap (λ (x : List ℕ). get_or x 0 0) text_is;
      digits =
          ap (λ (m : ℕ). all_digits (take (10 + 2 * m) (drop 1 text))) data_length_is
          ∙ ap (λ (x : List ℕ). all_digits (take (10 + 2 * n) (drop 1 x))) text_is
          ∙ ap all_digits (take_at E (line_feed ∷ t) (10 + 2 * n) long_E)
          ∙ encoded_digits B small_B;
      shape = (λ i. shape_wrong (whole_kind i) (data_length_is i) (whole_address i)) ∙ l.shape;
      closed = rw closed (omega arith);
    };
    length_is = data_length_is;
    address_is = whole_address;
    kind_is = whole_kind;
    data_is = whole_data;
    checksum_is = whole_checksum;
    behind =
        let e : line_size text ≡ 12 + 2 * n = ap₂ (λ (x y : ℕ). x + y) end_is closed ∙ (let z : 11 + 2 * n + 1 ≡ 12 + 2 * n = omega arith in z) in
        ap (λ (m : ℕ). drop m text) e ∙ drop_at (hex_line k a s) t (12 + 2 * n) (length_hex_line k a s);
  }

-- ---- the reading and the image behind a line that was written

-- the line does not stop, and the rest is judged and stored behind it
record Step (size : ℕ) (r r' : Reading) (image image' text t : List ℕ) : Type 0 where
  judged : text_stop size r (lines_of text) ≡ text_stop size r' (lines_of t)
  stores : stored r image (lines_of text) ≡ stored r' image' (lines_of t)

module _ (size : ℕ) (r r' : Reading) (image image' : List ℕ) (k a : ℕ) (s t : List ℕ) (w : Whole k a s t (hex_line k a s ++ t)) where
  stepped : r.ended ≡ false → (k ≡ data_line → misplaced size (r.upper * boundary + a) a (length s) r.next ≡ false)
      → r' ≡ after r (hex_line k a s ++ t) → image' ≡ image_after r image (hex_line k a s ++ t) → Step size r r' image image' (hex_line k a s ++ t) t
  unfolding checks first_of
  stepped ended placed er ei =
      let S : List ℕ = hex_line k a s ++ t in
      let u = begun S w.begins in
      record {
        judged =
            stop_on S u size r
            ∙ (λ i. or_else (checks size r (w.kind_is i) (w.address_is i) (w.length_is i) (w.checksum_is i)) (text_stop size (sym er i) (lines_of (w.behind i))))
            ∙ ap (λ (x : Bool). or_else (cond x (some 15) (cond (eqb k data_line && misplaced size (r.upper * boundary + a) a (length s) r.next) (some 17) none)) (text_stop size r' (lines_of t))) ended
            ∙ ap (λ (x : Bool). or_else (cond x (some 17) none) (text_stop size r' (lines_of t))) (go (eqb k data_line) refl);
        stores = stored_on S u r image ∙ (λ i. stored (sym er i) (sym ei i) (lines_of (w.behind i)));
      }
    where
      go : (x : Bool) → eqb k data_line ≡ x → (eqb k data_line && misplaced size (r.upper * boundary + a) a (length s) r.next) ≡ false
      go true e = ap (λ (y : Bool). y && misplaced size (r.upper * boundary + a) a (length s) r.next) e ∙ placed (eqb-true k data_line e)
      go false e = ap (λ (y : Bool). y && misplaced size (r.upper * boundary + a) a (length s) r.next) e

step_on : {size : ℕ} {r r' r'' : Reading} {image image' image'' text t u : List ℕ} → Step size r r' image image' text t → Step size r' r'' image' image'' t u
    → Step size r r'' image image'' text u
step_on a b = record { judged = a.judged ∙ b.judged; stores = a.stores ∙ b.stores }

-- a type 04 line sets the upper bits
upper_step : (size u : ℕ) (r : Reading) (image t : List ℕ) → r.ended ≡ false → u < boundary
    → Step size r (record { upper = u; next = r.next; ended = r.ended }) image image (hex_line upper_line 0 (bytes 2 u) ++ t) t
unfolding bytes
upper_step size u r image t ended h =
    let s : List ℕ = bytes 2 u in
    let w : Whole upper_line 0 s t (hex_line upper_line 0 s ++ t) =
    whole upper_line 0 s t (record { small = lit< tt; low = lit< tt; short = lit< tt; bytes_of = bytes_bytes 2 u; shape = refl }) in
    let S : List ℕ = hex_line upper_line 0 s ++ t in
    let bits : u ≡ upper_bits S =
    (let e : u ≡ u / 2 ^ 8 % 256 * 256 + u / 2 ^ 0 % 256 = omega arith in e) ∙ sym (ap (λ (x : List ℕ). get_or x 0 0 * 256 + get_or x 1 0) w.data_is) in
    stepped size r (record { upper = u; next = r.next; ended = r.ended }) image image upper_line 0 s t w ended (λ e. absurd (omega arith))
    (after_upper S r u w.kind_is bits) (image_other S image r (λ e. let z : upper_line ≡ data_line = sym w.kind_is ∙ e in omega arith))

-- a data line puts its data
data_step : (size a : ℕ) (r : Reading) (image s t : List ℕ) → r.ended ≡ false → a < boundary → 0 < length s → length s < 256 → Bytes s
    → misplaced size (r.upper * boundary + a) a (length s) r.next ≡ false
    → Step size r (record { upper = r.upper; next = r.upper * boundary + a + length s; ended = r.ended }) image (put image (r.upper * boundary + a) s) (hex_line data_line a s ++ t) t
data_step size a r image s t ended low some-data short small placed =
    let w : Whole data_line a s t (hex_line data_line a s ++ t) =
    whole data_line a s t (record { small = lit< tt; low = low; short = short; bytes_of = small; shape = shaped }) in
    let S : List ℕ = hex_line data_line a s ++ t in
    let p : r.upper * boundary + a ≡ data_place r S = ap (λ (x : ℕ). r.upper * boundary + x) (sym w.address_is) in
    stepped size r (record { upper = r.upper; next = r.upper * boundary + a + length s; ended = r.ended }) image (put image (r.upper * boundary + a) s) data_line a s t w ended (λ e. placed)
    (after_data S r (r.upper * boundary + a) (length s) w.kind_is p (sym w.length_is))
    (ap₂ (put image) p (sym w.data_is) ∙ image_data S image r w.kind_is)
  where
    shaped : shape_wrong data_line (length s) a ≡ false
    shaped = rw (lt-ltb 0 (length s) some-data) refl

-- the end line ends
end_step : (size : ℕ) (r : Reading) (image : List ℕ) → r.ended ≡ false
    → Step size r (record { upper = r.upper; next = r.next; ended = true }) image image (hex_line end_line 0 [] ++ []) []
end_step size r image ended =
    let w : Whole end_line 0 [] [] (hex_line end_line 0 [] ++ []) =
    whole end_line 0 [] [] (record { small = lit< tt; low = lit< tt; short = lit< tt; bytes_of = λ i. lit< tt; shape = refl }) in
    let S : List ℕ = hex_line end_line 0 [] ++ [] in
    stepped size r (record { upper = r.upper; next = r.next; ended = true }) image image end_line 0 [] [] w ended (λ e. absurd (omega arith))
    (after_end S r (λ e. let z : end_line ≡ data_line = sym w.kind_is ∙ e in omega arith) (λ e. let z : end_line ≡ upper_line = sym w.kind_is ∙ e in omega arith))
    (image_other S image r (λ e. let z : end_line ≡ data_line = sym w.kind_is ∙ e in omega arith))

-- ---- the data lines of an image

module _ (image : List ℕ) (small : Bytes image) where
  -- the reading behind the first k data lines
  upper_before : ℕ → ℕ
  upper_before zero = 0
  upper_before (suc k) = upper k

  reading : ℕ → Reading
  reading k = record { upper = upper_before k; next = min (place k) (length image); ended = false }

  -- the upper bits stay where the lower ones are not 0
  upper_stays : (k : ℕ) → (place k % boundary ≡ 0 → ⊥) → upper_before k ≡ upper k
  unfolding upper_before
  upper_stays zero h = absurd (h refl)
  upper_stays (suc k) h = omega arith

  module _ (limit : length image ≤ image_limit) (other : List ℕ) where
    -- the image behind the first k data lines
    filled : ℕ → List ℕ
    filled k = put other 0 (take (place k) image)

    -- the type 04 line before data line k
    upper_part_step : (k : ℕ) (t : List ℕ) → place k < length image
        → Step (length image) (reading k) (record { upper = upper k; next = min (place k) (length image); ended = false }) (filled k) (filled k) (upper_part k ++ t) t
    unfolding reading
    upper_part_step k t h = go (eqb (place k % boundary) 0) refl
      where
        r : Reading
        r = record { upper = upper k; next = min (place k) (length image); ended = false }

        go : (x : Bool) → eqb (place k % boundary) 0 ≡ x → Step (length image) (reading k) r (filled k) (filled k) (upper_part k ++ t) t
        go true e =
            subst (λ (u : List ℕ). Step (length image) (reading k) r (filled k) (filled k) (u ++ t) t) (sym (upper_some k (eqb-true (place k % boundary) 0 e)))
            (upper_step (length image) (upper k) (reading k) (filled k) t refl (omega arith))
        go false e =
            let n = eqb-false (place k % boundary) 0 e in
            let same : reading k ≡ r = ap (λ (u : ℕ). record { upper = u; next = min (place k) (length image); ended = false }) (upper_stays k n) in
            subst (λ (u : List ℕ). Step (length image) (reading k) r (filled k) (filled k) (u ++ t) t) (sym (upper_none k n))
            (record { judged = ap (λ (x : Reading). text_stop (length image) x (lines_of t)) same; stores = ap (λ (x : Reading). stored x (filled k) (lines_of t)) same })

    data_part_step : (k : ℕ) (t : List ℕ) → place k < length image
        → Step (length image) (record { upper = upper k; next = min (place k) (length image); ended = false }) (reading (suc k)) (filled k) (filled (suc k)) (data_part image k ++ t) t
    unfolding data_part part reading upper_before filled
    data_part_step k t h =
        let s : List ℕ = part image (place k) data_per_line in
        let r : Reading = record { upper = upper k; next = min (place k) (length image); ended = false } in
        let a : ℕ = place k % boundary in
        let n : length s ≡ min data_per_line (length image - place k) = simp (length-take, length-drop) in
        let p : upper k * boundary + a ≡ place k = omega arith in
        let room : a + 16 ≤ boundary = omega arith in
        let next : upper k * boundary + a + length s ≡ min (place (suc k)) (length image) = omega arith in
        let here : put (filled k) (upper k * boundary + a) s ≡ filled (suc k) =
        ap (λ (x : ℕ). put (filled k) x s) p
        ∙ put_on other (take (place k) image) s 0 (place k) (omega (arith, length-take-le (place k) image (omega arith))) (omega arith)
        ∙ ap (put other 0) (sym (take-add (place k) data_per_line image) ∙ ap (λ (x : ℕ). take x image) (let e : place k + data_per_line ≡ place (suc k) = omega arith in e)) in
        let placed : misplaced (length image) (upper k * boundary + a) a (length s) r.next ≡ false =
        rw (le-ltb (length image) (upper k * boundary + a + length s) (omega arith), le-ltb boundary (a + length s) (omega arith), le-ltb (upper k * boundary + a) (min (place k) (length image)) (omega arith)) refl in
        subst (λ (i : List ℕ). Step (length image) r (reading (suc k)) (filled k) i (data_part image k ++ t) t) here
        (subst (λ (m : ℕ). Step (length image) r (record { upper = upper k; next = m; ended = false }) (filled k) (put (filled k) (upper k * boundary + a) s) (data_part image k ++ t) t) next
        (data_step (length image) a r (filled k) s t refl (omega arith) (omega arith) (omega arith) (bytes_part image (place k) data_per_line small) placed))

    block_step : (k : ℕ) (t : List ℕ) → place k < length image → Step (length image) (reading k) (reading (suc k)) (filled k) (filled (suc k)) (block image k ++ t) t
    unfolding block
    block_step k t h =
        subst (λ (x : List ℕ). Step (length image) (reading k) (reading (suc k)) (filled k) (filled (suc k)) x t) (sym (append_assoc (upper_part k) (data_part image k) t))
        (step_on (upper_part_step k (data_part image k ++ t) h) (data_part_step k t h))

    blocks_step : (k : ℕ) (t : List ℕ) → k ≤ line_count (length image) → Step (length image) start (reading k) other (filled k) (blocks image k ++ t) t
    unfolding blocks reading upper_before filled put
    blocks_step zero t h =
        let n : 0 ≡ min (place 0) (length image) = omega arith in
        let r : start ≡ reading 0 = ap (λ (m : ℕ). record { upper = 0; next = m; ended = false }) n in
        record {
          judged = ap (λ (x : Reading). text_stop (length image) x (lines_of t)) r;
          stores = ap (λ (x : Reading). stored x other (lines_of t)) r;
        }
    blocks_step (suc k) t h =
        subst (λ (x : List ℕ). Step (length image) start (reading (suc k)) other (filled (suc k)) x t) (sym (append_assoc (blocks image k) (block image k) t))
        (step_on (blocks_step k (block image k ++ t) (omega arith)) (block_step k t (omega arith)))

    -- the whole text
    text_step : (size : length other ≡ length image) → (text_stop (length image) start (lines_of (hex_text image)) ≡ none) × (stored start other (lines_of (hex_text image)) ≡ image)
    unfolding hex_text filled reading
    text_step size =
        let K : ℕ = line_count (length image) in
        let last : List ℕ = hex_line end_line 0 [] in
        let r : Reading = reading K in
        let ended : Reading = record { upper = r.upper; next = r.next; ended = true } in
        let s : Step (length image) start ended other (filled K) (blocks image K ++ (last ++ [])) [] =
        step_on (blocks_step K (last ++ []) (omega arith)) (end_step (length image) r (filled K) refl) in
        let e : blocks image K ++ (last ++ []) ≡ blocks image K ++ last = ap (λ (x : List ℕ). blocks image K ++ x) (append-nil last) in (
          ap (λ (x : List ℕ). text_stop (length image) start (lines_of x)) (sym e) ∙ s.judged ∙ text_end (length image) ended [] refl,
          ap (λ (x : List ℕ). stored start other (lines_of x)) (sym e) ∙ s.stores ∙ stored_end ended (filled K) [] refl
              ∙ over other image (filled K) (omega arith) (ap (put other 0) (take_all (place K) image (omega arith))),
        )

-- ---- the theorem

pub text_round_trip : (image other : List ℕ) → Bytes image → image_wrong (length image) ≡ false → length other ≡ length image
    → import (hex_text image) other ≡ record { stop = none; image = image }
text_round_trip image other small right size =
    let w = text_step image small (image_fits (length image) right) other size in
    sym (import_done (hex_text image) other image
    (stop_text (hex_text image) other (ap image_wrong size ∙ right) ∙ ap (λ (n : ℕ). text_stop n start (lines_of (hex_text image))) size ∙ w.0) (sym w.1))

-- an export that answers no stop: the image's length is right, and its text was written
exported : (o : Option ℕ) (image text : List ℕ) → export_stop image text ≡ o → (export_by o image text).stop ≡ none
    → (image_wrong (length image) ≡ false) × (take (export_by o image text).written (export_by o image text).text ≡ hex_text image)
unfolding export_by export_stop
exported (some n) image text f e = let z : ◌≡◌ {A = ℕ} 0 1 = cc in absurd (omega arith)
exported none image text f e =
    let H : List ℕ = hex_text image in
    ((passes ((2, image_wrong (length image)) ∷ (4, ltb (length text) (length H)) ∷ []) f).0, ap (take (length H)) (put_front text H) ∙ take_at H (drop (length H) text) (length H) refl)

-- what an export wrote, imported into an image of the same length
pub round_trip : (image text other : List ℕ) → Bytes image → (export image text).stop ≡ none → length other ≡ length image
    → import (take (export image text).written (export image text).text) other ≡ record { stop = none; image = image }
unfolding export
round_trip image text other small e size =
    let w = exported (export_stop image text) image text refl e in
    ap (λ (x : List ℕ). import x other) w.1 ∙ text_round_trip image other small w.0 size
