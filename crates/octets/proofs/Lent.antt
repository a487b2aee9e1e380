-- Laws of a part that was lent to be written, said of the whole: `put_mid a k xs ys` is xs with ys for the k bytes from offset a on. And
-- bytes written one stretch after the other.
-- Assumes nothing.
use Prim.Native.Nat.{ℕ, ◌+◌, ◌≤◌, ◌<◌}
use mathlib.Core.Path.{◌≡◌, sym, ap, ap₂, ◌∙◌}
use mathlib.Core.List.{List, [], ◌∷◌, ◌++◌, append_assoc, append-nil}
use native.Mathlib.Nat.{add-zero, add_assoc}
use native.Mathlib.Numerals.{add-one}
use native.Mathlib.Omega.{arith}
use borrow.Rule.Slice.PartMut.{put_mid}
use lib.ListN.{length, take, drop, set, length-append, take-append-drop, drop_of_length-le}
use lib.Seq.{set_split, take-add, take-take, take_at, drop-drop, drop-append-le, drop-append-add, length-take-le}
use Rattle.octets.specs.Octets.{part, put}
use Rattle.octets.proofs.Laws.{length_part, length_put, put_front}

-- the part came back as ys
pub put_back : (a k : ℕ) (xs ys : List ℕ) → length ys ≡ k → put_mid a k xs ys ≡ put xs a ys
unfolding put
put_back a k xs ys l = rw (← l, drop-drop)

-- ys were put into the part
pub put_part : (a k i : ℕ) (xs ys : List ℕ) → i + length ys ≤ k → a + k ≤ length xs → put_mid a k xs (put (part xs a k) i ys) ≡ put xs (a + i) ys
unfolding put part
put_part a k i xs ys h l =
    let inner : i + length ys ≤ length (part xs a k) = rw (length_part xs a k l) h in
    let near : i ≤ k = omega arith in
    let rest : drop (i + length ys) (take k (drop a xs)) ++ drop k (drop a xs) ≡ drop (a + i + length ys) xs =
    rw (← drop-append-le (i + length ys) (take k (drop a xs)) (drop k (drop a xs)) inner, take-append-drop, drop-drop, add_assoc) in
    rw (take-add a i xs, take-take i k (drop a xs) near) (simp (append_assoc, rest))

-- a lent part, to the end or shorter, came back with ys at its front
pub lent : (xs ys zs : List ℕ) (i k : ℕ) → i + k ≤ length xs → length ys ≤ k → zs ≡ put (take k (drop i xs)) 0 ys → put_mid i k xs zs ≡ put xs i ys
unfolding part
lent xs ys zs i k h l e =
    let w : 0 + length ys ≤ k = omega arith in
    ap (put_mid i k xs) e ∙ put_part i k 0 xs ys w h ∙ ap (λ (j : ℕ). put xs j ys) (add-zero i)

-- zs right behind ys
pub put_on : (xs ys zs : List ℕ) (i j : ℕ) → j ≡ i + length ys → i ≤ length xs → put (put xs i ys) j zs ≡ put xs i (ys ++ zs)
unfolding put
put_on xs ys zs i j e h =
    let F : List ℕ = take i xs ++ ys in
    let D : List ℕ = drop (i + length ys) xs in
    let E : List ℕ = drop (i + length (ys ++ zs)) xs in
    let l : length F ≡ j = length-append (take i xs) ys ∙ ap (λ (m : ℕ). m + length ys) (length-take-le i xs h) ∙ sym e in
    let m : i + length ys + length zs ≡ i + length (ys ++ zs) = add_assoc i (length ys) (length zs) ∙ ap (λ (k : ℕ). i + k) (sym (length-append ys zs)) in
    let d : drop (j + length zs) (F ++ D) ≡ E =
    ap (λ (k : ℕ). drop (k + length zs) (F ++ D)) (sym l) ∙ drop-append-add F D (length zs) ∙ drop-drop (length zs) (i + length ys) xs ∙ ap (λ (k : ℕ). drop k xs) m in
    ap (λ (w : List ℕ). take j w ++ (zs ++ drop (j + length zs) w)) (sym (append_assoc (take i xs) ys D))
    ∙ ap₂ (λ (a b : List ℕ). a ++ (zs ++ b)) (take_at F D j l) d
    ∙ append_assoc (take i xs) ys (zs ++ E) ∙ ap (λ (w : List ℕ). take i xs ++ w) (sym (append_assoc ys zs E))

-- one byte, and one right behind ys
pub set_put : (xs : List ℕ) (i v : ℕ) → i < length xs → set xs i v ≡ put xs i (v ∷ [])
unfolding put
set_put xs i v h = set_split xs i v h ∙ ap (λ (k : ℕ). take i xs ++ v ∷ drop k xs) (sym (add-one i))

pub set_on : (xs ys : List ℕ) (i j v : ℕ) → j ≡ i + length ys → j < length xs → set (put xs i ys) j v ≡ put xs i (ys ++ (v ∷ []))
set_on xs ys i j v e h =
    set_put (put xs i ys) j v (rw (length_put xs i ys (omega arith)) h) ∙ put_on xs ys (v ∷ []) i j e (omega arith)

-- bytes put over as many
pub over : (xs ys zs : List ℕ) → length xs ≤ length ys → zs ≡ put xs 0 ys → zs ≡ ys
over xs ys zs l e = e ∙ put_front xs ys ∙ ap (λ (w : List ℕ). ys ++ w) (drop_of_length-le xs l) ∙ append-nil ys

-- F, of j bytes, written to the front of xs left zs
pub record Front (xs zs F : List ℕ) (j : ℕ) : Type 0 where
  pub written : zs ≡ put xs 0 F
  pub long : length F ≡ j

-- and m bytes more
pub front_on : {xs zs F : List ℕ} {j : ℕ} (ys zs' : List ℕ) (m : ℕ) → Front xs zs F j → zs' ≡ put zs j ys → length ys ≡ m → Front xs zs' (F ++ ys) (j + m)
front_on {xs} {zs} {F} {j} ys zs' m f e l = record {
  written = e ∙ ap (λ (w : List ℕ). put w j ys) f.written ∙ put_on xs F ys 0 j (omega (arith, f.long)) (omega arith);
  long = length-append F ys ∙ ap₂ (λ (a b : ℕ). a + b) f.long l;
}

-- to the end
pub front_whole : {xs zs F : List ℕ} {j : ℕ} → Front xs zs F j → length xs ≡ j → zs ≡ F
front_whole {xs} {zs} {F} {j} f l = over xs F zs (omega (arith, f.long, l)) f.written
