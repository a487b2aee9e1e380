-- How the definitions go from one slot, or one page, to the next. Assumes nothing.
use Prim.Native.Nat.{ℕ, zero, suc, ◌+◌, ◌-◌, ◌*◌}
use mathlib.Core.Path.{◌≡◌, refl, ap, sym, ◌∙◌}
use mathlib.Core.Bool.{Bool, true, false, not, cond}
use mathlib.Core.List.{List, ◌∷◌}
use native.Mathlib.Omega.{arith}
use native.Mathlib.Numerals.{add-one, one-add}
use lib.ListN.{length, take, drop, length-drop}
use lib.Seq.{drop-drop, take_all}
use borrow.Author.Tests.{lt-ltb, eq-eqb, ne_eqb}
use Rattle.std.proofs.Common.{Some}
use Rattle.std.specs.List.{prefix_len, range_with_len, list_any, find, slice_get}
use Rattle.octets.specs.Limits.{slot_length, nonce_length}
use Rattle.octets.specs.Octets.{part, blank, same}
use Rattle.ring.specs.Ring.{page_at, is_record, Unreadable, At, AtPending, records, filled, alone, followed, nonce_in, used_from}

-- a call's answer r says x, and is known to be v
pub said {ℓ} : {A : Type ℓ} {x r v : A} → r ≡ x → r ≡ v → x ≡ v
said e t = sym e ∙ t

-- a call's answer r about x, where x is known to be y and r to be v
pub told {ℓ κ} : {A : Type ℓ} {B : Type κ} (f : A → B) {x y : A} {r v : B} → r ≡ f x → x ≡ y → r ≡ v → f y ≡ v
told f e p t = said (e ∙ ap f p) t

slot_after : (k : ℕ) → slot_length * k + slot_length ≡ slot_length * (k + 1)
slot_after k = omega arith

next_slot : (page : List ℕ) (k : ℕ) → drop slot_length (drop (slot_length * k) page) ≡ drop (slot_length * (k + 1)) page
next_slot page k = rw (drop-drop slot_length (slot_length * k) page, slot_after k)

-- the slots of a page and the pages of a ring as `take_while`, `any` and `find` go over them, from number k on

pub records_is : (page : List ℕ) (k n : ℕ)
    → prefix_len (λ j. is_record (part page (slot_length * j) slot_length)) (range_with_len k n) ≡ records (drop (slot_length * k) page) n
unfolding records part
records_is page k zero = refl
records_is page k (suc n) =
    rw (records_is page (k + 1) n, next_slot page k, one-add)

pub nonce_in_is : (nonce page : List ℕ) (k n : ℕ)
    → list_any (λ j. same (part page (slot_length * j) nonce_length) nonce) (range_with_len k n) ≡ nonce_in nonce (drop (slot_length * k) page) n
unfolding nonce_in part
nonce_in_is nonce page k zero = refl
nonce_in_is nonce page k (suc n) =
    rw (nonce_in_is nonce page (k + 1) n, next_slot page k)

pub used_is : (ring : List ℕ) (slots k n : ℕ)
    → find (λ j. not (blank (page_at ring slots j))) (range_with_len k n) ≡ slice_get (used_from ring slots k n) 0
unfolding used_from
used_is ring slots k zero = refl
used_is ring slots k (suc n) = rw (used_is ring slots (k + 1) n, add-one) (first (blank (page_at ring slots k)))
  where
    first : (t : Bool) → cond (not t) (Some k) (slice_get (used_from ring slots (suc k) n) 0)
        ≡ slice_get (cond t (used_from ring slots (suc k) n) (k ∷ used_from ring slots (suc k) n)) 0
    first true = refl
    first false = refl

-- the part from offset i on
abbrev rest : ℕ → List ℕ → List ℕ
rest i s = take (length s - i) (drop i s)

rest_is : (i : ℕ) (s : List ℕ) → rest i s ≡ drop i s
rest_is i s = take_all (length s - i) (drop i s) (rw length-drop (omega arith))

-- a page's answer by its number of records and what follows them
module _ (ring : List ℕ) (slots p : ℕ) {bytes : List ℕ} (is : bytes ≡ page_at ring slots p) {k : ℕ} (n : k ≡ records bytes slots) where
  number : records (page_at ring slots p) slots ≡ k
  number = sym (n ∙ ap (λ (l : List ℕ). records l slots) is)

  pub alone_none : k ≡ 0 → alone ring slots p ≡ Unreadable
  unfolding alone filled
  alone_none e = rw (number, e)

  pub alone_some : (t : Bool) → (k ≡ 0 → ⊥) → blank (rest (slot_length * k) bytes) ≡ t → alone ring slots p ≡ cond t (At p (k - 1)) Unreadable
  unfolding alone filled
  alone_some t z b = rw (number, lt-ltb 0 k (omega arith), eq-eqb k k refl, ← is, ← rest_is (slot_length * k) bytes, b)

  pub followed_none : (older : ℕ) → (k ≡ 1 → ⊥) → followed ring slots older p ≡ Unreadable
  unfolding followed filled
  followed_none older e = rw (number, ne_eqb k 1 e)

  pub followed_one : (t : Bool) (older : ℕ) → k ≡ 1 → blank (rest slot_length bytes) ≡ t → followed ring slots older p ≡ cond t (AtPending p older) Unreadable
  unfolding followed filled
  followed_one t older e b = rw (number, eq-eqb k 1 e, ← is, ← rest_is slot_length bytes, b)
