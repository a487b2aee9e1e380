-- Laws of a list given by a rule, and of loops that fill a list from the front. Assumes nothing.
use mathlib.Core.Path.{◌≡◌, refl, sym, ap, ap₂, ◌∙◌}
use mathlib.Core.List.{List, [], ◌∷◌, ◌++◌}
use Prim.Native.Nat.{ℕ, zero, suc, ◌+◌, ◌<◌, ◌≤◌}
use native.Mathlib.Nat.{le_of_suc-le-suc, not-suc-le-zero, zero-add}
use native.Mathlib.Numerals.{add-one}
use native.Mathlib.Omega.{arith}
use native.Mathlib.Decide.{ℕ_discrete}
use lib.ListN.{length, get_or, set, drop, length-set}
use lib.Seq.{ext_get_or, get_or-set_same, get_or-set_other, paste, paste-suc, take-length}
use Rattle.octets.specs.Octets.{put}
use Rattle.octets.specs.Table.{table}
use Rattle.octets.proofs.Laws.{put_front}

pub length_table : (n : ℕ) (f : ℕ → ℕ) → length (table n f) ≡ n
length_table zero f = refl
length_table (suc n) f = ap suc (length_table n (λ i. f (suc i)))

pub get_or_table : (n : ℕ) (f : ℕ → ℕ) (i : ℕ) → i < n → get_or (table n f) i 0 ≡ f i
get_or_table zero f i h = absurd (not-suc-le-zero h)
get_or_table (suc n) f zero h = refl
get_or_table (suc n) f (suc i) h = get_or_table n (λ i. f (suc i)) i (le_of_suc-le-suc h)

-- one element more
pub table_snoc : (n : ℕ) (f : ℕ → ℕ) → table (n + 1) f ≡ table n f ++ (f n ∷ [])
table_snoc n f = ap (λ (k : ℕ). table k f) (add-one n) ∙ snoc n f
  where
    snoc : (n : ℕ) (f : ℕ → ℕ) → table (suc n) f ≡ table n f ++ (f n ∷ [])
    snoc zero f = refl
    snoc (suc n) f = ap (λ (l : List ℕ). f 0 ∷ l) (snoc n (λ i. f (suc i)))

-- a list of n elements that has f i at each place i
pub is_table : (n : ℕ) (f : ℕ → ℕ) (l : List ℕ) → length l ≡ n → ((i : ℕ) → i < n → get_or l i 0 ≡ f i) → l ≡ table n f
is_table n f l e h =
    ext_get_or 0 l (table n f) (rw (length_table n f) e)
    (λ i k. let k' : i < n = rw (← e) k in rw (get_or_table n f i k') (h i k'))

pub table_ext : (n : ℕ) (f g : ℕ → ℕ) → ((i : ℕ) → i < n → f i ≡ g i) → table n f ≡ table n g
table_ext n f g h = is_table n g (table n f) (length_table n f) (λ i k. get_or_table n f i k ∙ h i k)

-- ---- a loop that stores at each place i of an array of n what P says of i, from the front

-- the first i places of t are done
pub record Filled (n : ℕ) (P : ℕ → ℕ → Type 0) (i : ℕ) (t : List ℕ) : Type 0 where
  pub within : i ≤ n
  pub long : length t ≡ n
  pub done : (k : ℕ) → k < i → P k (get_or t k 0)

pub fill_none : (n : ℕ) (P : ℕ → ℕ → Type 0) (t : List ℕ) → length t ≡ n → Filled n P 0 t
fill_none n P t e = record { within = omega arith; long = e; done = λ k h. absurd (omega arith) }

pub fill_more : {n : ℕ} {P : ℕ → ℕ → Type 0} {i : ℕ} {t : List ℕ} (v : ℕ) → Filled n P i t → i < n → P i v → Filled n P (i + 1) (set t i v)
fill_more {n} {P} {i} {t} v F h e =
    record { within = omega arith; long = length-set t i v ∙ F.long; done = λ k l. place k l (ℕ_discrete k i) }
  where
    place : (k : ℕ) → k < i + 1 → Dec (k ≡ i) → P k (get_or (set t i v) k 0)
    place k l (yes p) = rw (p, get_or-set_same t i v 0 (omega arith)) e
    place k l (no p) = rw (get_or-set_other t i k v 0 p) (F.done k (omega arith))

pub fill_all : {n : ℕ} {f : ℕ → ℕ} {i : ℕ} {t : List ℕ} → Filled n (λ k v. v ≡ f k) i t → n ≤ i → t ≡ table n f
fill_all {n} {f} {i} {t} F h = is_table n f t F.long (λ k l. F.done k (omega arith))

-- ---- a loop that writes a list s to the front of d: d with the first k elements of s is `paste d 0 s k`

pub paste_more : (d s t : List ℕ) (k v : ℕ) → k < length d → k < length s → t ≡ paste d 0 s k → v ≡ get_or s k 0 → set t k v ≡ paste d 0 s (k + 1)
paste_more d s t k v hd hs ht hv =
    ap₂ (λ (l : List ℕ) (x : ℕ). set l k x) ht hv
    ∙ ap (λ (i : ℕ). set (paste d 0 s k) i (get_or s k 0)) (sym (zero-add k))
    ∙ paste-suc d 0 s k 0 (rw zero-add hd) hs ∙ ap (paste d 0 s) (sym (add-one k))

pub paste_all : (d s : List ℕ) (k : ℕ) → k ≡ length s → paste d 0 s k ≡ put d 0 s
paste_all d s k e =
    ap (paste d 0 s) e ∙ ap₂ (λ (l : List ℕ) (i : ℕ). l ++ drop i d) (take-length s) (zero-add (length s)) ∙ sym (put_front d s)
