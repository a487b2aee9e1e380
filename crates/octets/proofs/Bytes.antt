-- Lists whose numbers are bytes. Assumes nothing.
use mathlib.Core.Path.{◌≡◌, refl, sym, subst}
use mathlib.Core.Bool.{Bool, true, false}
use mathlib.Core.List.{List, [], ◌∷◌, ◌++◌}
use Prim.Native.Nat.{ℕ, zero, suc, ◌+◌, ◌/◌, ◌*◌, ◌^◌, ◌<◌}
use native.Mathlib.Nat.{mod-lt}
use native.Mathlib.Omega.{arith}
use lib.Bits.{xor_lt}
use lib.Dec.{lit<, ltb}
use lib.ListN.{take, drop, get_or, length-take, get_or-eq_default}
use borrow.Author.Tests.{ltb-true, ltb-false}
use Rattle.octets.specs.Octets.{Bytes, ◌⊕◌, part, bytes}
use Rattle.octets.specs.Table.{table}
use Rattle.octets.proofs.Laws.{get_or_part}

pub bytes_xor : (a b : ℕ) → a < 256 → b < 256 → a ⊕ b < 256
bytes_xor a b h k = xor_lt 8 a b h k

pub bytes_append : (s t : List ℕ) → Bytes s → Bytes t → Bytes (s ++ t)
bytes_append [] t hs ht i = ht i
bytes_append (x ∷ s) t hs ht zero = hs 0
bytes_append (x ∷ s) t hs ht (suc i) = bytes_append s t (λ j. hs (suc j)) ht i

pub bytes_part : (s : List ℕ) (i n : ℕ) → Bytes s → Bytes (part s i n)
unfolding part
bytes_part s i n h k = go (ltb k n) refl
  where
    long : ltb k n ≡ false → get_or (part s i n) k 0 ≡ 0
    long e = get_or-eq_default (take n (drop i s)) 0 {n = k} (rw length-take (omega (arith, ltb-false k n e)))

    go : (t : Bool) → ltb k n ≡ t → get_or (part s i n) k 0 < 256
    go true e = subst (λ (x : ℕ). x < 256) (sym (get_or_part s i n k (ltb-true k n e))) (h (i + k))
    go false e = subst (λ (x : ℕ). x < 256) (sym (long e)) (lit< tt)

-- the bytes of a number
pub bytes_bytes : (n x : ℕ) → Bytes (bytes n x)
unfolding bytes
bytes_bytes zero x i = lit< tt
bytes_bytes (suc n) x zero = mod-lt (x / 2 ^ (8 * n)) (lit< tt)
bytes_bytes (suc n) x (suc i) = bytes_bytes n x i

pub bytes_table : (n : ℕ) (f : ℕ → ℕ) → ((i : ℕ) → i < n → f i < 256) → Bytes (table n f)
bytes_table zero f h i = lit< tt
bytes_table (suc n) f h zero = h 0 (omega arith)
bytes_table (suc n) f h (suc i) = bytes_table n (λ j. f (suc j)) (λ j k. h (suc j) (omega arith)) i
