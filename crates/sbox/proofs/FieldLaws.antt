-- What follows from the definitions of the field: the standard's examples, the products by 02 and 03, that the inverse is one, and that bytes
-- stay bytes.
-- Assumes nothing.
use mathlib.Core.Path.{◌≡◌, refl, sym, ◌∙◌, ap}
use mathlib.Core.List.{List}
use Prim.Native.Nat.{ℕ, zero, suc, ◌*◌, ◌/◌, ◌%◌, ◌<◌}
use native.Mathlib.Nat.{not-suc-le-zero, le_of_suc-le-suc}
use native.Mathlib.Omega.{arith}
use lib.Bits.{xor_zero_r}
use lib.ListN.{get_or, replicate, get_or-replicate}
use Rattle.octets.specs.Octets.{◌⊕◌}
use Rattle.octets.specs.Table.{table}
use Rattle.octets.proofs.Tables.{get_or_table}
use Rattle.octets.proofs.Bytes.{bytes_xor}
use Rattle.sbox.specs.Field.{xtime, times, ◌•◌, power, inverse, turned, affine, sub_byte}

-- FIPS 197, section 4.2 and figure 7
pub product : 0x57 • 0x13 ≡ 0xfe
unfolding ◌•◌ times xtime
product = refl

pub substituted : sub_byte 0x53 ≡ 0xed
unfolding ◌•◌ times xtime power inverse turned affine sub_byte
substituted = refl

pub twice : (b : ℕ) → 0x02 • b ≡ xtime b
unfolding ◌•◌ times xtime
twice b = xor_zero_r (xtime b)

pub thrice : (b : ℕ) → 0x03 • b ≡ xtime b ⊕ b
unfolding ◌•◌ times xtime
thrice b = refl

pub inverse_zero : inverse 0 ≡ 0
unfolding ◌•◌ times xtime power inverse
inverse_zero = refl

-- each byte from 1 to 255, times its inverse
inverses : table 255 (λ i. suc i • inverse (suc i)) ≡ replicate 255 1
unfolding ◌•◌ times xtime power inverse
inverses = refl

pub inverse_right : (b : ℕ) → 0 < b → b < 256 → b • inverse b ≡ 1
inverse_right zero p h = absurd (not-suc-le-zero p)
inverse_right (suc i) p h =
    let k : i < 255 = le_of_suc-le-suc h in
    sym (get_or_table 255 (λ i. suc i • inverse (suc i)) i k) ∙ ap (λ (l : List ℕ). get_or l i 0) inverses ∙ get_or-replicate 255 i 1 0 k

-- twice a byte is a byte, and so is its substitution, at each of the 256
pub xtime_small : (b : ℕ) → b < 256 → xtime b < 256
unfolding xtime
xtime_small b h = bytes_xor (b * 2 % 256) (b / 128 * 0x1b) (omega arith) (omega arith)

substitutions : table 256 (λ i. sub_byte i / 256) ≡ replicate 256 0
unfolding ◌•◌ times xtime power inverse turned affine sub_byte
substitutions = refl

pub sub_byte_small : (b : ℕ) → b < 256 → sub_byte b < 256
sub_byte_small b h =
    let e : sub_byte b / 256 ≡ 0 = sym (get_or_table 256 (λ i. sub_byte i / 256) b h) ∙ ap (λ (l : List ℕ). get_or l b 0) substitutions ∙ get_or-replicate 256 b 0 0 h in
    omega arith
