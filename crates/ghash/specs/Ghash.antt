-- Multiplication of blocks and GHASH: SP 800-38D, sections 6.3 and 6.4, with its names. A block stands by its 128-bit number, whose most
-- significant bit is the standard's bit 0.
use Rattle.std.specs.Prelude.{List, ℕ, zero, suc, ◌-◌, ◌*◌, ◌/◌, ◌%◌, ◌^◌, length}
use Rattle.octets.specs.Octets.{number, ◌⊕◌}

infixl 70 ◌•◌
-- a, with b added if the bit is 1
unfoldable pub add_if : ℕ → ℕ → ℕ → ℕ
add_if zero a b = a
add_if (suc n) a b = a ⊕ b

-- x_i
unfoldable pub bit : ℕ → ℕ → ℕ
bit x i = x / 2 ^ (127 - i) % 2

-- R: the byte 11100001 and 120 zero bits
abbrev pub R : ℕ
R = 0xe1 * 2 ^ 120

-- v shifted right by one bit, with R added if the bit that left was 1
unfoldable pub halved : ℕ → ℕ
halved v = add_if (v % 2) (v / 2) R

-- Algorithm 1. V_0 is y, and V_(i+1) is V_i halved
unfoldable pub Vᵢ : ℕ → ℕ → ℕ
Vᵢ zero y = y
Vᵢ (suc i) y = halved (Vᵢ i y)

-- Z_0 is 0, and Z_(i+1) is Z_i, with V_i added if x_i is 1
unfoldable pub Zᵢ : ℕ → ℕ → ℕ → ℕ
Zᵢ zero x y = 0
Zᵢ (suc i) x y = add_if (bit x i) (Zᵢ i x y) (Vᵢ i y)

-- the product of two blocks
unfoldable pub ◌•◌ : ℕ → ℕ → ℕ
x • y = Zᵢ 128 x y

-- Algorithm 2. Y_i, from Y_0 = y on: Y_(i+1) is (Y_i ⊕ X_(i+1)) • H
unfoldable pub Yᵢ : ℕ → ℕ → List ℕ → ℕ → ℕ
Yᵢ H y X zero = y
Yᵢ H y X (suc i) = (Yᵢ H y X i ⊕ number X (16 * i) 16) • H

-- all blocks of X, whose length is a multiple of 16 bytes, from the value y on
unfoldable pub hashed : ℕ → ℕ → List ℕ → ℕ
hashed H y X = Yᵢ H y X (length X / 16)

-- GHASH_H(X)
unfoldable pub GHASH : ℕ → List ℕ → ℕ
GHASH H X = hashed H 0 X
