-- The format's own numbers. A line of Intel HEX is a mark, and in hexadecimal the number of its data bytes, an address of two bytes, a
-- type, the data and a checksum.
use Rattle.std.specs.Prelude.{ℕ, ◌+◌, ◌-◌, ◌*◌, ◌%◌, List, [], ◌∷◌}

abbrev pub mark : ℕ
mark = 0x3A

abbrev pub line_feed : ℕ
line_feed = 0x0A

abbrev pub carriage_return : ℕ
carriage_return = 0x0D

-- the types, called kinds in the code and the definitions
abbrev pub data_line : ℕ
data_line = 0

abbrev pub end_line : ℕ
end_line = 1

-- its data are the upper 16 bits of the addresses that follow
abbrev pub upper_line : ℕ
upper_line = 4

-- how many addresses have the same upper 16 bits: 64 KiB
abbrev pub boundary : ℕ
boundary = 65536

-- the bytes of a line before its data
abbrev pub head_size : ℕ
head_size = 4

-- the mark and the digits of a line of n data bytes
abbrev pub line_width : ℕ → ℕ
line_width n = 11 + 2 * n

unfoldable pub sum : List ℕ → ℕ
sum [] = 0
sum (b ∷ s) = b + sum s

-- the two's complement of a line's other bytes' sum, as a byte
abbrev pub checksum : List ℕ → ℕ
checksum s = (256 - sum s % 256) % 256
