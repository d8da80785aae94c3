-- docs/MONITOR.md, 17.5: what character a byte of the tape is. Assumes nothing: these are definitions.
use Rattle.std.specs.Prelude.{cond, ℕ, zero, suc, ◌+◌, ◌/◌, ◌%◌, eqb}

-- how many of the k lowest bits are ones
unfoldable pub ones : ℕ → ℕ → ℕ
ones zero byte = 0
ones (suc k) byte = byte % 2 + ones k (byte / 2)

-- 1 where "an odd number of ones" is in the byte, else 0
unfoldable pub odd : ℕ → ℕ
odd byte = ones 8 byte % 2

-- "Mode 5 wants an odd number of ones in the byte, 9 an even one": what the number of ones may not be
abbrev pub unwanted : ℕ → ℕ
unwanted mode = cond (eqb mode 5) 0 1

-- "a character with wrong parity becoming 26, the top bit removed"
abbrev pub checked : ℕ → ℕ → ℕ
checked parity byte = cond (eqb (odd byte) parity) 26 (byte % 128)

-- the character of a byte: so "in modes 5 and 9", and in mode 1 the byte as it is
unfoldable pub treated : ℕ → ℕ → ℕ
treated mode byte = cond (eqb mode 1) byte (checked (unwanted mode) byte)
