-- docs/MONITOR.md, 15: "Lines are upper-case hexadecimal digits". The bytes of the digits, and numbers in them, the highest digit first.
-- Assumes nothing: these are definitions.
use Rattle.std.specs.Prelude.{Bool, true, ◌&&◌, ◌||◌, List, [], ◌∷◌, ◌++◌, ℕ, zero, suc, ◌+◌, ◌-◌, ◌*◌, ◌/◌, ◌%◌, leb, ltb}
use Rattle.machine.specs.Queue.{if}

-- ---- one digit
-- the byte of the digit v, below 16: 0 to 9 are the bytes 30 to 39 hex, A to F the bytes 41 to 46 hex
unfoldable pub digit : ℕ → ℕ
digit v = if (ltb v 10) (0x30 + v) (0x41 + (v - 10))

-- the byte c is such a digit; lower case isn't
unfoldable pub is_digit : ℕ → Bool
is_digit c = (leb 0x30 c && leb c 0x39) || (leb 0x41 c && leb c 0x46)

-- what the digit c is worth
unfoldable pub value : ℕ → ℕ
value c = if (leb c 0x39) (c - 0x30) (c - 0x41 + 10)

-- ---- numbers
-- n in k digits
unfoldable pub digits : ℕ → ℕ → List ℕ
digits zero n = []
digits (suc k) n = digits k (n / 16) ++ (digit (n % 16) ∷ [])

-- every byte is a digit
unfoldable pub all_digits : List ℕ → Bool
all_digits [] = true
all_digits (c ∷ l) = is_digit c && all_digits l

-- the number that the digits of n and then those of l write
unfoldable pub number_from : ℕ → List ℕ → ℕ
number_from n [] = n
number_from n (c ∷ l) = number_from (16 * n + value c) l

-- the number that the digits of l write
abbrev pub number : List ℕ → ℕ
number l = number_from 0 l
