-- What the functions that read and write lines promise. Assumes nothing: these are definitions.
use Rattle.std.specs.Prelude.{Bool, true, false, not, List, ◌≡◌, ℕ, ◌+◌, ◌*◌, ◌/◌, ◌%◌, ◌≤◌, ◌<◌, ltb, length, get_or, take, drop, Option, Some, None}
use Rattle.std.proofs.lemmas.List.Edits.{sets}
use Rattle.machine.specs.Queue.{if}
use Rattle.machine.specs.Exchange.{words_in}
use Rattle.machine.specs.declared.exchange.Words.{Words as Four}
use Rattle.lines.specs.Digits.{digit, is_digit, value, all_digits}
use Rattle.lines.specs.Line.{Shape, LayoutEntry, Ask, Other, part, words_at, ended}
use Rattle.lines.specs.declared.Parsed.{Parsed}
use Rattle.lines.specs.declared.Parsed.TheVariants.{Entry as ItsEntry, Call as ItsCall, Other as Neither}

-- a shape as the code has it
abbrev pub numbers : Shape → Parsed
numbers (LayoutEntry e) = ItsEntry (record { priority = e.priority; owns = e.owns; name0 = e.name₀; name1 = e.name₁; name2 = e.name₂ })
numbers (Ask k a b ws) = ItsCall (record { number = k; a = a; b = b; words = record { w0 = ws.w₀; w1 = ws.w₁; w2 = ws.w₂; w3 = ws.w₃ } })
numbers Other = Neither

-- what a byte is worth by the table of numerals: 65,536 where it is no digit
unfoldable pub worth : ℕ → ℕ
worth c = if (is_digit c) (value c) 65536

-- the table of numerals has it of each byte, and the two digits of each number below 256
pub record Numerals (worths twos : List ℕ) : Type 0 where
  pub right : (byte : ℕ) → byte < 256 → get_or worths byte 0 ≡ worth byte
  pub pairs : (n : ℕ) → n < 256 → get_or twos n 0 ≡ digit (n / 16) + 256 * digit (n % 16)

-- the k bytes from `at` on are digits
abbrev pub digits_at : ℕ → ℕ → List ℕ → Bool
digits_at at k line = all_digits (take k (drop at line))

-- r was read of the k bytes from `at` on: the number that they write where they are digits, and 65,536 or more where one of them is none
pub record Reads (line : List ℕ) (at k r : ℕ) : Type 0 where
  pub told : ltb 65535 r ≡ not (digits_at at k line)
  pub right : digits_at at k line ≡ true → r ≡ part at k line

-- two of them
pub record ReadsPair (line : List ℕ) (at r : ℕ) : Type 0 where
  pub reads : Reads line at 2 r
  pub few : digits_at at 2 line ≡ true → r < 256
  pub most : r ≤ 1114112

-- the words that the sixteen bytes from `at` on write where they are digits, and nothing where one of them is none
abbrev pub ReadsWords : List ℕ → ℕ → Option Four → Type 0
ReadsWords line at (Some ws) = (digits_at at 16 line ≡ true) × (words_at at line ≡ words_in ws)
ReadsWords line at None = digits_at at 16 line ≡ false

-- where the flag stands, each of the k bytes from `at` on is the digit 0
pub record ZerosFrom (line : List ℕ) (at k : ℕ) (flag : Bool) : Type 0 where
  pub each : flag ≡ true → (i : ℕ) → i < k → get_or line (at + i) 0 ≡ 0x30

-- r has the last two digits of n, the first of them in the low half
pub record TwoDigits (n r : ℕ) : Type 0 where
  pub first : r % 256 ≡ digit (n / 16 % 16)
  pub second : r / 256 ≡ digit (n % 16)
  pub few : r < 65536

-- `after` is `before` with the bytes l put in from `at` on, and all others as they were
pub record Put (before : List ℕ) (at : ℕ) (l after : List ℕ) : Type 0 where
  pub bytes : after ≡ sets before at l

-- the line was put in with its end, and `next` is the place behind it
pub record Wrote (before : List ℕ) (at : ℕ) (line after : List ℕ) (next : ℕ) : Type 0 where
  pub put : Put before at (ended line) after
  pub place : next ≡ at + length (ended line)
