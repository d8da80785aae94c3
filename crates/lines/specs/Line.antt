-- docs/MONITOR.md, 15: what a line of input is, and the lines that write numbers, each without the byte 0A hex that ends it.
-- Assumes nothing: these are definitions.
use Rattle.std.specs.Prelude.{Bool, not, ◌&&◌, ◌||◌, List, [], ◌∷◌, ◌++◌, ℕ, ◌+◌, ◌*◌, length, take, drop, eqb, ltb}
use Rattle.machine.specs.Numbers.{call_send, call_send_answer, call_wait_interrupt, call_tick, call_list}
use Rattle.machine.specs.Queue.{if}
use Rattle.machine.specs.Machine.{Words, four}
use Rattle.machine.specs.Refusal.{row_width}
use Rattle.machine.specs.Step.{Answer}
use Rattle.machine.specs.Layout.{Entry}
use Rattle.lines.specs.Digits.{digits, all_digits, number}

-- ---- input
-- a line of call 00 with "one layout entry and 0000"; a well-formed line of another call, with its parts a, b and words; "any other shape"
pub data Shape : Type 0 where
  LayoutEntry : Entry → Shape
  Ask : ℕ → ℕ → ℕ → Words → Shape
  Other : Shape

-- the parts that calls 01 to 0B use: a, all but the tick (09); b, the wait for an interrupt (05); words, send and send answer (01, 04)
abbrev pub uses_a : ℕ → Bool
uses_a k = not (eqb k call_tick)

abbrev pub uses_b : ℕ → Bool
uses_b k = eqb k call_wait_interrupt

abbrev pub uses_words : ℕ → Bool
uses_words k = eqb k call_send || eqb k call_send_answer

abbrev pub all_zero : Words → Bool
all_zero ws = eqb ws.w₀ 0 && (eqb ws.w₁ 0 && (eqb ws.w₂ 0 && eqb ws.w₃ 0))

-- no "part that isn't zero in one of calls 01 to 0B that doesn't use it"; a call from 0C on may have any parts, LOWER and RAISE too
unfoldable pub well_formed : ℕ → ℕ → ℕ → Words → Bool
well_formed k a b ws = ltb call_list k || ((uses_a k || eqb a 0) && ((uses_b k || eqb b 0) && (uses_words k || all_zero ws)))

-- the entry in the parts of a line of call 00: priority, buffers, three name words
abbrev pub entry_of : ℕ → ℕ → Words → Entry
entry_of a b ws = record { priority = a; owns = b; name₀ = ws.w₀; name₁ = ws.w₁; name₂ = ws.w₂ }

-- what 26 digits are that write call, a, b and words
unfoldable pub shape_of : ℕ → ℕ → ℕ → Words → Shape
shape_of k a b ws =
    if (eqb k 0)
    (if (eqb ws.w₃ 0) (LayoutEntry (entry_of a b ws)) Other)
    (if (well_formed k a b ws) (Ask k a b ws) Other)

-- the number in n digits from place i on
abbrev pub part : ℕ → ℕ → List ℕ → ℕ
part i n l = number (take n (drop i l))

-- four words of four digits each from place i on
abbrev pub words_at : ℕ → List ℕ → Words
words_at i l = four (part i 4 l) (part (i + 4) 4 l) (part (i + 8) 4 l) (part (i + 12) 4 l)

-- "An input line has 26: call, a, b, words"
unfoldable pub shape : List ℕ → Shape
shape l =
    if (eqb (length l) 26 && all_digits l)
    (shape_of (part 0 2 l) (part 2 4 l) (part 6 4 l) (words_at 10 l))
    Other

-- ---- the lines of numbers
-- four words, of four digits each
abbrev pub word_digits : Words → List ℕ
word_digits ws = digits 4 ws.w₀ ++ (digits 4 ws.w₁ ++ (digits 4 ws.w₂ ++ digits 4 ws.w₃))

-- the input line of a call with these parts
abbrev pub input_line : ℕ → ℕ → ℕ → Words → List ℕ
input_line k a b ws = digits 2 k ++ (digits 4 a ++ (digits 4 b ++ word_digits ws))

-- the input line of a layout entry: "one layout entry and 0000"
abbrev pub entry_line : Entry → List ℕ
entry_line e = input_line 0 e.priority e.owns (four e.name₀ e.name₁ e.name₂ 0)

-- "An answer line has 30: number in two digits, kind, buffer, current, words"
abbrev pub answer_line : Answer → List ℕ
answer_line r =
    digits 2 r.number ++ (digits 4 r.kind ++ (digits 4 r.buffer ++ (digits 4 r.current ++ word_digits r.words)))

-- the answer that such a line writes
abbrev pub answer_of : List ℕ → Answer
answer_of l = record { number = part 0 2 l; kind = part 2 4 l; buffer = part 6 4 l; current = part 10 4 l; words = words_at 14 l }

-- the bytes of such a line with its end
abbrev pub answer_bytes : ℕ
answer_bytes = 31

-- "a listing line after it", which (vi) makes 20 digits long: buffer, owner, receiver and standing, and the age
abbrev pub row_line : Words → ℕ → List ℕ
row_line ws age = word_digits ws ++ digits 4 age

-- the bytes of such a line with its end: four digits a word
abbrev pub row_bytes : ℕ
row_bytes = 4 * row_width + 1

-- "a line of just FF"
abbrev pub other_line : List ℕ
other_line = digits 2 0xFF

-- "Every line, in and out, ends in the byte 0A hex"
abbrev pub ended : List ℕ → List ℕ
ended l = l ++ (0x0A ∷ [])
