-- docs/MONITOR.md, 15: from the bytes of the input to those of the output. Assumes nothing: these are definitions.
use Rattle.std.specs.Prelude.{List, [], ◌∷◌, ◌++◌, ℕ, zero, suc, ◌+◌, ◌*◌, length, drop, replicate}
use Rattle.machine.specs.Numbers.{most_buffers}
use Rattle.machine.specs.Machine.{Machine, Words, four}
use Rattle.machine.specs.Request.{request}
use Rattle.machine.specs.Refusal.{row_width}
use Rattle.machine.specs.Step.{Outcome, refused, step}
use Rattle.machine.specs.Layout.{Entry, entries, sum, laid_over, layout_refusal}
use Rattle.machine.specs.Words.{size}
use Rattle.text.specs.Cut.{cut}
use Rattle.lines.specs.Line.{Shape, LayoutEntry, Ask, Other, shape, answer_line, answer_bytes, row_line, row_bytes, other_line, ended}

-- ---- what a run has come to
-- the words of the entries so far; the machine that its table shows; the end after a refused layout
pub data State : Type 0 where
  Gathering : List ℕ → State
  Running : Machine → State
  Ended : State

-- what a line leads to, and the bytes it writes
pub record Turn : Type 0 where
  pub state : State
  pub output : List ℕ

abbrev pub silent : State → Turn
silent s = record { state = s; output = [] }

-- "writes a line of just FF and changes nothing"
abbrev pub other : State → Turn
other s = record { state = s; output = ended other_line }

-- ---- calls
-- "each buffer listed is a line of its own": buffer, owner, receiver, standing, age
unfoldable pub row_lines : List ℕ → List ℕ
row_lines [] = []
row_lines (b ∷ []) = []
row_lines (b ∷ o ∷ []) = []
row_lines (b ∷ o ∷ r ∷ []) = []
row_lines (b ∷ o ∷ r ∷ s ∷ []) = []
row_lines (b ∷ o ∷ r ∷ s ∷ a ∷ l) = ended (row_line (four b o r s) a) ++ row_lines l

-- "Room for a listing is always enough there": a row for each of 128 buffers
abbrev pub room_words : ℕ
room_words = most_buffers * row_width

-- no line writes more bytes than an answer and a row for each of 128 buffers
abbrev pub longest : ℕ
longest = answer_bytes + most_buffers * row_bytes

-- a call on the machine m: the answer line, and "a listing line after it"
abbrev pub called : Machine → ℕ → ℕ → ℕ → Words → Turn
called m k a b ws =
    let o : Outcome = step m (request k a b ws room_words) in
    record { state = Running o.machine; output = ended (answer_line o.answer) ++ row_lines o.listing }

-- ---- layout
-- "The program keeps one table of the largest size, 1,864 words"
abbrev pub table : List ℕ
table = replicate 1864 0

-- the table laid out by the list: "The replay lays out edition 0", and "the replay has none" of the semaphores
abbrev pub machine_by : List ℕ → Machine
machine_by list = laid_over (drop (size (length (entries list)) (sum (entries list)) 0) table) 0 [] (entries list)

-- what a layout leads to that is refused with n, or with 0 is not: "a refused layout writes its answer and ends"
abbrev pub unless_refused : ℕ → Turn → Turn
unless_refused zero t = t
unless_refused (suc n) t = record { state = Ended; output = ended (answer_line (refused (suc n))) }

-- the layout by the list is done, and then what the machine makes of the line
abbrev pub laid_out : List ℕ → (Machine → Turn) → Turn
laid_out list f = unless_refused (layout_refusal list 0 [] (length table)) (f (machine_by list))

-- the words of an entry
abbrev pub five : Entry → List ℕ
five e = e.priority ∷ e.owns ∷ e.name₀ ∷ e.name₁ ∷ e.name₂ ∷ []

-- ---- one line
-- "Lines of call 00 come first .. and write nothing"; "a late 00" is as any other shape; "Layout is done at the first well-formed line
-- of another call"
unfoldable pub turn : State → Shape → Turn
turn (Gathering list) (LayoutEntry e) = silent (Gathering (list ++ five e))
turn (Gathering list) (Ask k a b ws) = laid_out list (λ m. called m k a b ws)
turn (Gathering list) Other = other (Gathering list)
turn (Running m) (LayoutEntry e) = other (Running m)
turn (Running m) (Ask k a b ws) = called m k a b ws
turn (Running m) Other = other (Running m)
turn Ended s = silent Ended

-- what a line of input, without its end, leads to
abbrev pub next : State → List ℕ → Turn
next s l = turn s (shape l)

-- what is written "at the end of the input", where the layout is done if it wasn't yet
unfoldable pub last : State → List ℕ
last (Gathering list) = (laid_out list (λ m. silent (Running m))).output
last (Running m) = []
last Ended = []

-- ---- the run
-- what is written for these lines, from the state s on
unfoldable pub run : State → List (List ℕ) → List ℕ
run s [] = last s
run s (l ∷ ls) = (next s l).output ++ run (next s l).state ls

-- the output of the program for each input
unfoldable pub replay : List ℕ → List ℕ
replay input = run (Gathering []) (cut [] input)
