-- The input as it comes, block by block: what a run has come to after some bytes of it, and what the functions promise that take them.
-- Assumes nothing: these are definitions.
use Rattle.std.specs.Prelude.{Bool, List, [], ◌∷◌, ◌++◌, ◌≡◌, ℕ, suc, ◌+◌, ◌≤◌, ◌<◌, eqb, ltb, length, take}
use Rattle.machine.specs.Queue.{if}
use Rattle.answers.specs.Promise.{with_listing}
use Rattle.text.specs.Cut.{cut}
use Rattle.lines.specs.Line.{Shape, shape, answer_bytes}
use Rattle.lines.specs.Promise.{numbers}
use Rattle.lines.specs.declared.Parsed.{Parsed}
use Rattle.lines.specs.Replay.{State, Gathering, longest, next, run}
use Rattle.turn.specs.declared.blocks.Fed.{Fed}
use Rattle.turn.specs.declared.blocks.Reader.{Reader}
use Rattle.turn.specs.declared.Progress.{Progress}
use Rattle.turn.specs.Begun.{before_end, Begun}
use Rattle.turn.specs.InWords.{InWords, InTable, finished, list_after, rows_by, Ready, Written, Few}

-- ---- a run and the bytes of its input
-- the state, the bytes of the line begun, and what was written on the way
pub record Point : Type 0 where
  pub state : State
  pub begun : List ℕ
  pub output : List ℕ

-- where a run comes to that wrote this first
abbrev pub behind : List ℕ → Point → Point
behind output p = record { state = p.state; begun = p.begun; output = output ++ p.output }

-- from the state s, with that line begun, by these bytes
unfoldable pub reach : State → List ℕ → List ℕ → Point
reach s begun [] = record { state = s; begun = begun; output = [] }
reach s begun (c ∷ l) = if (eqb c 0x0A) (behind (next s begun).output (reach (next s begun).state [] l)) (reach s (begun ++ (c ∷ [])) l)

-- where an input brings a run from its start, and what more bytes add to the output
abbrev pub point_after : List ℕ → Point
point_after input = reach (Gathering []) [] input

abbrev pub adds : List ℕ → List ℕ → List ℕ
adds input bytes = (reach (point_after input).state (point_after input).begun bytes).output

-- what is written from the state s on where the input ends in that line, and the state at its end
abbrev pub closing : State → List ℕ → List ℕ
closing s begun = run s (cut begun [])

unfoldable pub ends : State → List (List ℕ) → State
ends s [] = finished s
ends s (l ∷ ls) = ends (next s l).state ls

-- what is written for the rest of an input that comes in these pieces: what each adds, and at its end the rest
unfoldable pub by_pieces : List ℕ → List (List ℕ) → List ℕ
by_pieces input [] = closing (point_after input).state (point_after input).begun
by_pieces input (bytes ∷ l) = adds input bytes ++ by_pieces (input ++ bytes) l

-- ---- a block and its first line
-- how many are of its first line, with its end, or the whole block
unfoldable pub line_size : List ℕ → ℕ
line_size [] = 0
line_size (c ∷ l) = if (eqb c 0x0A) 1 (suc (line_size l))

-- a line ends in the block
abbrev pub has_end : List ℕ → Bool
has_end block = ltb (before_end block) (length block)

-- the shape of that line, of which some bytes came before
abbrev pub first_line : List ℕ → List ℕ → Shape
first_line begun block = shape (begun ++ take (before_end block) block)

-- ---- promises
-- no line is begun, the first of the block has 26 bytes before its end, and this was read of them
pub record ReadInPlace (n : ℕ) (block : List ℕ) (r : Parsed) : Type 0 where
  pub none : n ≡ 0
  pub size : before_end block ≡ 26
  pub ends : 26 < length block
  pub read : r ≡ numbers (shape (take 26 block))

-- the words, the progress and the line's buffer keep the point, and its output was written
pub record AtPoint (p : Point) (t l : List ℕ) (progress : Progress) (line : List ℕ) (n : ℕ) (before : List ℕ) (at : ℕ) (after : List ℕ)
    (next : ℕ) : Type 0 where
  pub in_words : InWords p.state t l progress
  pub stored : Begun p.begun line n
  pub written : Written before at p.output after next
  pub few : Few p.output

-- the bytes of one line of the block were taken, from any state and line begun that the words and the buffer kept
pub record Feeds (t : List ℕ) (w : Reader) (block t' : List ℕ) (w' : Reader) (before : List ℕ) (at : ℕ) (after : List ℕ) (r : Fed) : Type 0 where
  pub taken : r.taken ≡ line_size block
  pub comes : (state : State) (begun : List ℕ) → InWords state t w.run.list w.run.progress → Begun begun w.begun.bytes w.begun.len
      → AtPoint (reach state begun (take r.taken block)) t' w'.run.list w'.run.progress w'.begun.bytes w'.begun.len before at after r.next
  pub list : (begun : List ℕ) → Begun begun w.begun.bytes w.begun.len
      → w'.run.list ≡ if (has_end block) (list_after w.run.progress (first_line begun block) w.run.list) w.run.list
  pub room : (state : State) (begun : List ℕ) → InWords state t w.run.list w.run.progress → Begun begun w.begun.bytes w.begun.len
      → w'.run.room ≡ if (has_end block) (with_listing (rows_by state (first_line begun block)) w.run.room) w.run.room

-- the input ended in that line
pub record Closes (state : State) (begun u before : List ℕ) (at : ℕ) (after : List ℕ) (next : ℕ) : Type 0 where
  pub table : InTable (ends state (cut begun [])) u
  pub written : Written before at (closing state begun) after next
  pub few : length (closing state begun) ≤ longest + answer_bytes

-- a line is begun
abbrev pub is_begun : List ℕ → Bool
is_begun begun = ltb 0 (length begun)

-- the input ended, from any state and line begun that the words and the buffer kept; list and room are as that line leaves them, if there is one
pub record TakesEnd (t : List ℕ) (w : Reader) (t' : List ℕ) (w' : Reader) (before : List ℕ) (at : ℕ) (after : List ℕ) (next : ℕ) : Type 0 where
  pub closes : (state : State) (begun : List ℕ) → InWords state t w.run.list w.run.progress → Begun begun w.begun.bytes w.begun.len
      → Closes state begun t' before at after next
  pub list : (begun : List ℕ) → Begun begun w.begun.bytes w.begun.len
      → w'.run.list ≡ if (is_begun begun) (list_after w.run.progress (shape begun) w.run.list) w.run.list
  pub room : (state : State) (begun : List ℕ) → InWords state t w.run.list w.run.progress → Begun begun w.begun.bytes w.begun.len
      → w'.run.room ≡ if (is_begun begun) (with_listing (rows_by state (shape begun)) w.run.room) w.run.room

-- what is asked of the words
abbrev pub Reading : List ℕ → Reader → List ℕ → ℕ → Type 0
Reading t w out at = Ready t w.run.list out at w.run.progress
