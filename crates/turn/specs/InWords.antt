-- What the lent words keep of a run's state, and what a line's turn promises. Assumes nothing: these are definitions.
use Rattle.std.specs.Prelude.{List, [], ◌++◌, ◌≡◌, ℕ, suc, ◌+◌, ◌*◌, ◌≤◌, ◌<◌, length, take, eqb, leb, Result, Ok, Err}
use Rattle.std.proofs.lemmas.List.Edits.{sets}
use Rattle.machine.specs.Numbers.{call_list}
use Rattle.machine.specs.Queue.{if}
use Rattle.machine.specs.Machine.{Machine}
use Rattle.machine.specs.declared.exchange.Answer.{Answer as Reply}
use Rattle.machine.specs.declared.exchange.Call.{Call}
use Rattle.machine.specs.Exchange.{words_in, said}
use Rattle.machine.specs.Request.{Request, request}
use Rattle.machine.specs.Step.{refused, step}
use Rattle.machine.specs.Layout.{Entry, layout_refusal}
use Rattle.machine.specs.Legal.{Legal}
use Rattle.machine.specs.Words.{Shows}
use Rattle.answers.specs.Promise.{with_listing}
use Rattle.lines.specs.declared.Entry.{Entry as Given}
use Rattle.lines.specs.declared.Parsed.{Parsed}
use Rattle.lines.specs.declared.Parsed.TheVariants.{Entry as ItsEntry, Call as ItsCall, Other as Neither}
use Rattle.lines.specs.Line.{Shape, LayoutEntry, Ask, Other}
use Rattle.lines.specs.Promise.{Put}
use Rattle.lines.specs.Replay.{State, Gathering, Running, Ended, Turn, room_words, longest, called, table, machine_by, five, silent, laid_out, turn, last}
use Rattle.turn.specs.declared.Progress.{Progress}
use Rattle.turn.specs.declared.Progress.TheVariants.{Gathering as Gathers, Running as Runs, Ended as HasEnded}
use Rattle.turn.specs.declared.Run.{Run}

-- ---- lists of which no more is stored than matters
-- the buffer has l, n items of that width, or n is one more than the limit and so l is too long, whatever the buffer has
pub record Stored (limit width : ℕ) (l buffer : List ℕ) (n : ℕ) : Type 0 where
  pub few : n ≤ suc limit
  pub words : n ≤ limit → l ≡ take (width * n) buffer
  pub many : limit < n → width * limit < length l

-- the words of n layout entries: over 32 are refused, whatever they are
abbrev pub Entries : List ℕ → List ℕ → ℕ → Type 0
Entries ws list n = Stored 32 5 ws list n

-- ---- the state of a run
-- the table before its layout
abbrev pub Zeros : List ℕ → Type 0
Zeros t = t ≡ table

-- the table of a state: zeros before the layout is done, and after one that was refused
abbrev pub InTable : State → List ℕ → Type 0
InTable (Gathering ws) t = Zeros t
InTable (Running m) t = Shows t m × Legal m
InTable Ended t = Zeros t

-- how far a run has come, in the code's words
abbrev pub gathering : ℕ → Progress
gathering n = Gathers n

abbrev pub running : Progress
running = Runs

abbrev pub over : Progress
over = HasEnded

-- the table t, the list l and the progress p keep the state
abbrev pub InWords : State → List ℕ → List ℕ → Progress → Type 0
InWords (Gathering ws) t l (Gathers n) = InTable (Gathering ws) t × Entries ws l n
InWords (Gathering ws) t l Runs = ⊥
InWords (Gathering ws) t l HasEnded = ⊥
InWords (Running m) t l (Gathers n) = ⊥
InWords (Running m) t l Runs = InTable (Running m) t
InWords (Running m) t l HasEnded = ⊥
InWords Ended t l (Gathers n) = ⊥
InWords Ended t l Runs = ⊥
InWords Ended t l HasEnded = InTable Ended t

-- the state at the end of the input, where the layout is done if it wasn't yet
unfoldable pub finished : State → State
finished (Gathering ws) = (laid_out ws (λ m. silent (Running m))).state
finished (Running m) = Running m
finished Ended = Ended

-- ---- what a line leaves in the list and in the room
-- an entry that comes in time goes behind those that the list has; of more than 32 no more is stored
abbrev pub list_with : Progress → Entry → List ℕ → List ℕ
list_with (Gathers n) e l = if (leb n 32) (sets l (5 * n) (five e)) l
list_with Runs e l = l
list_with HasEnded e l = l

unfoldable pub list_after : Progress → Shape → List ℕ → List ℕ
list_after p (LayoutEntry e) l = list_with p e l
list_after p (Ask k a b ws) l = l
list_after p Other l = l

-- the rows that a call lists on the table laid out by the list; none where the layout is refused
abbrev pub rows_laid : List ℕ → Request → List ℕ
rows_laid list q = if (eqb (layout_refusal list 0 [] (length table)) 0) (step (machine_by list) q).listing []

-- the rows that a line's call puts into the room
unfoldable pub rows_by : State → Shape → List ℕ
rows_by (Gathering list) (LayoutEntry e) = []
rows_by (Gathering list) (Ask k a b ws) = rows_laid list (request k a b ws room_words)
rows_by (Gathering list) Other = []
rows_by (Running m) (LayoutEntry e) = []
rows_by (Running m) (Ask k a b ws) = (step m (request k a b ws room_words)).listing
rows_by (Running m) Other = []
rows_by Ended x = []

-- ---- promises
-- the bytes l were put in from `at` on, and `next` is the place behind them
pub record Written (before : List ℕ) (at : ℕ) (l after : List ℕ) (next : ℕ) : Type 0 where
  pub put : Put before at l after
  pub place : next ≡ at + length l

-- no more than an answer line and 128 rows
abbrev pub Few : List ℕ → Type 0
Few l = length l ≤ longest

-- the turn o was taken: t, l and p keep its state, and its bytes were written
pub record Leads (o : Turn) (t l : List ℕ) (p : Progress) (before : List ℕ) (at : ℕ) (after : List ℕ) (next : ℕ) : Type 0 where
  pub in_words : InWords o.state t l p
  pub written : Written before at o.output after next
  pub few : Few o.output

-- one line, of shape x: from any state that the words keep its turn was taken, and list and room are as it leaves them
pub record TakesTurn (x : Shape) (t : List ℕ) (w : Run) (t' : List ℕ) (w' : Run) (before : List ℕ) (at : ℕ) (after : List ℕ) (next : ℕ) : Type 0 where
  pub leads : (state : State) → InWords state t w.list w.progress → Leads (turn state x) t' w'.list w'.progress before at after next
  pub list : w'.list ≡ list_after w.progress x w.list
  pub room : (state : State) → InWords state t w.list w.progress → w'.room ≡ with_listing (rows_by state x) w.room

-- ---- what was read, in the definitions' words
-- the entry, its words, and the shape
abbrev pub entry_read : Given → Entry
entry_read e = record { priority = e.priority; owns = e.owns; name₀ = e.name0; name₁ = e.name1; name₂ = e.name2 }

abbrev pub entry_words : Given → List ℕ
entry_words e = five (entry_read e)

abbrev pub shape_read : Parsed → Shape
shape_read (ItsEntry e) = LayoutEntry (entry_read e)
shape_read (ItsCall c) = Ask c.number c.a c.b (words_in c.words)
shape_read Neither = Other

-- the words of one entry more were taken in: the list has r entries now
pub record AddsEntry (l : List ℕ) (n : ℕ) (words l' : List ℕ) (r : ℕ) : Type 0 where
  pub entries : (ws : List ℕ) → Entries ws l n → Entries (ws ++ words) l' r
  pub list : l' ≡ if (leb n 32) (sets l (5 * n) words) l

-- a layout by the list ws of a table of zeros is accepted and leaves the words u, or is refused with that answer and leaves zeros
pub record Accepts (ws u : List ℕ) : Type 0 where
  pub number : layout_refusal ws 0 [] (length table) ≡ 0
  pub words : Shows u (machine_by ws)

pub record Refuses (ws u : List ℕ) (r : Reply) : Type 0 where
  pub number : layout_refusal ws 0 [] (length table) ≡ 0 → ⊥
  pub answer : said r ≡ refused (layout_refusal ws 0 [] (length table))
  pub unchanged : Zeros u

abbrev pub Lays : List ℕ → List ℕ → Result (Unit {0}) Reply → Type 0
Lays ws u (Ok _) = Accepts ws u
Lays ws u (Err r) = Refuses ws u r

-- the request that was read
abbrev pub request_read : Call → Request
request_read c = request c.number c.a c.b (words_in c.words) room_words

-- what the machine m makes of it
abbrev pub makes : Machine → Call → Turn
makes m c = called m c.number c.a c.b (words_in c.words)

-- the call was made on m: the words u show the machine afterwards, its lines were written, and its rows put into the room s
pub record Answered (m : Machine) (c : Call) (u s s' before : List ℕ) (at : ℕ) (after : List ℕ) (next : ℕ) : Type 0 where
  pub words : Shows u (step m (request_read c)).machine
  pub written : Written before at (makes m c).output after next
  pub room : s' ≡ with_listing (step m (request_read c)).listing s

-- the same of the first call, by the entries ws
pub record Begins (ws : List ℕ) (c : Call) (u : List ℕ) (w w' : Run) (before : List ℕ) (at : ℕ) (after : List ℕ) (next : ℕ) : Type 0 where
  pub leads : Leads (laid_out ws (λ m. makes m c)) u w'.list w'.progress before at after next
  pub room : w'.room ≡ with_listing (rows_laid ws (request_read c)) w.room

-- the end of the input, in that state
pub record Finishes (state : State) (u before : List ℕ) (at : ℕ) (after : List ℕ) (next : ℕ) : Type 0 where
  pub table : InTable (finished state) u
  pub written : Written before at (last state) after next

-- the rows that follow an answer of that kind: only call 0B lists
abbrev pub rows_after : ℕ → ℕ → ℕ
rows_after call kind = if (eqb call call_list) kind 0

-- ---- room
-- an answer line and 128 rows fit into a buffer of n bytes from `at` on
abbrev pub LineFits : ℕ → ℕ → Type 0
LineFits at n = at + longest ≤ n

-- what a turn asks of the words lent to it: room, and a state that they keep
pub record Ready (t l out : List ℕ) (at : ℕ) (p : Progress) : Type 0 where
  pub fits : LineFits at (length out)
  pub state : State
  pub in_words : InWords state t l p
