-- What the program keeps of its run from one read to the next, and what its functions promise of the bytes they take and of those they gather to be
-- written. Assumes nothing: these are definitions.
use Rattle.std.specs.Prelude.{Bool, true, false, ◌||◌, List, ◌++◌, ◌≡◌, ℕ, ◌-◌, ◌≤◌, eqb, ℤ, length, take, drop}
use Rattle.io.specs.Counts.{clamp_len}
use Rattle.lines.specs.Replay.{longest, table}
use Rattle.turn.specs.declared.blocks.Fed.{Fed}
use Rattle.turn.specs.declared.Progress.{Progress}
use Rattle.turn.specs.declared.Progress.TheVariants.{Gathering, Running, Ended}
use Rattle.turn.specs.InWords.{InWords, gathering, over, Written, LineFits}
use Rattle.turn.specs.Begun.{Begun}
use Rattle.turn.specs.Feed.{point_after, adds, Closes}
use Rattle.replay.specs.declared.blocks.Kept.{Kept}

-- ---- what is kept
-- the lent words that keep a run, how far it has come, and how many bytes the line begun has
pub record Lent : Type 0 where
  pub table : List ℕ
  pub list : List ℕ
  pub line : List ℕ
  pub progress : Progress
  pub begun : ℕ

abbrev pub lent : Kept → Lent
lent k = (let r = k.reader in record { table = k.table; list = r.run.list; line = r.begun.bytes; progress = r.run.progress; begun = r.begun.len })

-- at the start of a run: a table of zeros, no entries, no line begun
abbrev pub IsStart : Lent → Type 0
IsStart w = (w.table ≡ table) × (w.progress ≡ gathering 0) × (w.begun ≡ 0)

-- they keep the run of that input
pub record Holds (input : List ℕ) (w : Lent) : Type 0 where
  pub in_words : InWords (point_after input).state w.table w.list w.progress
  pub stored : Begun (point_after input).begun w.line w.begun

-- `out` has room for what two lines write
abbrev pub HasRoom : List ℕ → Type 0
HasRoom o = LineFits longest (length o)

-- a run is under way
pub record Open (w : Lent) (o : List ℕ) : Type 0 where
  pub out : HasRoom o
  pub input : List ℕ
  pub holds : Holds input w

-- the number of reads after which the program reads no more, each of which gave a byte at least: nobody has so many
abbrev pub most_reads : ℕ
most_reads = 18446744073709551615

-- so reading comes to an end: the last read gave nothing, or a refused layout has ended the run; or there were that many reads, and so as many bytes
pub data Stops (taken : ℕ) (p : Progress) (bytes : ℕ) : Type 0 where
  nothing_read : taken ≡ 0 → Stops taken p bytes
  layout_refused : p ≡ over → Stops taken p bytes
  all_reads : most_reads ≤ bytes → Stops taken p bytes

-- the input of the run was read, its last read giving that many bytes
pub record Read (w : Lent) (o : List ℕ) (taken : ℕ) : Type 0 where
  pub under_way : Open w o
  pub stops : Stops taken w.progress (length under_way.input)

-- ---- promises
-- the bytes of a block from one place to another
abbrev pub part : ℕ → ℕ → List ℕ → List ℕ
part from to block = take (to - from) (drop from block)

-- the run has these bytes behind its input, and what they add to the output was put into `out` from `at` on
pub record Gathered (input bytes : List ℕ) (w : Lent) (before : List ℕ) (at : ℕ) (after : List ℕ) (next : ℕ) : Type 0 where
  pub holds : Holds (input ++ bytes) w
  pub written : Written before at (adds input bytes) after next

-- the block was taken from `from` up to r's place, whatever input the words w kept the run of, and what it adds was gathered
pub record TakesPart (block : List ℕ) (from : ℕ) (w w' : Lent) (before : List ℕ) (at : ℕ) (after : List ℕ) (r : Fed) : Type 0 where
  pub out : HasRoom after
  pub onward : from ≤ r.taken
  pub within : r.taken ≤ length block
  pub fits : r.next ≤ length after
  pub gathered : (input : List ℕ) → Holds input w → Gathered input (part from r.taken block) w' before at after r.next

-- the whole block was taken
pub record TakesAll (block : List ℕ) (w w' : Lent) (o : List ℕ) : Type 0 where
  pub out : HasRoom o
  pub holds : (input : List ℕ) → Holds input w → Holds (input ++ block) w'

-- the bytes that a read gave were taken, as many at the start of the block as it answered: n
pub record TakesRead (got : ℤ) (block : List ℕ) (w w' : Lent) (out : List ℕ) (n : ℕ) : Type 0 where
  pub takes : TakesAll (take (clamp_len got (length block)) block) w w' out
  pub count : n ≡ clamp_len got (length block)

-- the input was at its end: the table u, and what the end adds to the output, up to `next` from the start of `out` on
abbrev pub Ends : List ℕ → List ℕ → List ℕ → List ℕ → ℕ → Type 0
Ends input u before after next = Closes (point_after input).state (point_after input).begun u before 0 after next

-- all was read, to the end of the input or up to a refused layout: whatever input the words w kept the run of, the bytes read are behind it
pub record ReadsAll (w w' : Lent) (o : List ℕ) (taken : ℕ) : Type 0 where
  pub out : HasRoom o
  pub bytes : List ℕ
  pub holds : (input : List ℕ) → Holds input w → Holds (input ++ bytes) w'
  pub stops : Stops taken w'.progress (length bytes)

-- the bytes that were read, behind whatever input the words w kept the run of, were replayed to their end
pub record Replayed (w : Lent) (u after : List ℕ) (next : ℕ) : Type 0 where
  pub bytes : List ℕ
  pub before : List ℕ
  pub ends : (input : List ℕ) → Holds input w → Ends (input ++ bytes) u before after next

-- reading ends behind a read of which so many bytes were taken: at the end of the input, and where the run has ended
abbrev pub has_ended : Progress → Bool
has_ended (Gathering n) = false
has_ended Running = false
has_ended Ended = true

abbrev pub ends_reading : ℕ → Progress → Bool
ends_reading taken p = eqb taken 0 || has_ended p
