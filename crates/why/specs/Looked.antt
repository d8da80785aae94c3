-- What the code's functions promise: a record looked at by a clause, and what is known of the words by then. Assumes nothing: these are
-- definitions.
use Rattle.std.specs.Prelude.{◌≡◌, Bool, List, ℕ, ◌+◌, ◌≤◌, ◌<◌, length, eqb, leb, Option, Some, None}
use Rattle.machine.specs.Numbers.{most_processes, most_buffers, most_semaphores}
use Rattle.machine.specs.Records.{header_width}
use Rattle.machine.specs.Queue.{if, Range}
use Rattle.machine.specs.Sound.{P_of, B_of, S_of}
use Rattle.machine.specs.Words.{size}
use Rattle.why.specs.QueueParts.{queues, running_queue, event_queues, semaphore_queues}
use Rattle.why.specs.Clause.{Clause, right, place, clause_of, records}
use Rattle.why.specs.Fault.{failing, told}
use Rattle.why.specs.declared.Fault.{Fault}
use Rattle.why.specs.declared.queues.Kind.{Kind}
use Rattle.why.specs.declared.queues.Kind.TheVariants.{Running, Events, Semaphores}
use Rattle.why.specs.Asked.{of_header, of_zeros, of_processes, of_buffers, of_semaphores, of_devices}

-- the number of a kind of queues
abbrev pub number_of_kind : Kind → ℕ
number_of_kind Running = running_queue
number_of_kind Events = event_queues
number_of_kind Semaphores = semaphore_queues

-- nothing for a record that is right, else the place of the word that is named
abbrev pub named_if : Bool → ℕ → Option ℕ
named_if b i = if b None (Some i)

-- what is named fits a word
abbrev pub Low : Option ℕ → Type 0
Low None = Unit {0}
Low (Some i) = i < 65536

-- record r, looked at by the clause k
pub record Looked (w : List ℕ) (k : Clause) (r : ℕ) (found : Option ℕ) : Type 0 where
  pub is : found ≡ named_if (right w k r) (place w k r)
  pub low : Low found

-- the words have the size that they tell
pub record Sized (w : List ℕ) : Type 0 where
  pub some : 1 ≤ P_of w
  pub P32 : P_of w ≤ most_processes
  pub B128 : B_of w ≤ most_buffers
  pub S16 : S_of w ≤ most_semaphores
  pub long : size (P_of w) (B_of w) (S_of w) ≤ length w

-- by the time that clause c is looked at
pub record Ready (w : List ℕ) (c : ℕ) : Type 0 where
  pub header : 2 ≤ c → header_width ≤ length w
  pub few : 5 ≤ c → (P_of w ≤ most_processes) × ((B_of w ≤ most_buffers) × (S_of w ≤ most_semaphores))
  pub sized : 6 ≤ c → Sized w

-- record x of the queues of kind k, and queue h
pub record HasRecord (w : List ℕ) (k x : ℕ) : Type 0 where
  pub sized : Sized w
  pub kind : k ≤ semaphore_queues
  pub is : Range (queues w k).records x

pub record Heads (w : List ℕ) (k h : ℕ) : Type 0 where
  pub sized : Sized w
  pub kind : k ≤ semaphore_queues
  pub is : Range (queues w k).number h

-- record r of clause c
pub record Asks (w : List ℕ) (c r : ℕ) : Type 0 where
  pub ready : Ready w c
  pub is : Range (records w (clause_of c)) r

-- the last of x's queue is x; the previous of record y is x
pub record EndsWith (w : List ℕ) (k x : ℕ) (found : Option ℕ) : Type 0 where
  pub is : found ≡ named_if (eqb ((queues w k).last ((queues w k).home x)) x) ((queues w k).ends ((queues w k).home x) + 1)
  pub low : Low found

pub record ComesBack (w : List ℕ) (k x y : ℕ) (found : Option ℕ) : Type 0 where
  pub is : found ≡ named_if (eqb ((queues w k).previous y) x) ((queues w k).links y + 1)
  pub low : Low found

-- of what clause c speaks, by its number
unfoldable pub sort_by : ℕ → ℕ
sort_by c =
    if (leb c 6) of_header (if (leb c 7) of_zeros (if (leb c 8) of_semaphores (if (leb c 12) of_processes (if (leb c 13) of_header
    (if (leb c 14) of_buffers (if (leb c 17) of_header (if (leb c 25) of_processes (if (leb c 32) of_buffers (if (leb c 35) of_semaphores
    (if (leb c 38) of_processes (if (leb c 39) of_semaphores (if (leb c 47) of_processes of_devices))))))))))))

-- what is told of clause c, if it fails
abbrev pub if_fails : List ℕ → ℕ → Option Fault
if_fails w c = if (eqb (failing w c) 0) None (Some (told c (failing w c) (place w (clause_of c) (failing w c))))
