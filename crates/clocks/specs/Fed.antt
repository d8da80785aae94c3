-- A chain of what the delay queue's entries promise, fed the events that calls stand for. Assumes nothing: these are definitions.
use Rattle.std.specs.Prelude.{List, [], ◌∷◌, map, ◌≡◌, ℕ, ◌+◌, ◌*◌, ◌≤◌, length}
use Rattle.machine.specs.Machine.{Machine}
use Rattle.machine.specs.Request.{Request}
use Rattle.machine.specs.Layout.{laid_over}
use Rattle.machine.specs.Log.{Log, asked}
use Rattle.logs.specs.Real.{Real}
use Rattle.logs.proofs.Written.{beyond_of}
use Rattle.delays.specs.declared.Ticked.{Ticked}
use Rattle.delays.specs.Words.{Makes, Waits, Leaves, Ticks}
use Rattle.delays.specs.Delays.{Event, Wait, Wake, Stop, Clean, Tick}
use Rattle.delays.specs.Calls.{events_all, DelaysFit}

-- the entries were called for the events one after the other, with n words of room at each tick, and took the words q to r
pub data Fed (n : ℕ) : List ℕ → List ℕ → List Event → Type 0 where
  none : {q : List ℕ} → Fed n q q []
  waits : {q q' r : List ℕ} {p d k : ℕ} {l : List Event} → Waits q q' p d k → Fed n q' r l → Fed n q r (Wait p d ∷ l)
  wakes : {q q' r : List ℕ} {p k : ℕ} {l : List Event} → Leaves q q' p k → Fed n q' r l → Fed n q r (Wake p ∷ l)
  stops : {q q' r : List ℕ} {p k : ℕ} {l : List Event} → Leaves q q' p k → Fed n q' r l → Fed n q r (Stop p ∷ l)
  cleans : {q q' r : List ℕ} {p k : ℕ} {l : List Event} → Leaves q q' p k → Fed n q' r l → Fed n q r (Clean p ∷ l)
  ticks : {q q' r s v : List ℕ} {k : Ticked} {l : List Event} → length s ≡ n → Ticks q q' s v k → Fed n q' r l → Fed n q r (Tick ∷ l)

-- what the calls of a log ask
abbrev pub requests : Log → List Request
requests g = map asked g.calls

-- the machine that a real log begins with
abbrev pub start : {g : Log} {u : List ℕ} → Real g u → Machine
start {g} h = laid_over (beyond_of h) h.edition h.counters g.list

-- a queue was made in the words q beside the log's layout and fed what its calls stand for, and is now in the words r
pub record BesideLog {g : Log} {u : List ℕ} (h : Real g u) (n : ℕ) (q r : List ℕ) : Type 0 where
  pub empty : List ℕ
  pub number : ℕ
  pub made : Makes q empty (length g.list) number
  pub long : 2 + 2 * length g.list ≤ length q
  pub room : length g.list ≤ n
  pub fed : Fed n empty r (events_all (start h) (requests g))
  -- delays are words, as every part of a call is
  pub fits : DelaysFit (requests g)
