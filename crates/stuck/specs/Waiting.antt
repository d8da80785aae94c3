-- docs/MONITOR.md, 17.1, in the question's own words: who waits for whom, who is reached, and what a ring is. Assumes nothing: these are definitions.
use Rattle.std.specs.Prelude.{◌≡◌, Bool, true, false, List, [], ◌∷◌, ◌↔◌, ℕ, zero, suc, ◌≤◌, ◌*◌, length}
use Rattle.machine.specs.Numbers.{state_waits_answer}
use Rattle.machine.specs.Records.{process_state, process_awaited, buffer_receiver}
use Rattle.machine.specs.Queue.{Range, In, Distinct, Exact, Rising, head, last_from}
use Rattle.machine.specs.Machine.{Machine, state, awaited, receiver}
use Rattle.machine.specs.Request.{Request, Send, WaitAnswer, WaitEvent, SendAnswer, WaitInterrupt, Start, Stop, Clean, Tick, Interrupt, ListOpen}
use Rattle.machine.specs.Request.{Lower, Raise, Unknown}
use Rattle.machine.specs.Sound.{process_at, buffer_at}

-- ---- who waits for whom
-- each process's state, and "from a waiting process to its buffer, and from that buffer to the process that has it as receiver"
pub record Waiting : Type 0 where
  pub state : ℕ → ℕ
  pub holder : ℕ → ℕ

-- as a table says it: words 4 and 7 of a process, word 3 of a buffer
abbrev pub of_table : List ℕ → Waiting
of_table t = record { state = λ p. process_at t p process_state; holder = λ p. buffer_at t (process_at t p process_awaited) buffer_receiver }

-- as a machine says it
abbrev pub of_machine : Machine → Waiting
of_machine m = record { state = state m; holder = λ p. receiver m (awaited m p) }

-- ---- reached, waits for, ring
-- q is n links of waiting from p: p is in state 3, and q is n - 1 links from the process that has p's buffer as receiver
unfoldable pub Links : Waiting → ℕ → ℕ → ℕ → Type 0
Links w zero p q = p ≡ q
Links w (suc n) p q = (w.state p ≡ state_waits_answer) × Links w n (w.holder p) q

-- q is reached from p
pub record Reached (w : Waiting) (p q : ℕ) : Type 0 where
  pub links : ℕ
  pub by : Links w links p q

-- p waits, through such links, for q
pub record WaitsThrough (w : Waiting) (p q : ℕ) : Type 0 where
  pub more : ℕ
  pub by : Links w (suc more) p q

-- "some process reached from the first waits, through such links, for itself"
pub record Ring (w : Waiting) (a : ℕ) : Type 0 where
  pub process : ℕ
  pub reached : Reached w a process
  pub awaits_itself : WaitsThrough w process process

-- ---- what the processes listed from a on say, and that they end in a ring
-- each is in state 3 and waits for the one listed after it
unfoldable pub Behind : Waiting → List ℕ → Type 0
Behind w [] = Unit {0}
Behind w (x ∷ []) = Unit {0}
Behind w (x ∷ y ∷ l) = (w.state x ≡ state_waits_answer) × (w.holder x ≡ y) × Behind w (y ∷ l)

-- the one that comes up after the n listed is among them
pub record Again (w : Waiting) (a n : ℕ) (l : List ℕ) : Type 0 where
  pub process : ℕ
  pub next : Links w n a process
  pub listed : In process l

pub record TellsWho (w : Waiting) (P a : ℕ) (l : List ℕ) (ring : Bool) : Type 0 where
  pub first : head l ≡ a
  pub behind : Behind w l
  pub once : Distinct l
  -- "No chain lists more than P processes"
  pub few : length l ≤ P
  -- "The last listed is one not in state 3, or it is called a ring when a process would come up a second time"
  pub ends : ring ≡ false → w.state (last_from 0 l) ≡ state_waits_answer → ⊥
  pub again : ring ≡ true → Again w a (length l) l
  -- "A ring is reported exactly if .."
  pub exactly : (ring ≡ true) ↔ Ring w a

-- ---- what the rings of a station say
-- r is the ring whose lowest process is a: each waits for the one after it, and the last for a
pub record Round (w : Waiting) (a : ℕ) (r : List ℕ) : Type 0 where
  pub first : head r ≡ a
  pub behind : Behind w r
  pub closes : (w.state (last_from 0 r) ≡ state_waits_answer) × (w.holder (last_from 0 r) ≡ a)
  pub lowest : (y : ℕ) → In y r → a ≤ y
  pub several : 2 ≤ length r

-- p is one of 1 to P, and waits for itself
abbrev pub StuckInRing : Waiting → ℕ → ℕ → Type 0
StuckInRing w P p = Range P p × WaitsThrough w p p

-- a ring for each of `lowest`; `all` are their members
pub record TellsRings (w : Waiting) (P : ℕ) (lowest : List ℕ) (ring : ℕ → List ℕ) (all : List ℕ) : Type 0 where
  pub each : (a : ℕ) → In a lowest → Round w a (ring a)
  pub rising : Rising 0 lowest
  pub members : Exact (StuckInRing w P) all
  pub few : 2 * length lowest ≤ P

-- ---- what a stop or a clean of x does to the rings: from the waits w to the waits v
pub record Breaks (w v : Waiting) (P x : ℕ) : Type 0 where
  -- who waits for itself afterwards did so before, and not through x: x's ring is gone, and no other came
  pub members : (y : ℕ) → Range P y → WaitsThrough v y y → WaitsThrough w y y × (Reached w y x → ⊥)
  -- who is stuck in a ring or behind one afterwards was so before, and not behind x
  pub behind : (y : ℕ) → Range P y → Ring v y → Ring w y × (Reached w y x → ⊥)

-- ---- what ends a ring: call 07 or 08 for a member x
abbrev pub Ends : ℕ → Request → Type 0
Ends x (Send a ws) = ⊥
Ends x (WaitAnswer a) = ⊥
Ends x (WaitEvent d) = ⊥
Ends x (SendAnswer a ws) = ⊥
Ends x (WaitInterrupt a d) = ⊥
Ends x (Start a) = ⊥
Ends x (Stop a) = a ≡ x
Ends x (Clean a) = a ≡ x
Ends x Tick = ⊥
Ends x (Interrupt a) = ⊥
Ends x (ListOpen a room) = ⊥
Ends x (Lower a) = ⊥
Ends x (Raise a) = ⊥
Ends x Unknown = ⊥

-- ---- what any other call does to it: from the waits w to the waits v, y waiting for itself by `more` links and one
pub record RingStays (w v : Waiting) (y more : ℕ) : Type 0 where
  -- each member waits on, for the same process
  pub members : (x : ℕ) → Reached w y x → (v.state x ≡ state_waits_answer) × (v.holder x ≡ w.holder x)
  -- and y waits for itself as before
  pub links : Links v (suc more) y y
