-- docs/MONITOR.md, 11: what two cleans leave the same in either order, of machines and of words. Assumes nothing: these are definitions.
use Rattle.std.specs.Prelude.{◌≡◌, ◌⊎◌, ◌↔◌, List, [], ℕ, ◌≤◌, ◌<◌, length, drop}
use Rattle.machine.specs.Numbers.{state_running, standing_queued, standing_answered}
use Rattle.machine.specs.Queue.{Range, In, Distinct}
use Rattle.machine.specs.Machine.{Machine, semaphores}
use Rattle.machine.specs.Words.{Place, Header, Process, Buffer, Semaphore, Has, size}
use Rattle.machine.specs.Sound.{P_of, B_of, S_of, word_at, process_at, buffer_at, RunningQueue, EventQueue}

-- the same numbers, each once, in whatever order
pub record Reordered (q r : List ℕ) : Type 0 where
  pub once : Distinct q × Distinct r
  pub members : (x : ℕ) → In x q ↔ In x r

-- ---- machines
-- m and n, in which p and q were cleaned, have everything in common but the order inside the other processes' event queues and the
-- running queue
pub record SameBut (p q : ℕ) (m n : Machine) : Type 0 where
  pub P : m.P ≡ n.P
  pub B : m.B ≡ n.B
  pub header : m.header ≡ n.header
  pub process : (a f : ℕ) → m.process a f ≡ n.process a f
  pub buffer : (b g : ℕ) → Range m.B b → 2 ≤ g → g < 10 → m.buffer b g ≡ n.buffer b g
  pub device : (d : ℕ) → m.device d ≡ n.device d
  pub counter : (s : ℕ) → Range (semaphores m) s → m.counter s ≡ n.counter s
  pub waiters : (s : ℕ) → Range (semaphores m) s → m.waiters s ≡ n.waiters s
  pub beyond : m.beyond ≡ n.beyond
  -- nothing is queued at those two
  pub emptied : (m.events p ≡ []) × (n.events p ≡ []) × (m.events q ≡ []) × (n.events q ≡ [])
  pub same_events : (a : ℕ) → Range m.P a → Reordered (m.events a) (n.events a)
  pub same_running : Reordered m.running n.running

-- ---- words
-- the words that may differ, by the states and standings that both have: the ends of the running queue, the links of those that run, the ends
-- of the event queue of a process other than p and q, and the links of a buffer in one of these
abbrev pub MayDiffer : ℕ → ℕ → (ℕ → ℕ) → (ℕ → ℕ) → Place → Type 0
MayDiffer p q state standing (Header i) = (i ≡ 2) ⊎ (i ≡ 3)
MayDiffer p q state standing (Process a f) = ((f ≤ 1) × (state a ≡ state_running)) ⊎ (((2 ≤ f) × (f ≤ 3)) × (a ≡ p → ⊥) × (a ≡ q → ⊥))
MayDiffer p q state standing (Buffer b g) = (g ≤ 1) × ((standing b ≡ standing_queued) ⊎ (standing b ≡ standing_answered))
MayDiffer p q state standing (Semaphore s h) = ⊥

-- the tables t and u, in which p and q were cleaned, have every other word in common, also beyond the length used; nothing is queued at p and
-- q; and the queues of which words may differ have the same members
pub record SameWords (p q : ℕ) (t u : List ℕ) : Type 0 where
  pub long : length t ≡ length u
  pub places : (l : Place) → Has (P_of t) (B_of t) (S_of t) l
      → (MayDiffer p q (λ a. process_at t a 4) (λ b. buffer_at t b 4) l → ⊥) → word_at t l ≡ word_at u l
  pub beyond : drop (size (P_of t) (B_of t) (S_of t)) t ≡ drop (size (P_of t) (B_of t) (S_of t)) u
  pub emptied : (process_at t p 2 ≡ 0) × (process_at t p 3 ≡ 0) × (process_at t q 2 ≡ 0) × (process_at t q 3 ≡ 0)
  pub same_events : (a : ℕ) → Range (P_of t) a → (x : EventQueue t a) (y : EventQueue u a) → Reordered x.q y.q
  pub same_running : (x : RunningQueue t) (y : RunningQueue u) → Reordered x.q y.q
