-- What a move asks of the machine it is made on. While a call is under way its machine need not be legal, so each move asks only what it needs,
-- of numbers, lists and functions: what holds then still holds by itself when another part of the machine changes. Assumes nothing: these are definitions.
use Rattle.std.specs.Prelude.{ℕ, ◌≤◌, ◌<◌, List, ◌∷◌, ◌↔◌, ◌≡◌}
use Rattle.machine.specs.Numbers.{device_count, most_counter}
use Rattle.machine.specs.Records.{process_width, process_state, process_semaphore, buffer_width, buffer_next, buffer_owner, buffer_message}
use Rattle.machine.specs.Queue.{Range, In, Out, Distinct, head}
use Rattle.machine.specs.Machine.{Machine, state, awaited_device, semaphore, semaphores, owner, receiver}
use Rattle.machine.specs.Legal.{Legal}
use Rattle.machine.specs.Words.{Buffer, index, home}

-- ---- words
abbrev pub Any : Machine → Type 0
Any m = Unit {0}

abbrev pub IsProcess : ℕ → Machine → Type 0
IsProcess p m = Range m.P p

abbrev pub IsDevice : ℕ → Machine → Type 0
IsDevice d m = d < device_count

-- a word of a process that is no link
abbrev pub ProcessWord : ℕ → ℕ → Machine → Type 0
ProcessWord p f m = Range m.P p × (process_state ≤ f) × (f < process_width)

-- and doesn't name the queue that it is in
abbrev pub PlainWord : ℕ → ℕ → Machine → Type 0
PlainWord p f m = Range m.P p × (process_state ≤ f) × (f < process_semaphore)

abbrev pub IsSemaphore : ℕ → Machine → Type 0
IsSemaphore s m = Range (semaphores m) s

-- a word of a buffer that is no link
abbrev pub BufferWord : ℕ → ℕ → Machine → Type 0
BufferWord b g m = Range m.B b × (buffer_owner ≤ g) × (g < buffer_width)

-- a word of the message in a buffer, whose record starts at index i
abbrev pub MessageWord : ℕ → ℕ → ℕ → Machine → Type 0
MessageWord b g i m = Range m.B b × (buffer_message ≤ g) × (g < buffer_width) × (i ≡ index m.P m.B (Buffer b buffer_next))

-- a buffer
abbrev pub IsBuffer : ℕ → Machine → Type 0
IsBuffer b m = Range m.B b

-- a buffer in no event queue, with the owner and receiver it has; they say where its home is, and would be in another standing
pub record OutOfQueues (P B : ℕ) (events : ℕ → List ℕ) (owner receiver b : ℕ) : Type 0 where
  pub is : Range B b
  pub out : (p : ℕ) → Range P p → Out b (events p)
  pub owned : owner ≤ P
  pub received : receiver ≤ P

abbrev pub InNoQueue : ℕ → Machine → Type 0
InNoQueue b m = OutOfQueues m.P m.B m.events (owner m b) (receiver m b) b

-- x is 0 or a process, to which a buffer in no queue may go
abbrev pub MayReceive : ℕ → ℕ → Machine → Type 0
MayReceive b x m = InNoQueue b m × (x ≤ m.P)

-- ---- queues
-- q has no number twice and no 0, and only numbers that may stand in it
pub record Fits (Member : ℕ → Type 0) (q : List ℕ) : Type 0 where
  pub once : Distinct (0 ∷ q)
  pub within : (x : ℕ) → In x q → Member x

-- a queue of processes: each names it, the running queue by 0, the others by their semaphore's number
abbrev pub ProcessesFit : ℕ → (ℕ → ℕ) → ℕ → List ℕ → Type 0
ProcessesFit P named s q = Fits (λ x. (x ≤ P) × (named x ≡ s)) q

abbrev pub RunningFits : ℕ → (ℕ → ℕ) → List ℕ → Type 0
RunningFits P named q = ProcessesFit P named 0 q

abbrev pub EventsFit : ℕ → (ℕ → ℕ) → ℕ → List ℕ → Type 0
EventsFit B home p q = Fits (λ x. (x ≤ B) × (home x ≡ p)) q

-- b, whose home is p and which isn't in p's event queue q, may go into it
pub record Appends (P B : ℕ) (home : ℕ → ℕ) (q : List ℕ) (p b : ℕ) : Type 0 where
  pub process : Range P p
  pub fits : EventsFit B home p q
  pub buffer : Range B b
  pub at_home : home b ≡ p
  pub new : Out b q

abbrev pub MayAppend : ℕ → ℕ → Machine → Type 0
MayAppend p b m = Appends m.P m.B (home m.buffer) (m.events p) p b

-- b is in p's event queue q
pub record Unlinks (P B : ℕ) (home : ℕ → ℕ) (q : List ℕ) (p b : ℕ) : Type 0 where
  pub process : Range P p
  pub fits : EventsFit B home p q
  pub stands : In b q

abbrev pub MayUnlink : ℕ → ℕ → Machine → Type 0
MayUnlink p b m = Unlinks m.P m.B (home m.buffer) (m.events p) p b

-- and its first
abbrev pub MayUnlinkFirst : ℕ → ℕ → Machine → Type 0
MayUnlinkFirst p b m = MayUnlink p b m × (b ≡ head (m.events p))

-- the running queue may be followed
abbrev pub MayWalk : Machine → Type 0
MayWalk m = RunningFits m.P (semaphore m) m.running

-- p isn't in the running queue q, and names no other
pub record Enters (P : ℕ) (named : ℕ → ℕ) (q : List ℕ) (p : ℕ) : Type 0 where
  pub process : Range P p
  pub fits : RunningFits P named q
  pub names : named p ≡ 0
  pub new : Out p q

abbrev pub MayEnter : ℕ → Machine → Type 0
MayEnter p m = Enters m.P (semaphore m) m.running p

-- p is in the running queue q
pub record Leaves (P : ℕ) (named : ℕ → ℕ) (q : List ℕ) (p : ℕ) : Type 0 where
  pub fits : RunningFits P named q
  pub stands : In p q

abbrev pub MayLeave : ℕ → Machine → Type 0
MayLeave p m = Leaves m.P (semaphore m) m.running p

-- p is its first
pub record Pauses (P : ℕ) (named : ℕ → ℕ) (q : List ℕ) (p : ℕ) : Type 0 where
  pub leaves : Leaves P named q p
  pub first : p ≡ head q

abbrev pub MayPause : ℕ → Machine → Type 0
MayPause p m = Pauses m.P (semaphore m) m.running p

-- p is 0 or in it
abbrev pub MayRequeue : ℕ → Machine → Type 0
MayRequeue p m = (p ≡ 0 → ⊥) → MayLeave p m

-- ---- semaphores
-- p is in no queue of processes
pub record OutOfProcessQueues (P S : ℕ) (running : List ℕ) (waiters : ℕ → List ℕ) (p : ℕ) : Type 0 where
  pub is : Range P p
  pub runs : Out p running
  pub semaphore_queues : (s : ℕ) → Range S s → Out p (waiters s)

abbrev pub InNoProcessQueue : ℕ → Machine → Type 0
InNoProcessQueue p m = OutOfProcessQueues m.P (semaphores m) m.running m.waiters p

-- x is 0 or a semaphore, which a process in no queue may name; it names one already or none
abbrev pub MayName : ℕ → ℕ → Machine → Type 0
MayName p x m = InNoProcessQueue p m × (semaphore m p ≤ semaphores m) × (x ≤ semaphores m)

-- p names semaphore s, and isn't in its queue q
pub record Lowers (P S : ℕ) (named : ℕ → ℕ) (q : List ℕ) (s p : ℕ) : Type 0 where
  pub semaphore : Range S s
  pub fits : ProcessesFit P named s q
  pub process : Range P p
  pub names : named p ≡ s
  pub new : Out p q

abbrev pub MayLower : ℕ → ℕ → Machine → Type 0
MayLower s p m = Lowers m.P (semaphores m) (semaphore m) (m.waiters s) s p

-- p is in the queue of semaphore s, in no other, and the counter may rise
pub record Rises (P S : ℕ) (named : ℕ → ℕ) (running : List ℕ) (waiters : ℕ → List ℕ) (counter s p : ℕ) : Type 0 where
  pub semaphore : Range S s
  pub fits : ProcessesFit P named s (waiters s)
  pub stands : In p (waiters s)
  pub names : named p ≡ s
  pub runs : Out p running
  pub others : (k : ℕ) → Range S k → (k ≡ s → ⊥) → Out p (waiters k)
  pub below : counter ≡ most_counter → ⊥

abbrev pub MayRise : ℕ → ℕ → Machine → Type 0
MayRise s p m = Rises m.P (semaphores m) (semaphore m) m.running m.waiters (m.counter s) s p

-- and it is the first of that queue
abbrev pub MayRiseFirst : ℕ → ℕ → Machine → Type 0
MayRiseFirst s p m = MayRise s p m × (p ≡ head (m.waiters s))

-- p is in no queue of processes, and the counter of s may rise
abbrev pub MayCountOut : ℕ → ℕ → Machine → Type 0
MayCountOut s p m = IsSemaphore s m × (m.counter s ≡ most_counter → ⊥) × MayName p 0 m

-- p waits for no semaphore, or is in the queue of the one it names
abbrev pub MayOffSemaphore : ℕ → Machine → Type 0
MayOffSemaphore p m = Range m.P p × ((semaphore m p ≡ 0 → ⊥) → MayRise (semaphore m p) p m)

-- ---- waits and wakes
-- word w of process p, the device it waits for plus 1, is 0 or names one
pub record EndsWait (P w p : ℕ) : Type 0 where
  pub process : Range P p
  pub device : w ≤ device_count

abbrev pub MayEndWait : ℕ → Machine → Type 0
MayEndWait p m = EndsWait m.P (awaited_device m p) p

-- its wait may end, and it isn't in the running queue q
pub record Wakes (P w : ℕ) (named : ℕ → ℕ) (q : List ℕ) (p : ℕ) : Type 0 where
  pub waits : EndsWait P w p
  pub enters : Enters P named q p

abbrev pub MayWake : ℕ → Machine → Type 0
MayWake p m = Wakes m.P (awaited_device m p) (semaphore m) m.running p

-- it is in the running queue q exactly in state 1
pub record Halts (P state : ℕ) (named : ℕ → ℕ) (q : List ℕ) (p : ℕ) : Type 0 where
  pub process : Range P p
  pub fits : RunningFits P named q
  pub runs : (state ≡ 1) ↔ In p q

abbrev pub MayHalt : ℕ → Machine → Type 0
MayHalt p m = Halts m.P (state m p) (semaphore m) m.running p

-- its wait may end, and it may leave the queue that it is in
pub record MayStop (p : ℕ) (m : Machine) : Type 0 where
  pub off : MayOffSemaphore p m
  pub waits : MayEndWait p m
  pub halts : MayHalt p m

-- ---- of a legal machine
-- b stands in the event queue of p
pub record MayTake (p b : ℕ) (m : Machine) : Type 0 where
  pub legal : Legal m
  pub process : Range m.P p
  pub stands : In b (m.events p)

-- and is its first
abbrev pub MayTakeFirst : ℕ → ℕ → Machine → Type 0
MayTakeFirst p b m = MayTake p b m × (b ≡ head (m.events p))
