-- docs/MONITOR.md, 9, read off a log: who waits at a semaphore, and what its LOWERs and RAISEs come to. No machine is looked at here. Assumes nothing:
-- these are definitions.
use Rattle.std.specs.Prelude.{◌≡◌, Bool, ◌&&◌, List, [], ◌∷◌, ◌++◌, ℕ, ◌+◌, ◌-◌, eqb, length, get_or}
use Rattle.machine.specs.Numbers.{state_waits_semaphore, call_stop, call_clean, call_lower, call_raise}
use Rattle.machine.specs.Records.{process_next, process_previous, process_state, process_semaphore, semaphore_counter, semaphore_first, semaphore_last}
use Rattle.machine.specs.Queue.{if, without, Range, IsQueue}
use Rattle.machine.specs.Machine.{below_zero}
use Rattle.machine.specs.Request.{Request, Send, WaitAnswer, WaitEvent, SendAnswer, WaitInterrupt, Start, Stop, Clean, Tick, Interrupt, ListOpen}
use Rattle.machine.specs.Request.{Lower, Raise, Unknown}
use Rattle.machine.specs.Refusal.{among}
use Rattle.machine.specs.Sound.{P_of, process_at, semaphore_at}
use Rattle.machine.specs.Log.{Call, Log, asked}
use Rattle.lists.specs.Counts.{bit}

-- ---- what it says of one semaphore
-- how many LOWERs it lets by before one waits, and who waits, the longest waiter first
pub record Waiters : Type 0 where
  pub spare : ℕ
  pub waiters : List ℕ

abbrev pub waiters_of : ℕ → List ℕ → Waiters
waiters_of spare waiters = record { spare = spare; waiters = waiters }

-- LOWER by p: one less to spare, or p waits, last
abbrev pub lowered : ℕ → Waiters → Waiters
lowered p t = if (eqb t.spare 0) (waiters_of 0 (t.waiters ++ (p ∷ []))) (waiters_of (t.spare - 1) t.waiters)

-- RAISE: one more to spare, or the longest waiter waits no more
abbrev pub raised_by : ℕ → List ℕ → Waiters
raised_by spare [] = waiters_of (spare + 1) []
raised_by spare (p ∷ q) = waiters_of spare q

abbrev pub raised : Waiters → Waiters
raised t = raised_by t.spare t.waiters

-- p waits no more, if it did
abbrev pub dropped : ℕ → Waiters → Waiters
dropped p t = waiters_of t.spare (without p t.waiters)

-- what an accepted call of process `caller` does to semaphore s
unfoldable pub waiters_move : ℕ → ℕ → Waiters → Request → Waiters
waiters_move s caller t (Lower a) = if (eqb a s) (lowered caller t) t
waiters_move s caller t (Raise a) = if (eqb a s) (raised t) t
-- "Stopping or cleaning a waiter takes it from the queue"
waiters_move s caller t (Stop p) = dropped p t
waiters_move s caller t (Clean p) = dropped p t
-- nothing else moves it
waiters_move s caller t (Send a ws) = t
waiters_move s caller t (WaitAnswer a) = t
waiters_move s caller t (WaitEvent d) = t
waiters_move s caller t (SendAnswer a ws) = t
waiters_move s caller t (WaitInterrupt a d) = t
waiters_move s caller t (Start a) = t
waiters_move s caller t Tick = t
waiters_move s caller t (Interrupt a) = t
waiters_move s caller t (ListOpen a room) = t
waiters_move s caller t Unknown = t

-- "Only accepted calls count": a call's part in it, and who is current behind the call
abbrev pub count_waiters : ℕ → ℕ → Waiters → Call → Waiters
count_waiters s caller t c = if (eqb c.answer.number 0) (waiters_move s caller t (asked c)) t

abbrev pub current_by : ℕ → Call → ℕ
current_by caller c = if (eqb c.answer.number 0) c.answer.current caller

unfoldable pub read_waiters : ℕ → ℕ → Waiters → List Call → Waiters
read_waiters s caller t [] = t
read_waiters s caller t (c ∷ l) = read_waiters s (current_by caller c) (count_waiters s caller t c) l

-- the counter that semaphore s has at layout
abbrev pub first_of : List ℕ → ℕ → ℕ
first_of counters s = get_or (0 ∷ counters) s 0

-- what the log leaves of semaphore s; nobody waits, and nobody is current, at layout
abbrev pub waiters_left : List ℕ → Log → ℕ → Waiters
waiters_left counters g s = read_waiters s 0 (waiters_of (first_of counters s) []) g.calls

-- ---- how often
-- an accepted call k on semaphore s
abbrev pub is_on : ℕ → ℕ → Call → Bool
is_on k s c = eqb c.answer.number 0 && (eqb c.number k && eqb c.a s)

unfoldable pub times : ℕ → ℕ → List Call → ℕ
times k s [] = 0
times k s (c ∷ l) = bit (is_on k s c) + times k s l

-- the accepted LOWERs, and the accepted RAISEs
abbrev pub lowers_in : ℕ → List Call → ℕ
lowers_in s l = times call_lower s l

abbrev pub raises_in : ℕ → List Call → ℕ
raises_in s l = times call_raise s l

-- an accepted 07 or 08 of one that waits there
abbrev pub takes_away : Waiters → Call → Bool
takes_away t c = eqb c.answer.number 0 && (among c.number (call_stop ∷ call_clean ∷ []) && among c.a t.waiters)

-- "the waiters stopped or cleaned"
unfoldable pub taken_in : ℕ → ℕ → Waiters → List Call → ℕ
taken_in s caller t [] = 0
taken_in s caller t (c ∷ l) = bit (takes_away t c) + taken_in s (current_by caller c) (count_waiters s caller t c) l

abbrev pub taken_away : List ℕ → Log → ℕ → ℕ
taken_away counters g s = taken_in s 0 (waiters_of (first_of counters s) []) g.calls

-- ---- the words
-- how much a counter's word is above the signed number that it stands for
abbrev pub excess : ℕ → ℕ
excess c = if (below_zero c) 65536 0

-- the words u have the semaphore s so: its queue, and its counter, which is what it has to spare less those who wait
pub record SemaphoreStands (u : List ℕ) (s : ℕ) (t : Waiters) : Type 0 where
  pub queue : IsQueue (λ p. process_at u p process_next) (λ p. process_at u p process_previous) (λ p. Range (P_of u) p
      × (process_at u p process_state ≡ state_waits_semaphore) × (process_at u p process_semaphore ≡ s))
      (semaphore_at u s semaphore_first) (semaphore_at u s semaphore_last) t.waiters
  pub counter : semaphore_at u s semaphore_counter + length t.waiters ≡ t.spare + excess (semaphore_at u s semaphore_counter)

-- "no LOWER is lost": the counter "is its first value, plus the accepted RAISEs and the waiters stopped or cleaned, minus the accepted LOWERs"
pub record NoneLost (counters : List ℕ) (g : Log) (s counter : ℕ) : Type 0 where
  pub balance : counter + lowers_in s g.calls ≡ first_of counters s + raises_in s g.calls + taken_away counters g s + excess counter
