-- docs/MONITOR.md, 13: the records that a call's entries to the running queue pass. Assumes nothing: these are definitions.
use Rattle.std.specs.Prelude.{Bool, not, ◌&&◌, ℕ, ◌+◌, max, eqb}
use Rattle.machine.specs.Numbers.{state_running, reason_none, reason_event, reason_delay, reason_interrupt, reason_raise}
use Rattle.machine.specs.Queue.{if, head, passed, fold}
use Rattle.machine.specs.Machine.{Machine, state, priority, owner, waiter, current, below_zero, buffers}
use Rattle.machine.specs.Moves.{bar, leave_running, wake, clean_buffer}
use Rattle.machine.specs.Request.{Request, Send, WaitAnswer, WaitEvent, SendAnswer, WaitInterrupt, Start, Stop, Clean, Tick, Interrupt, ListOpen}
use Rattle.machine.specs.Request.{Lower, Raise, Unknown}
use Rattle.machine.specs.Refusal.{refusal}
use Rattle.machine.specs.Step.{effect, halted, fallen, expiring, woken}

-- "a separate answer": how many processes entered by a wake or a start, the records that they passed together, the most that
-- one passed, and those passed by the move of (iii)
pub record Walk : Type 0 where
  pub entries : ℕ
  pub passed : ℕ
  pub most : ℕ
  pub moved : ℕ

abbrev pub nowhere : Walk
nowhere = record { entries = 0; passed = 0; most = 0; moved = 0 }

-- one entry more, which passed n
abbrev pub further : ℕ → Walk → Walk
further n w = record { entries = w.entries + 1; passed = w.passed + n; most = max w.most n; moved = w.moved }

-- the records that p passes on entering m's running queue
abbrev pub passing : ℕ → ℕ → Machine → ℕ
passing reason p m = passed (priority m) (bar reason p m) m.running

-- p entered between m and n: it runs now, and didn't before
abbrev pub entered : ℕ → Machine → Machine → Bool
entered p m n = not (eqb (state m p) state_running) && eqb (state n p) state_running

-- what came to pass between m and n, where p may have entered
abbrev pub walked : ℕ → ℕ → Machine → Machine → Walk → Walk
walked reason p m n w = if (entered p m n) (further (passing reason p m) w) w

-- ---- the walk through a call
pub record WalkSoFar : Type 0 where
  pub machine : Machine
  pub walk : Walk

abbrev pub begin : Machine → WalkSoFar
begin m = record { machine = m; walk = nowhere }

-- f for x, by which `who` may enter
abbrev pub walk_on : ℕ → (ℕ → Machine → ℕ) → (ℕ → Machine → Machine) → ℕ → WalkSoFar → WalkSoFar
walk_on reason who f x s =
    record { machine = f x s.machine; walk = walked reason (who x s.machine) s.machine (f x s.machine) s.walk }

-- the wakes of a tick, and the answers of a clean
abbrev pub waking : Machine → WalkSoFar
waking m = fold (walk_on reason_delay (λ p n. p) (wake reason_delay)) (expiring m) (begin (fallen m))

abbrev pub cleaning : ℕ → Machine → WalkSoFar
cleaning p m = fold (walk_on reason_event (λ b n. owner n b) (clean_buffer p)) (buffers m) (begin (halted p m))

-- the move of a tick: the process has left before
abbrev pub moving : Machine → ℕ
moving m = if (eqb (current m) 0) 0 (passing reason_none (current m) (leave_running (current m) (woken m)))

-- ---- what each accepted request passes
unfoldable pub effort : Machine → Request → Walk
effort m (Send a ws) = walked reason_event a m (effect m (Send a ws)).machine nowhere
effort m (SendAnswer a ws) = walked reason_event (owner m a) m (effect m (SendAnswer a ws)).machine nowhere
effort m (Start a) = walked reason_none a m (effect m (Start a)).machine nowhere
effort m (Clean a) = (cleaning a m).walk
effort m Tick = (let w : Walk = (waking m).walk in record { entries = w.entries; passed = w.passed; most = w.most; moved = moving m })
effort m (Interrupt a) = if (eqb (waiter m a) 0) nowhere (walked reason_interrupt (waiter m a) m (effect m (Interrupt a)).machine nowhere)
effort m (Raise a) = if (below_zero (m.counter a)) (walked reason_raise (head (m.waiters a)) m (effect m (Raise a)).machine nowhere) nowhere
-- nobody enters
effort m (WaitAnswer a) = nowhere
effort m (WaitEvent d) = nowhere
effort m (WaitInterrupt a d) = nowhere
effort m (Stop a) = nowhere
effort m (ListOpen a room) = nowhere
effort m (Lower a) = nowhere
effort m Unknown = nowhere

-- and each request
unfoldable pub walk : Machine → Request → Walk
walk m r = if (eqb (refusal m r) 0) (effort m r) nowhere
