-- docs/MONITOR.md, 8, interrupts kept, of calls in a log with their answers. Assumes nothing: these are definitions.
use Rattle.std.specs.Prelude.{◌≡◌, List, [], ◌∷◌, ◌++◌, ℕ, get_or}
use Rattle.machine.specs.Numbers.{state_running, reason_none, kind_kept, call_wait_interrupt, call_interrupt}
use Rattle.machine.specs.Records.{header_first, process_state, process_reason}
use Rattle.machine.specs.Machine.{zeros}
use Rattle.machine.specs.Step.{Answer}
use Rattle.machine.specs.Sound.{device_at, process_at}
use Rattle.machine.specs.Log.{Call}

-- an accepted 0A of device d that found no waiter
pub record Unheard (d : ℕ) (c : Call) : Type 0 where
  pub number : c.number ≡ call_interrupt
  pub device : c.a ≡ d
  pub accepted : c.answer.number ≡ 0
  pub nobody : c.answer.kind ≡ 0

-- an accepted 05 for device d
pub record AwaitsInterrupt (d : ℕ) (c : Call) : Type 0 where
  pub number : c.number ≡ call_wait_interrupt
  pub device : c.a ≡ d
  pub accepted : c.answer.number ≡ 0

-- there is none among the calls, accepted and refused
abbrev pub Unawaited : ℕ → List Call → Type 0
Unawaited d [] = Unit {0}
Unawaited d (c ∷ l) = (AwaitsInterrupt d c → ⊥) × Unawaited d l

-- it "returns at once with kind 3": the caller, current before the call, is current afterwards
pub record AtOnce (caller : ℕ) (r : Answer) : Type 0 where
  pub kind : r.kind ≡ kind_kept
  pub buffer : r.buffer ≡ 0
  pub runs : r.current ≡ caller
  pub words : r.words ≡ zeros

-- ---- "exactly when"
-- the calls have an accepted 0A of device d without a waiter, and no accepted 05 for d since
pub record KeptSince (d : ℕ) (l : List Call) : Type 0 where
  pub before : List Call
  pub interrupt : Call
  pub after : List Call
  pub all : l ≡ before ++ (interrupt ∷ after)
  pub heard : Unheard d interrupt
  pub since : Unawaited d after

-- ---- as words
-- what a 05 for device d leaves that takes a kept interrupt: "clears it and returns at once with kind 3, the caller still running with reason 0"; the
-- caller is the first of the running queue, header word 2
pub record Takes (t u : List ℕ) (d : ℕ) (r : Answer) : Type 0 where
  pub at_once : AtOnce (get_or t header_first 0) r
  pub cleared : device_at u d ≡ 0
  pub runs : process_at u (get_or t header_first 0) process_state ≡ state_running
  pub no_reason : process_at u (get_or t header_first 0) process_reason ≡ reason_none
  pub first : get_or u header_first 0 ≡ get_or t header_first 0
