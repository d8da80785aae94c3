-- A call keeps a legal machine legal. Assumes nothing.
use Prim.Native.Nat.{ℕ, zero, suc}
use mathlib.Core.List.{List, [], ◌∷◌}
use mathlib.Core.Path.{◌≡◌, refl}
use Rattle.machine.specs.Machine.{Machine}
use Rattle.machine.specs.Request.{Request, Send, WaitAnswer, WaitEvent, SendAnswer, WaitInterrupt, Start, Stop, Clean, Tick, Interrupt, ListOpen}
use Rattle.machine.specs.Request.{Lower, Raise}
use Rattle.machine.specs.Request.{Unknown}
use Rattle.machine.specs.Refusal.{refusal}
use Rattle.machine.specs.Step.{after, effect, judge, step}
use Rattle.machine.specs.Legal.{Legal}
use Rattle.laws.proofs.Calls.{send, wait_answer, wait_event, send_answer, wait_interrupt, start, halt, interrupt, lower, raise}
use Rattle.laws.proofs.Ticks.{tick}
use Rattle.laws.proofs.Cleans.{clean}

legal_effect : {m : Machine} → Legal m → (r : Request) → refusal m r ≡ 0 → Legal (effect m r).machine
unfolding effect
legal_effect L (Send a ws) e = send L a ws e
legal_effect L (WaitAnswer a) e = wait_answer L a e
legal_effect L (WaitEvent d) e = wait_event L d e
legal_effect L (SendAnswer a ws) e = send_answer L a ws e
legal_effect L (WaitInterrupt a d) e = wait_interrupt L a d e
legal_effect L (Start a) e = start L a e
legal_effect L (Stop a) e = halt L a e
legal_effect L (Clean a) e = clean L a e
legal_effect L Tick e = tick L
legal_effect L (Interrupt a) e = interrupt L a e
legal_effect L (ListOpen a room) e = L
legal_effect L (Lower a) e = lower L a e
legal_effect L (Raise a) e = raise L a e
legal_effect L Unknown e = L

pub legal_step : {m : Machine} → Legal m → (r : Request) → Legal (step m r).machine
unfolding step
legal_step {m} L r = go (refusal m r) refl
  where
    go : (n : ℕ) → refusal m r ≡ n → Legal (judge n (effect m r) m).machine
    go zero e = legal_effect L r e
    go (suc n) e = L

-- a run of requests
pub legal_after : {m : Machine} → Legal m → (l : List Request) → Legal (after m l)
unfolding after
legal_after L [] = L
legal_after {m = m} L (r ∷ l) = legal_after {m = (step m r).machine} (legal_step L r) l
