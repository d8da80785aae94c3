-- docs/MONITOR.md, 13, the worst cases: the machines on which a tick and a clean walk furthest, by computation. Assumes nothing: these are definitions.
use Rattle.std.specs.Prelude.{◌≡◌, refl, List, [], ◌∷◌, map, ℕ, ◌*◌}
use Rattle.machine.specs.Queue.{same, without, enter, passed, from, keep, fold}
use Rattle.machine.specs.Machine.{Machine, zeros, given}
use Rattle.machine.specs.Moves.{clean_buffer}
use Rattle.machine.specs.Request.{Request, Start, Send, WaitAnswer, WaitEvent, Clean, Tick}
use Rattle.machine.specs.Refusal.{first, refusal}
use Rattle.machine.specs.Step.{effect, step, after}
use Rattle.machine.specs.Walk.{effort, walk}
use Rattle.machine.specs.Layout.{Entry, laid_over, laid, sum, owner_of}
use Rattle.machine.specs.WorkedOrder.{far}

-- 32 processes of one priority, each with a buffer and a name of one byte
unfoldable pub alike : List Entry
alike = map (λ (p : ℕ). record { priority = 1; owns = 1; name₀ = p * 256; name₁ = 0; name₂ = 0 }) (from 1 32)

-- each is started and waits for an event, with delay 1
unfoldable pub to_sleep : List Request
to_sleep = fold (λ (p : ℕ) (l : List Request). Start p ∷ WaitEvent 1 ∷ l) (from 1 32) []

abbrev pub asleep : Machine
asleep = after (laid 0 [] alike) to_sleep

-- the tick wakes all 32, and each passes those that woke before it: 0 + 1 + .. + 31
pub worst_tick : walk asleep Tick ≡ far 32 496 31 0
unfolding alike to_sleep walk effort passed laid_over step without enter from keep fold first refusal effect sum same given owner_of after
worst_tick = refl

-- 31 of them ask the last, and wait for its answer
unfoldable pub to_ask : List Request
to_ask = fold (λ (p : ℕ) (l : List Request). Start p ∷ Send 32 zeros ∷ WaitAnswer p ∷ l) (from 1 31) []

abbrev pub asking : Machine
asking = after (laid 0 [] alike) to_ask

-- cleaning it wakes all 31: 0 + 1 + .. + 30
pub worst_clean : walk asking (Clean 32) ≡ far 31 465 30 0
unfolding alike to_ask walk effort passed laid_over step without enter from keep fold first refusal effect sum same given owner_of after clean_buffer
worst_clean = refl
