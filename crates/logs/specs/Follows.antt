-- A log and the machine that gave it: what demand 3 speaks of. Assumes nothing: these are definitions.
use Rattle.std.specs.Prelude.{◌≡◌, true, List, [], ◌∷◌, ℕ}
use Rattle.machine.specs.Machine.{Machine}
use Rattle.machine.specs.Step.{step}
use Rattle.machine.specs.Layout.{laid_over, layout_ok, setting_ok}
use Rattle.machine.specs.Log.{Call, Log, asked}

-- each call's answer is that of the step on the machine then
abbrev pub Follows : Machine → List Call → Type 0
Follows m [] = Unit {0}
Follows m (c ∷ l) = (c.answer ≡ (step m (asked c)).answer) × Follows (step m (asked c)).machine l

-- the machine after the calls
unfoldable pub end : Machine → List Call → Machine
end m [] = m
end m (c ∷ l) = end (step m (asked c)).machine l

-- the machine at the log's end, in that edition, with semaphores of these counters and with these words beyond
abbrev pub last : List ℕ → ℕ → List ℕ → Log → Machine
last beyond edition counters g = end (laid_over beyond edition counters g.list) g.calls

-- a log as calls on one table give it: its list is accepted by layout, in that edition and with those counters, and each answer follows
pub record Recorded (beyond : List ℕ) (edition : ℕ) (counters : List ℕ) (g : Log) : Type 0 where
  pub accepted : layout_ok g.list ≡ true
  pub setting : setting_ok edition counters ≡ true
  pub follows : Follows (laid_over beyond edition counters g.list) g.calls
