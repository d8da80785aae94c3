-- `process_word` meets its contract: a word that isn't 0 is one of the entry's, or the first own buffer. Assumes nothing.
use Prim.Native.Nat.{ℕ, ◌-◌, ◌*◌}
use native.Mathlib.Nat.{add-zero}
use mathlib.Core.Path.{◌≡◌}
use Rattle.machine.specs.Layout.{Entry, entry, entries}
use Rattle.laws.proofs.Fives.{entry_from}
use Rattle.layout.proofs.Given.{field_at}
use Rattle.layout.proofs.words.process_word.Goals as goal
use Rattle.layout.proofs.words.process_word.Goals.{Start}

field : (s : Start) (f : Entry → ℕ) → f (entry_from s.args.list.now (5 * (s.args.p - 1))) ≡ f (entry (entries s.args.list.now) s.args.p)
field s f = field_at s.requires.0 f s.args.p s.requires.1

pub returns-in-9 : goal.returns-in-9
returns-in-9 c = rw (c.in-9.is, add-zero) (field (goal.at.returns-in-9 c).Start (λ e. e.priority))

pub returns-in-11 : goal.returns-in-11
returns-in-11 c = rw c.in-11.is (field (goal.at.returns-in-11 c).Start (λ e. e.owns))

pub returns-in-12 : goal.returns-in-12
returns-in-12 c = rw c.in-12.is (field (goal.at.returns-in-12 c).Start (λ e. e.name₀))

pub returns-in-13 : goal.returns-in-13
returns-in-13 c = rw c.in-13.is (field (goal.at.returns-in-13 c).Start (λ e. e.name₁))

pub returns-in-14 : goal.returns-in-14
returns-in-14 c = rw c.in-14.is (field (goal.at.returns-in-14 c).Start (λ e. e.name₂))
