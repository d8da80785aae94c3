-- `trap::monitor_layout` meets its contract: a layout's answer is known by its number. Assumes nothing.
use mathlib.Core.Path.{◌≡◌, subst}
use mathlib.Core.List.{List}
use Prim.Native.Nat.{ℕ}
use Rattle.machine.specs.Step.{Answer, refused}
use Rattle.monitor.specs.Promise.{LaidOut}
use Rattle.trap.proofs.monitor_layout.Goals as goal

-- the answer of a layout has a number, and zeros
by_its_number : {ws counters t u : List ℕ} {edition : ℕ} {r : Answer} → LaidOut ws edition counters t u r
    → LaidOut ws edition counters t u (refused r.number)
by_its_number {ws} {counters} {t} {u} {edition} {r} laid =
    let e : r ≡ refused r.number = cc laid.answer in
    subst (LaidOut ws edition counters t u) e laid

pub returns : goal.returns
returns c = by_its_number c.before.before.layout.ensures
