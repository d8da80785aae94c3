-- `parity::treated` meets its contract. Assumes nothing.
use mathlib.Core.Logic.{inl, inr}
use Rattle.tape.specs.Parity.{treated}
use Rattle.tape.proofs.parity.treated.Goals as goal

pub returns-in-Binary : goal.returns-in-Binary
unfolding treated
returns-in-Binary c = rw c.in-Binary.is

pub returns-in-Odd : goal.returns-in-Odd
unfolding treated
returns-in-Odd c =
    let h = c.checked.ensures _ c.unwanted.ensures in
    elim c.in-Odd.is [ inl e ↦ rw e (rw e at h) | inr e ↦ rw e (rw e at h) ]
