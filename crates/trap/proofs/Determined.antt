-- The promises of the C entries determine everything: any two results that they allow are equal. Assumes nothing.
use mathlib.Core.Path.{◌≡◌, sym, ap, ◌∙◌}
use mathlib.Core.List.{List}
use Prim.Native.Nat.{ℕ}
use Rattle.machine.specs.Step.{Answer, refused}
use Rattle.monitor.specs.Promise.{LaidOut}
use Rattle.monitor.proofs.Determined.{called_determines, laid_out_determines}
use Rattle.trap.specs.declared.Registers.{Registers}
use Rattle.trap.specs.Trapped.{answer, answered, Trapped}

-- the same answer, the same registers
same_registers : {t u s v u' v' : List ℕ} {before after after' : Registers} → Trapped t u s v before after → Trapped t u' s v' before after' →
    answer after ≡ answer after' → after ≡ after'
same_registers {before = before} one other same = one.stays ∙ ap (answered before) same ∙ sym other.stays

-- registers, table and room
pub trapped_determines : {t u s v u' v' : List ℕ} {before after after' : Registers} → Trapped t u s v before after → Trapped t u' s v' before after'
    → (after ≡ after') × (u ≡ u') × (v ≡ v')
trapped_determines one other = let d = called_determines one.called other.called in (same_registers one other d.0, d.1, d.2)

-- number and table
pub layout_determines : {list counters t u u' : List ℕ} {edition n n' : ℕ} → LaidOut list edition counters t u (refused n)
    → LaidOut list edition counters t u' (refused n') → (n ≡ n') × (u ≡ u')
layout_determines one other = let d = laid_out_determines one other in (ap (λ (x : Answer). x.number) d.0, d.1)
