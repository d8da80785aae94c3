-- Any two results that `monitor_trap_walked` may leave are the same; and it changes the registers as `monitor_trap` does. Assumes nothing.
use mathlib.Core.Path.{◌≡◌, sym, ap, ◌∙◌}
use mathlib.Core.List.{List}
use Prim.Native.Nat.{ℕ}
use Rattle.monitor.proofs.Determined.{called_walked_determines}
use Rattle.trap.specs.Trapped.{answered, registers, Trapped}
use Rattle.walks.specs.TrappedWalked.{walk, TrappedWalked}

-- table, room, the fifteen words and the walk's four
pub trapped_walked_determines : {t u s v u' v' before after w after' w' : List ℕ} → TrappedWalked t u s v before after w
    → TrappedWalked t u' s v' before after' w' →
    (u ≡ u') × (v ≡ v') × (registers after ≡ registers after') × (walk w ≡ walk w')
trapped_walked_determines {before = before} one other =
    let same = called_walked_determines one.called other.called in
    (same.1, same.2, one.stays ∙ ap (answered (registers before)) same.0 ∙ sym other.stays, same.3)

-- the registers are changed as `monitor_trap` changes them
pub walked_traps : {t u s v before after w : List ℕ} → TrappedWalked t u s v before after w → Trapped t u s v (registers before) (registers after)
walked_traps c = record { stays = c.stays; called = c.called.called }
