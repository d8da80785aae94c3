-- `waits::holder` meets its contract: on a sound table the buffer that a process in state 3 waits for has a receiver. Assumes nothing.
use mathlib.Core.Path.{◌≡◌, ap, ◌∙◌}
use Prim.Native.Nat.{ℕ}
use Rattle.machine.specs.Sound.{buffer_at}
use Rattle.stuck.specs.Waiting.{of_table}
use Rattle.stuck.proofs.Fits.{sound_fits, awaits_buffer}
use Rattle.stuck.proofs.waits.holder.Goals as goal

pub receiver-requires : goal.receiver-requires
receiver-requires c =
    let p = c.before.before.requires in
    (p.0, rw c.awaited.ensures (awaits_buffer p.0 _ p.1.0 p.1.1))

pub returns : goal.returns
returns c =
    let s = c.before.before.before in
    let e : c.receiver.result ≡ (of_table s.args.t.now).holder s.args.p = c.receiver.ensures
    ∙ ap (λ (b : ℕ). buffer_at s.args.t.now b 3) c.before.awaited.ensures in
    (e, rw e ((sound_fits s.requires.0).among _ s.requires.1.0 s.requires.1.1))
