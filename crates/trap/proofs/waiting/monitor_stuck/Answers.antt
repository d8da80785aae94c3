-- `waiting::monitor_stuck` meets its contract: the report goes into its three words. Assumes nothing.
use mathlib.Core.Path.{ap}
use Prim.Native.Nat.{ℕ}
use lib.ListN.{set}
use Rattle.trap.proofs.Reported.{ring_word}
use Rattle.trap.proofs.waiting.monitor_stuck.Goals as goal

pub returns : goal.returns
returns c =
    let s = c.before.before.before in
    let r = s.stuck-chain.result in
    record {
      report = r;
      reports = s.stuck-chain.ensures;
      words = ap (λ (k : ℕ). set (set (set s.before.before.before.before.args.report.now 0 r.number) 1 r.count) 2 k) (ring_word r.ring);
    }
