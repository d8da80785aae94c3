-- `digits::put_zeros` meets its contract: i zeros are put in, and one more. Assumes nothing.
use lib.ListN.{length-set}
use Rattle.lines.proofs.Stores.{zeros_put}
use Rattle.lines.proofs.digits.put_zeros.Goals as goal

pub loop-i-preserved : goal.loop-i-preserved
loop-i-preserved c = let l = c.before in (simp length-set l.loop-i.invariant.0, zeros_put l.loop-i.i l.loop-i.invariant.1)
