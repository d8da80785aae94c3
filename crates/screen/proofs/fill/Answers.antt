-- `fill` meets its contract: the records are set one by one, up to the plan's count. Assumes nothing.
use mathlib.Core.Path.{◌≡◌, ap, ◌∙◌}
use mathlib.Core.List.{List}
use native.Mathlib.Omega.{arith}
use lib.ListN.{set}
use Rattle.std.proofs.Common.{Ok, Err}
use Rattle.std.proofs.lemmas.Result.{err_from_is_err_and}
use Rattle.screen.specs.declared.Summary.{Summary}
use Rattle.screen.specs.Screen.{filled}
use Rattle.screen.specs.Reading.{summary_at}
use Rattle.screen.proofs.Filling.{none_yet, one_more}
use Rattle.screen.proofs.Counted.{carried_out}
use Rattle.screen.proofs.TwoLoops.{buffers_part}
use Rattle.screen.proofs.fill.Goals as goal

pub returns-in_err-n : goal.returns-in_err-n
returns-in_err-n c =
    let p = err_from_is_err_and c.from_residual.result c.from_residual.ensures.1 in
    rw (p.1, p.2) (carried_out (Err c.in_err-n.field-0.0) c.in_err-n.ensures (none_yet (summary_at c.args.t.now) c.args.list.now))

pub loop-i-init : goal.loop-i-init
loop-i-init c = none_yet (summary_at c.args.t.now) c.args.list.now

pub summary_of-requires : goal.summary_of-requires
summary_of-requires c =
    let p = c.in_ok-n.ensures.each in (p.0, (omega (arith, p.1), buffers_part c.args.t.now _ (omega (arith, p.1))))

pub loop-i-preserved : goal.loop-i-preserved
loop-i-preserved c =
    ap (λ (l : List Summary). set l c.loop-i.i c.summary_of.result) c.loop-i.invariant
    ∙ one_more (summary_at c.args.t.now) c.loop-i.i c.args.list.now c.summary_of.result c.summary_of.ensures

pub returns : goal.returns
returns c =
    let e : c.loop-i.i ≡ c.in_ok-n.n = omega arith in
    carried_out (Ok c.in_ok-n.n) c.in_ok-n.ensures (c.loop-i.invariant ∙ ap (λ n. filled (summary_at c.args.t.now) n c.args.list.now) e)
