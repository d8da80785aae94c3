-- `wait` meets its contract: without limit, and with one. Assumes nothing.
use mathlib.Core.Path.{sym, ap, ◌∙◌}
use native.Mathlib.Omega.{arith}
use Rattle.delays.specs.Words.{entered}
use Rattle.delays.proofs.Reading.{unless_passed, same_gone, waited_none, waited_some}
use Rattle.delays.proofs.wait.Goals as goal

pub put_in-requires : goal.put_in-requires
put_in-requires c =
    let p = c.in_ok-admitted.ensures.passes in
    let s = same_gone c.args.t.now c.args.p p.0 in
    rw c.take_out.ensures (s.size, omega (arith, s.processes, p.1))

pub returns-then-delay-ne0 : goal.returns-then-delay-ne0
returns-then-delay-ne0 c =
    let n = c.in_ok-admitted.ensures.number in
    record {
      number = n;
      words = c.put_in.ensures ∙ ap (entered _ _) c.take_out.ensures ∙ waited_some _ _ c.if-delay-ne0.true ∙ unless_passed _ _ _ (sym n);
    }

pub returns-else-delay-ne0 : goal.returns-else-delay-ne0
returns-else-delay-ne0 c =
    let n = c.in_ok-admitted.ensures.number in
    record { number = n; words = c.take_out.ensures ∙ waited_none _ _ c.if-delay-ne0.false ∙ unless_passed _ _ _ (sym n) }
