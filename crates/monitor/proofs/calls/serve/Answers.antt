-- `calls::serve` meets its contract: each number's call is served by its function, and no other number is a call's. Assumes nothing.
use native.Mathlib.Omega.{arith}
use mathlib.Core.Path.{refl}
use Rattle.machine.specs.Request.{request}
use Rattle.machine.specs.Walk.{effort}
use Rattle.answers.proofs.Served.{asks}
use Rattle.answers.proofs.Walks.{told_still}
use Rattle.monitor.proofs.CallEnds.{unknown_answers}
use Rattle.monitor.proofs.calls.serve.Goals as goal

pub returns-in-1 : goal.returns-in-1
unfolding request
returns-in-1 c = asks 1 c.in-1.is (λ room. c.send.ensures)

pub returns-in-2 : goal.returns-in-2
unfolding request effort
returns-in-2 c = asks 2 c.in-2.is (λ room. told_still (λ m. refl) c.wait_answer.ensures c.quiet.ensures)

pub returns-in-3 : goal.returns-in-3
unfolding request effort
returns-in-3 c = asks 3 c.in-3.is (λ room. told_still (λ m. refl) c.wait_event.ensures c.quiet-in-3.ensures)

pub returns-in-4 : goal.returns-in-4
unfolding request
returns-in-4 c = asks 4 c.in-4.is (λ room. c.send_answer.ensures)

pub returns-in-5 : goal.returns-in-5
unfolding request effort
returns-in-5 c = asks 5 c.in-5.is (λ room. told_still (λ m. refl) c.wait_interrupt.ensures c.quiet-in-5.ensures)

pub returns-in-6 : goal.returns-in-6
unfolding request
returns-in-6 c = asks 6 c.in-6.is (λ room. c.start.ensures)

pub returns-in-7 : goal.returns-in-7
unfolding request effort
returns-in-7 c = asks 7 c.in-7.is (λ room. told_still (λ m. refl) c.stop.ensures c.quiet-in-7.ensures)

pub returns-in-8 : goal.returns-in-8
unfolding request
returns-in-8 c = asks 8 c.in-8.is (λ room. c.clean.ensures)

pub returns-in-9 : goal.returns-in-9
unfolding request
returns-in-9 c = asks 9 c.in-9.is (λ room. c.tick.ensures)

pub returns-in-10 : goal.returns-in-10
unfolding request
returns-in-10 c = asks 10 c.in-10.is (λ room. c.interrupt.ensures)

pub returns-in-12 : goal.returns-in-12
unfolding request effort
returns-in-12 c = asks 12 c.in-12.is (λ room. told_still (λ m. refl) c.lower.ensures c.quiet-in-12.ensures)

pub returns-in-13 : goal.returns-in-13
unfolding request
returns-in-13 c = asks 13 c.in-13.is (λ room. c.raise.ensures)

pub returns-in_default : goal.returns-in_default
returns-in_default c = unknown_answers (λ r. omega arith)
