-- `sound::sound` meets its contract: the parts of the check in turn, each where those before it held. Assumes nothing.
use mathlib.Core.Path.{refl}
use native.Mathlib.Omega.{arith}
use Rattle.sound.proofs.Found.{not_call_yes, not_call_no}
use Rattle.sound.proofs.CheckTold.{says}
use Rattle.sound.proofs.QueuesTold.{limit_none}
use Rattle.sound.proofs.Whole.{sized_fails, header, lent, devices_fail, records_fail, records_hold, events_fail}
use Rattle.sound.proofs.Whole.{lined, runs_fail, semaphore_queues_tell_all}
use Rattle.sound.proofs.sound.Goals as goal

pub returns-then-not-sized : goal.returns-then-not-sized
returns-then-not-sized c = says _ _ (sized_fails _ (not_call_yes c.sized.ensures c.if-not-sized.true-raw))

pub word-processes-requires : goal.word-processes-requires
word-processes-requires c = omega (arith, (header _ (not_call_no c.sized.ensures c.if-not-sized.false-raw)).long)

pub word-buffers-requires : goal.word-buffers-requires
word-buffers-requires c = omega (arith, (header _ (not_call_no c.sized.ensures c.if-not-sized.false-raw)).long)

pub devices-requires : goal.devices-requires
devices-requires c = omega (arith, (header _ (not_call_no c.sized.ensures c.if-not-sized.false-raw)).long)

pub returns-then-not-devices : goal.returns-then-not-devices
returns-then-not-devices c = says _ _ (devices_fail _ (not_call_no c.sized.ensures c.if-not-sized.false-raw)
    (not_call_yes c.devices.ensures c.if-not-devices.true-raw))

pub records-queued-requires : goal.records-queued-requires
records-queued-requires c =
    lent _ (not_call_no c.sized.ensures c.if-not-sized.false-raw) _ _ c.word-processes.ensures.0 c.word-buffers.ensures.0

pub returns-then-queued-eq-FAILED : goal.returns-then-queued-eq-FAILED
returns-then-queued-eq-FAILED c =
    says _ _ (records_fail _ (not_call_no c.sized.ensures c.if-not-sized.false-raw)
    (not_call_no c.devices.ensures c.if-not-devices.false-raw) _ c.records-queued.ensures c.if-queued-eq-FAILED.true)

pub events-running-requires : goal.events-running-requires
events-running-requires c =
    let z = not_call_no c.sized.ensures c.if-not-sized.false-raw in (
      lent _ z _ _ c.word-processes.ensures.0 refl,
      (records_hold _ z
          (not_call_no c.devices.ensures c.if-not-devices.false-raw) _ c.records-queued.ensures c.if-queued-eq-FAILED.false).1.1,
    )

pub returns-then-running-eq-FAILED : goal.returns-then-running-eq-FAILED
returns-then-running-eq-FAILED c =
    says _ _
    (events_fail _ (not_call_no c.sized.ensures c.if-not-sized.false-raw) (not_call_no c.devices.ensures c.if-not-devices.false-raw) _
    c.records-queued.ensures c.if-queued-eq-FAILED.false _ _ c.word-processes.ensures.0
    c.events-running.ensures c.if-running-eq-FAILED.true)

pub bounds-words-2 : goal.bounds-words-2
bounds-words-2 c =
    omega (arith, (header _ (not_call_no c.sized.ensures c.if-not-sized.false-raw)).long)

pub follow_running-requires : goal.follow_running-requires
follow_running-requires c =
    (omega (arith, (header _ (not_call_no c.sized.ensures c.if-not-sized.false-raw)).long), limit_none _)

pub returns-then-follow_running-ne0 : goal.returns-then-follow_running-ne0
returns-then-follow_running-ne0 c =
    says _ _
    (runs_fail _ (not_call_no c.sized.ensures c.if-not-sized.false-raw) (not_call_no c.devices.ensures c.if-not-devices.false-raw) _
    c.records-queued.ensures c.if-queued-eq-FAILED.false _ _ c.word-processes.ensures.0
    c.events-running.ensures c.if-running-eq-FAILED.false _ c.follow_running.ensures c.if-follow_running-ne0.true)

pub semaphore_queues-requires : goal.semaphore_queues-requires
semaphore_queues-requires c =
    lined _ (not_call_no c.sized.ensures c.if-not-sized.false-raw)

pub returns : goal.returns
returns c =
    says _ _
    (semaphore_queues_tell_all _ (not_call_no c.sized.ensures c.if-not-sized.false-raw) (not_call_no c.devices.ensures c.if-not-devices.false-raw) _
    c.records-queued.ensures c.if-queued-eq-FAILED.false _ _ c.word-processes.ensures.0
    c.events-running.ensures c.if-running-eq-FAILED.false _ c.follow_running.ensures
    c.if-follow_running-ne0.false _ c.semaphore_queues.ensures)
