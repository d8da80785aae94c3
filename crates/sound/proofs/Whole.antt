-- The whole check from its parts, as the code goes. Assumes nothing.
use mathlib.Core.Path.{◌≡◌, refl, sym, ◌∙◌}
use mathlib.Core.List.{List}
use mathlib.Core.Bool.{Bool, true, false}
use Prim.Native.Nat.{ℕ, ◌+◌, ◌*◌, ◌≤◌}
use native.Mathlib.Omega.{arith}
use lib.ListN.{get_or}
use lib.Dec.{eqb}
use borrow.Author.Tests.{eq-eqb, ne_eqb}
use Rattle.machine.specs.Queue.{if}
use Rattle.machine.specs.Sound.{P_of, B_of}
use Rattle.lists.proofs.Counting.{count_most}
use Rattle.sound.specs.Devices.{devices}
use Rattle.sound.specs.Queues.{failed, sweep, event_queue, running, follow_running}
use Rattle.sound.specs.Records.{base_of, queued_of, sized, records, events, runs, checked, Lent}
use Rattle.sound.specs.Semaphores.{semaphore_queues, SizedTable}
use Rattle.sound.proofs.Found.{counted, failing}
use Rattle.sound.proofs.RecordsTold.{HeaderOf, sized_tells}

module _ (w : List ℕ) where
  pub sized_fails : sized w ≡ false → false ≡ checked w
  unfolding checked
  sized_fails e = rw e refl

  module _ (z : sized w ≡ true) where
    pub header : HeaderOf w
    header = (sized_tells w).holds z

    pub lent : (n k : ℕ) → n ≡ P_of w → k ≡ B_of w → Lent w n k
    lent n k e f =
        let h = header in
        record {
          processes_are = e;
          buffers_are = f;
          few_processes = omega (arith, h.few_processes);
          few_buffers = omega (arith, h.few_buffers);
          long = rw (e, f) (omega (arith, h.long));
        }

    pub lined : SizedTable w
    lined =
        let h = header in
        record { few_processes = h.few_processes; few_buffers = h.few_buffers; few_semaphores = h.few_semaphores; long = h.long }

    pub devices_fail : devices w ≡ false → false ≡ checked w
    unfolding checked
    devices_fail e = rw (z, e) refl

    -- `queued` from the records
    module _ (d : devices w ≡ true) (queued : ℕ) (is : queued ≡ if (records w) (queued_of w (base_of w) (B_of w)) failed) where
      few : queued_of w (base_of w) (B_of w) ≤ 128
      few = let h : queued_of w (base_of w) (B_of w) ≤ B_of w = count_most _ (B_of w) in omega (arith, header.few_buffers)

      pub records_fail : queued ≡ failed → false ≡ checked w
      unfolding checked
      records_fail e = rw (z, d, failing (records w) (queued_of w (base_of w) (B_of w)) queued is e (λ t k. omega (arith, few, k))) refl

      pub records_hold : (queued ≡ failed → ⊥) → (records w ≡ true) × ((queued ≡ queued_of w (base_of w) (B_of w)) × (queued ≤ 128))
      records_hold n = let h = counted (records w) (queued_of w (base_of w) (B_of w)) queued is n in (h.0, (h.1, omega (arith, few, h.1)))

      -- `left` from the event queues: how many processes run
      module _ (m : queued ≡ failed → ⊥) (n left : ℕ) (e : n ≡ P_of w)
          (f : left ≡ if (eqb (sweep (event_queue w (62 + 16 * n)) n queued) 0) (running w n) failed) where
        left_is : left ≡ if (events w) (running w (P_of w)) failed
        unfolding events
        left_is = rw (e, (records_hold m).1.0) at f

        pub events_fail : left ≡ failed → false ≡ checked w
        unfolding checked
        events_fail k = rw (z, d, (records_hold m).0, failing (events w) (running w (P_of w)) left left_is k (λ t g. few_run g)) refl
          where
            few_run : running w (P_of w) ≡ failed → ⊥
            few_run g = let h : running w (P_of w) ≤ P_of w = count_most _ (P_of w) in omega (arith, header.few_processes)

        -- `found` from the running queue
        module _ (k : left ≡ failed → ⊥) (found : ℕ) (h : found ≡ follow_running w left (get_or w 2 0) 0) where
          runs_is : eqb found 0 ≡ runs w
          unfolding runs
          runs_is = let g = counted (events w) (running w (P_of w)) left left_is k in rw h (rw g.1 refl)

          pub runs_fail : (found ≡ 0 → ⊥) → false ≡ checked w
          unfolding checked
          runs_fail i =
              let g = counted (events w) (running w (P_of w)) left left_is k in
              rw (z, d, (records_hold m).0, g.0, sym runs_is ∙ ne_eqb found 0 i) refl

          pub semaphore_queues_tell_all : found ≡ 0 → (r : Bool) → r ≡ semaphore_queues w → r ≡ checked w
          unfolding checked
          semaphore_queues_tell_all i r e =
              let g = counted (events w) (running w (P_of w)) left left_is k in
              rw (z, d, (records_hold m).0, g.0, sym runs_is ∙ eq-eqb found 0 i) e
