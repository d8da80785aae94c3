-- The check tells whether a table is sound. Assumes nothing.
use mathlib.Core.Path.{◌≡◌, refl, sym, ◌∙◌}
use mathlib.Core.Logic.{◌↔◌}
use mathlib.Core.List.{List}
use mathlib.Core.Bool.{Bool, true, false}
use Prim.Native.Nat.{ℕ, suc, ◌+◌, ◌-◌, ◌≤◌}
use native.Mathlib.Omega.{arith}
use native.Mathlib.Decide.{dec_le}
use Rattle.machine.specs.Queue.{Range}
use Rattle.machine.specs.Machine.{given}
use Rattle.machine.specs.Legal.{LegalName, Fixed}
use Rattle.machine.specs.Sound.{P_of, B_of, S_of, process_at, buffer_at, semaphore_at, Sound, RunningQueue, EventQueue, SemaphoreQueue}
use Rattle.laws.proofs.Laid.{tells_name}
use Rattle.laws.proofs.Own.{given_step, given_le, Among, one_owner, some_owner}
use Rattle.lists.proofs.Links.{cases}
use Rattle.lists.proofs.Tests.{differ}
use Rattle.lists.proofs.Tells.{Tells, eq, le, both, nay, every, said, all_holds, all_true}
use Rattle.lists.proofs.Counting.{count_most}
use Rattle.sound.specs.Processes.{process_legal}
use Rattle.sound.specs.Devices.{device, devices}
use Rattle.sound.specs.Records.{base_of, owns, queued_of, record_legal, records, events, checked}
use Rattle.sound.proofs.Choices.{chosen, both_then}
use Rattle.sound.proofs.QueuesTold.{Received, events_tell, runs_tell}
use Rattle.sound.proofs.SemaphoresTold.{semaphore_queues_tell}
use Rattle.sound.proofs.RecordsTold.{ProcessOf, BufferOf, DeviceOf, HeaderOf, words_tell, buffer_tells, device_tells, sized_tells}

module _ (w : List ℕ) where
  -- the buffers given to the processes before p
  abbrev before : ℕ → ℕ
  before p = given (owns w) (p - 1)

  abbrev SameName : ℕ → ℕ → Type 0
  SameName q p = (process_at w q 12 ≡ process_at w p 12) × ((process_at w q 13 ≡ process_at w p 13) × (process_at w q 14 ≡ process_at w p 14))

  -- a process with its own buffers
  record RecordOf (p : ℕ) : Type 0 where
    process : ProcessOf w p
    name : LegalName (process_at w p 12) (process_at w p 13) (process_at w p 14)
    none : owns w p ≡ 0 → process_at w p 10 ≡ 0
    first : (owns w p ≡ 0 → ⊥) → process_at w p 10 ≡ suc (before p)
    room : before p + owns w p ≤ B_of w
    new : (q : ℕ) → Range (p - 1) q → SameName q p → ⊥
    own : (j : ℕ) → Range (owns w p) j → BufferOf w p (before p + j)

  record_tells : (p : ℕ) → Tells (record_legal w (base_of w) (B_of w) p) (RecordOf p)
  unfolding record_legal process_legal
  record_tells p =
      said (both
      (both (words_tell w p)
      (both (tells_name _ _ _) (both (chosen (eq (owns w p) 0) (eq (process_at w p 10) 0) (eq (process_at w p 10) (before p + 1))) (le _ _))))
      (both
      (every _ (p - 1)
      (λ q. nay
      (both (eq (process_at w q 12) (process_at w p 12))
      (both (eq (process_at w q 13) (process_at w p 13)) (eq (process_at w q 14) (process_at w p 14))))))
      (every _ (owns w p) (λ j. buffer_tells w p (before p + j)))))
      (λ h. record {
        process = h.0.0;
        name = h.0.1.0;
        none = h.0.1.1.0.0;
        first = λ n. h.0.1.1.0.1 n ∙ omega arith;
        room = h.0.1.1.1;
        new = h.1.0;
        own = h.1.1;
      })
      (λ s. ((s.process, (s.name, ((s.none, λ n. s.first n ∙ omega arith), s.room))), (s.new, s.own)))

  record RecordsOf : Type 0 where
    each : (p : ℕ) → Range (P_of w) p → RecordOf p
    all : given (owns w) (P_of w) ≡ B_of w

  records_tell : Tells (records w) RecordsOf
  unfolding records
  records_tell = said (both (every _ (P_of w) record_tells) (eq _ _)) (λ h. record { each = h.0; all = h.1 }) (λ h. (h.each, h.all))

  -- a buffer by its number: it is one of its owner's
  module _ (R : RecordsOf) where
    owner_of : (b : ℕ) → Range (B_of w) b → (p : ℕ) × Range (P_of w) p × Among (owns w) b p
    owner_of b r = some_owner (owns w) b (P_of w) (rw R.all r)

    buffer_of : (b : ℕ) → (r : Range (B_of w) b) → BufferOf w (owner_of b r).0 b
    buffer_of b r =
        let u = owner_of b r in
        let g = given_step (owns w) u.0 u.1.0 in
        let e : before u.0 + (b - before u.0) ≡ b = omega (arith, u.2.low) in
        rw e at ((R.each u.0 u.1).own (b - before u.0) (omega (arith, u.2.low, u.2.high)))

    owned : (b : ℕ) → Range (B_of w) b → Range (P_of w) (buffer_at w b 2)
    owned b r = rw (buffer_of b r).owner (owner_of b r).1

    names_apart : (p q : ℕ) → Range (P_of w) p → Range (P_of w) q → SameName p q → p ≡ q
    names_apart p q r k e = cases p q (λ z. z) (λ n. absurd (go n (dec_le p q)))
      where
        go : (p ≡ q → ⊥) → Dec (p ≤ q) → ⊥
        go n (yes l) = (R.each q k).new p (omega arith) e
        go n (no l) = (R.each p r).new q (omega arith) (sym e.0, (sym e.1.0, sym e.1.1))

    fixed_of : HeaderOf w → Fixed (P_of w) (B_of w) (λ b. buffer_at w b 2) (λ p. process_at w p 9) (λ p. process_at w p 10)
        (λ p. process_at w p 11) (λ p. process_at w p 12) (λ p. process_at w p 13) (λ p. process_at w p 14)
    fixed_of H =
        record {
          some = H.some;
          P32 = H.few_processes;
          B128 = H.few_buffers;
          priorities = λ p r. (R.each p r).process.priority;
          names = λ p r. (R.each p r).name;
          apart = λ p q r k a b c. names_apart p q r k (a, (b, c));
          none = λ p r. (R.each p r).none;
          follow = λ p r. (R.each p r).first;
          all = R.all;
          owned = owned;
          agree = λ b r. (let u = (owner_of b r).2 in rw (buffer_of b r).owner (u.low, u.high));
        }

  -- ---- what the check asks, part by part, is what Sound asks
  record Parts : Type 0 where
    header : HeaderOf w
    devices : (d : ℕ) → Range 64 d → DeviceOf w d
    records : RecordsOf
    received : (b : ℕ) → Range (B_of w) b → Received w b
    events : (p : ℕ) → Range (P_of w) p → EventQueue w p
    running : RunningQueue w
    semaphore_queues : (s : ℕ) → Range (S_of w) s → (semaphore_at w s 3 ≡ 0) × SemaphoreQueue w s

  parts_sound : Parts → Sound w
  parts_sound s =
      let H = s.header in
      let R = s.records in
      let z = H.rest in
      record {
        long = H.long;
        header = record { editions = z.0; few = H.few_semaphores; zeros = (z.1.0, z.1.1) };
        semaphore_zero = λ i r. (s.semaphore_queues i r).0;
        fixed = fixed_of R H;
        process = λ p r. (R.each p r).process.state.legal;
        buffer = λ b r. (buffer_of R b r).standing.legal (s.received b r);
        running = s.running;
        off_running = λ p r. (R.each p r).process.state.off;
        semaphore_queues = λ i r. (s.semaphore_queues i r).1;
        events = s.events;
        off_events = λ b r. (buffer_of R b r).standing.off;
        idle = λ p r. (R.each p r).process.state.idle;
        awaits = λ p r. (R.each p r).process.waits.awaits;
        waits = λ p r. (R.each p r).process.waits.waits;
        lowers = λ p r. (R.each p r).process.lowers;
        keeps = λ d h. (let e : suc d - 1 ≡ d = omega arith in rw e at (s.devices (suc d) (omega arith)).keeps);
        waiters = λ d h. (let e : suc d - 1 ≡ d = omega arith in rw e at (s.devices (suc d) (omega arith)).waiter);
      }

  sound_records : Sound w → RecordsOf
  sound_records s = record { each = each; all = F.all }
    where
      F : Fixed (P_of w) (B_of w) (λ b. buffer_at w b 2) (λ p. process_at w p 9) (λ p. process_at w p 10) (λ p. process_at w p 11)
          (λ p. process_at w p 12) (λ p. process_at w p 13) (λ p. process_at w p 14)
      F = s.fixed

      own : (p : ℕ) → Range (P_of w) p → (j : ℕ) → Range (owns w p) j → BufferOf w p (before p + j)
      own p r j k =
          let g = given_step (owns w) p r.0 in
          let m = given_le (owns w) p (P_of w) r.1 in
          let i : Range (B_of w) (before p + j) = omega (arith, F.all) in
          let a = F.agree (before p + j) i in
          record {
            owner = one_owner (owns w) (before p + j) _ p (F.owned _ i).0 r.0 (record { low = a.0; high = a.1 })
                (record { low = omega arith; high = omega arith });
            standing = record { legal = λ q. s.buffer _ i; other = λ e. ((s.buffer _ i).taken (λ z. omega arith)).1; off = s.off_events _ i };
          }

      each : (p : ℕ) → Range (P_of w) p → RecordOf p
      each p r =
          let g = given_step (owns w) p r.0 in
          let m = given_le (owns w) p (P_of w) r.1 in
          record {
            process = record {
              priority = F.priorities p r;
              state = record { legal = s.process p r; off = s.off_running p r; idle = s.idle p r };
              waits = record { awaits = s.awaits p r; waits = s.waits p r };
              lowers = s.lowers p r;
            };
            name = F.names p r;
            none = F.none p r;
            first = F.follow p r;
            room = omega (arith, F.all);
            new = λ q k e. (let z : q ≡ p = F.apart q p (omega arith) r e.0 e.1.0 e.1.1 in omega arith);
            own = own p r;
          }

  sound_parts : Sound w → Parts
  sound_parts s =
      let F = s.fixed in
      let z = s.header.zeros in
      record {
        header = record {
          some = F.some;
          few_processes = F.P32;
          few_buffers = F.B128;
          few_semaphores = s.header.few;
          long = s.long;
          rest = (s.header.editions, (z.0, z.1));
        };
        devices = λ d r. (let e : suc (d - 1) ≡ d = omega arith in
            record { keeps = s.keeps (d - 1) (omega arith); waiter = rw e at (s.waiters (d - 1) (omega arith)) });
        records = sound_records s;
        received = λ b r e. ((s.buffer b r).taken (λ z. omega arith)).0;
        events = s.events;
        running = s.running;
        semaphore_queues = λ i r. (s.semaphore_zero i r, s.semaphore_queues i r);
      }

  -- ---- the check
  devices_tell : Tells (devices w) ((d : ℕ) → Range 64 d → DeviceOf w d)
  devices_tell =
      record {
        holds = λ t d r. (device_tells w d r.0).holds (all_holds (device w) 64 t d r.0 r.1);
        back = λ h. all_true (device w) 64 (λ d l u. (device_tells w d l).back (h d (l, u)));
      }

  queues_tell : HeaderOf w → RecordsOf → Tells (events w) (((b : ℕ) → Range (B_of w) b → Received w b) × ((p : ℕ) → Range (P_of w) p → EventQueue w p))
  unfolding events
  queues_tell H R = events_tell w (owned R) (let h : queued_of w (base_of w) (B_of w) ≤ B_of w = count_most _ (B_of w) in omega (arith, H.few_buffers))

  pub checked_tells : Tells (checked w) (Sound w)
  unfolding checked
  checked_tells =
      said (both_then (sized_tells w) (λ H. both devices_tell (both_then records_tell (λ R. both (queues_tell H R)
      (both (runs_tell w (λ p r. (R.each p r).process.priority.1)) (semaphore_queues_tell w H.few_processes (λ p r. (R.each p r).process.lowers)))))))
      (λ h. let k = h.1.1.1 in parts_sound (record {
        header = h.0;
        devices = h.1.0;
        records = h.1.1.0;
        received = k.0.0;
        events = k.0.1;
        running = k.1.0;
        semaphore_queues = k.1.1;
      }))
      (λ s. let p = sound_parts s in (p.header, (p.devices, (p.records, ((p.received, p.events), (p.running, p.semaphore_queues))))))

  -- sound or not
  pub decided : Dec (Sound w)
  decided = go (checked w) refl
    where
      go : (b : Bool) → checked w ≡ b → Dec (Sound w)
      go true e = yes (checked_tells.holds e)
      go false e = no (λ s. differ (sym (checked_tells.back s) ∙ e))

  pub says : (r : Bool) → r ≡ checked w → (r ≡ true) ↔ Sound w
  says r e = ((λ t. checked_tells.holds (sym e ∙ t)), (λ s. e ∙ checked_tells.back s))
