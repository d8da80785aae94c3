-- docs/MONITOR.md, 11: what one clean leaves alone: the header, the words beyond, and of devices and semaphores all but what the cleaned process waited for.
-- Assumes nothing.
use Prim.Native.Nat.{ℕ, suc, ◌≤◌}
use native.Mathlib.Omega.{arith}
use mathlib.Core.Bool.{Bool, true}
use mathlib.Core.List.{List}
use mathlib.Core.Path.{◌≡◌, refl, sym, ap, ◌∙◌}
use lib.Dec.{eqb}
use borrow.Author.Tests.{eqb-true}
use Rattle.machine.specs.Queue.{same, without, Range}
use Rattle.machine.specs.Machine.{Machine, state, semaphore, owner, receiver, standing, up, buffers}
use Rattle.machine.specs.Moves.{unlink, waiting, answer_with, withdrawn, clean_buffer}
use Rattle.machine.specs.Step.{halted, cleaned}
use Rattle.machine.specs.Legal.{Legal}
use Rattle.lists.proofs.Links.{no_same, cases}
use Rattle.lists.proofs.Tests.{either, differ}
use Rattle.lists.proofs.Numbers.{fold_keeps, in_from}
use Rattle.laws.proofs.Cleans.{Cleaning, clean_one, halted_cleaning}

-- ---- the buffers
-- what no buffer's clean changes, as m has it
record Calm (m : Machine) (header device counter : ℕ → ℕ) (waiters : ℕ → List ℕ) (beyond : List ℕ) : Type 0 where
  heads : header ≡ m.header
  devices : (d : ℕ) → device d ≡ m.device d
  counters : counter ≡ m.counter
  semaphore_queues : waiters ≡ m.waiters
  rest : beyond ≡ m.beyond

abbrev CalmOf : Machine → Machine → Type 0
CalmOf m n = Calm m n.header n.device n.counter n.waiters n.beyond

calm_same : (m : Machine) → CalmOf m m
calm_same m = record { heads = refl; devices = λ d. refl; counters = refl; semaphore_queues = refl; rest = refl }

module _ {n : Machine} (L : Legal n) {b : ℕ} (i : Range n.B b) where
  -- one that waits for an event or an answer waits for no device
  no_device : waiting b n ≡ true → n.process (owner n b) 8 ≡ 0
  no_device t = (L.process (owner n b) (L.fixed.owned b i)).no_device (λ e. differ (sym t ∙ rw e refl))

  answer_calm : (x : Machine) → CalmOf n x → x.process ≡ n.process → x.buffer ≡ n.buffer → CalmOf n (answer_with b withdrawn x)
  answer_calm x c e f =
      either (CalmOf n) (waiting b x)
      (λ t. (let k = no_device (rw (e, f) at t) in
      record {
        heads = c.heads;
        devices = λ d. no_same (suc d) (x.process (owner x b) 8) 0 (x.device d) (λ z. omega (arith, rw (e, f) at z)) ∙ c.devices d;
        counters = c.counters;
        semaphore_queues = c.semaphore_queues;
        rest = c.rest;
      }))
      (λ t. c)

  clean_calm : (p : ℕ) → CalmOf n (clean_buffer p b n)
  unfolding clean_buffer
  clean_calm p =
      let C : Machine → Type 0 = CalmOf n in
      let s : ℕ → Bool = eqb (standing n b) in
      let c = calm_same n in
      either C (eqb (owner n b) p)
      (λ _. either C (s 1) (λ _. c) (λ _. either C (s 3) (λ _. c) (λ _. either C (s 2) (λ _. c) (λ _. c))))
      (λ _. either C (eqb (receiver n b) p)
      (λ _. either C (s 1) (λ _. answer_calm (unlink p b n) c refl refl)
      (λ _. either C (s 2) (λ _. answer_calm n c refl refl) (λ _. either C (s 4) (λ _. c) (λ _. c))))
      (λ _. c))

calm_on : (m n k : Machine) → CalmOf m n → CalmOf n k → CalmOf m k
calm_on m n k a b =
    record {
      heads = b.heads ∙ a.heads;
      devices = λ d. b.devices d ∙ a.devices d;
      counters = b.counters ∙ a.counters;
      semaphore_queues = b.semaphore_queues ∙ a.semaphore_queues;
      rest = b.rest ∙ a.rest;
    }

-- ---- the process, and then the buffers
-- what p waited for: its device's word is 0, and it is off its semaphore
pub record Quiet (p : ℕ) (m n : Machine) : Type 0 where
  pub header : n.header ≡ m.header
  pub device : (d : ℕ) → n.device d ≡ same (suc d) (m.process p 8) 0 (m.device d)
  pub counter : (s : ℕ) → 1 ≤ s → n.counter s ≡ same s (semaphore m p) (up (m.counter s)) (m.counter s)
  pub waiters : (s : ℕ) → 1 ≤ s → n.waiters s ≡ same s (semaphore m p) (without p (m.waiters s)) (m.waiters s)
  pub beyond : n.beyond ≡ m.beyond

module _ {m : Machine} (L : Legal m) {p : ℕ} (i : Range m.P p) where
  -- what stands at h, at s
  moved_to : {A : Type 0} (f : A → A) (g : ℕ → A) (s h : ℕ) → same s h (f (g h)) (g s) ≡ same s h (f (g s)) (g s)
  moved_to f g s h = cases s h (λ e. rw e refl) (λ n. no_same s h _ _ n ∙ sym (no_same s h _ _ n))

  halted_quiet : Quiet p m (halted p m)
  halted_quiet =
      either (Quiet p m) (eqb (state m p) 0)
      (λ t. (let e = eqb-true (state m p) 0 t in
      let l = L.process p i in
      let z = l.no_semaphore (omega arith) in
      let w = l.no_device (omega arith) in
      record {
        header = refl;
        device = λ d. sym (no_same (suc d) (m.process p 8) 0 (m.device d) (omega arith));
        counter = λ s h. sym (no_same s (semaphore m p) _ _ (omega arith));
        waiters = λ s h. sym (no_same s (semaphore m p) _ _ (omega arith));
        beyond = refl;
      }))
      (λ t. record {
        header = refl;
        device = λ d. refl;
        counter = λ s h. moved_to up m.counter s (semaphore m p);
        waiters = λ s h. moved_to (without p) m.waiters s (semaphore m p);
        beyond = refl;
      })

  buffers_calm : CalmOf (halted p m) (cleaned p m)
  buffers_calm =
      (fold_keeps (λ n. Cleaning p m.B n × CalmOf (halted p m) n) (clean_buffer p) (buffers m)
      (λ b j n c. (let k = in_from b 1 m.B j in let r : Range n.B b = omega (arith, c.0.size) in
      (clean_one c.0 r, calm_on (halted p m) n (clean_buffer p b n) c.1 (clean_calm c.0.legal r p))))
      (halted p m) (halted_cleaning L i, calm_same (halted p m))).1

  pub quiet_one : Quiet p m (cleaned p m)
  quiet_one =
      let a = buffers_calm in
      let h = halted_quiet in
      record {
        header = a.heads ∙ h.header;
        device = λ d. a.devices d ∙ h.device d;
        counter = λ s k. ap (λ (f : ℕ → ℕ). f s) a.counters ∙ h.counter s k;
        waiters = λ s k. ap (λ (f : ℕ → List ℕ). f s) a.semaphore_queues ∙ h.waiters s k;
        beyond = a.rest ∙ h.beyond;
      }
