-- The words beyond the used length play no part: a machine makes the same steps whatever they are. Assumes nothing.
use mathlib.Core.Bool.{Bool, true, false}
use mathlib.Core.List.{List, [], ◌∷◌}
use mathlib.Core.Path.{◌≡◌, refl, ap, ap₂, ◌∙◌}
use Prim.Native.Nat.{ℕ, zero, suc}
use lib.Dec.{eqb}
use Rattle.machine.specs.Queue.{if, head, next, previous, fold}
use Rattle.machine.specs.Machine.{Machine, state, owner, receiver, standing, edition, kept, waiter, below_zero, down, current, Words, processes, buffers}
use Rattle.machine.specs.Moves.{wake, requeue, unlink, waiting, answer_with, withdrawn, clean_buffer}
use Rattle.machine.specs.Request.{Request, Send, WaitAnswer, WaitEvent, SendAnswer, WaitInterrupt, Start, Stop, Clean, Tick, Interrupt, ListOpen}
use Rattle.machine.specs.Request.{Lower, Raise, Unknown}
use Rattle.machine.specs.Refusal.{refusal, shown}
use Rattle.machine.specs.Step.{Outcome, accept, cleaned, fall, expiring, woken, grow, grown, row, rows, effect, judge, step}
use Rattle.machine.specs.Legal.{Legal}
use Rattle.machine.specs.Words.{Place, Header, Process, Buffer, Semaphore, queue, process_queue, links, home, word, process_word, buffer_word, semaphore_word}

-- the same machine, with these words beyond
abbrev pub with_beyond : List ℕ → Machine → Machine
with_beyond r m =
    record {
      P = m.P;
      B = m.B;
      header = m.header;
      running = m.running;
      events = m.events;
      process = m.process;
      buffer = m.buffer;
      device = m.device;
      counter = m.counter;
      waiters = m.waiters;
      beyond = r;
    }

pub legal_beyond : {m : Machine} (r : List ℕ) → Legal m → Legal (with_beyond r m)
legal_beyond r L =
    record {
      fixed = L.fixed;
      header = L.header;
      process = L.process;
      buffer = L.buffer;
      running = L.running;
      falls = L.falls;
      events = L.events;
      idle = L.idle;
      awaits = L.awaits;
      waits = L.waits;
      lowers = L.lowers;
      semaphore_queues = L.semaphore_queues;
      counters = L.counters;
      keeps = L.keeps;
      waiters = L.waiters;
    }

module _ (r : List ℕ) where
  -- ---- its words
  queue_beyond : (m : Machine) (p : ℕ) → queue (with_beyond r m) p ≡ queue m p
  queue_beyond m zero = refl
  queue_beyond m (suc p) = refl

  process_queue_beyond : (m : Machine) (s : ℕ) → process_queue (with_beyond r m) s ≡ process_queue m s
  process_queue_beyond m zero = refl
  process_queue_beyond m (suc s) = refl

  pub word_beyond : (m : Machine) (l : Place) → word (with_beyond r m) (links (with_beyond r m)) l ≡ word m (links m) l
  word_beyond m (Header i) = refl
  word_beyond m (Process p f) =
      ap₂ (λ (l q : List ℕ). process_word (next l p) (previous l p) (next q 0) (previous q 0) (m.process p) f) (process_queue_beyond m (m.process p 15))
      (queue_beyond m p)
  word_beyond m (Buffer b g) =
      ap (λ (q : List ℕ). buffer_word (next q b) (previous q b) (m.buffer b) g) (queue_beyond m (home m.buffer b))
  word_beyond m (Semaphore s h) = ap (λ (q : List ℕ). semaphore_word (m.counter s) (next q 0) (previous q 0) h) (process_queue_beyond m s)

  -- ---- its moves
  -- x' is x, with these words beyond
  pub record Over (x' x : Machine) : Type 0 where
    pub is : x' ≡ with_beyond r x

  plainly : {x : Machine} → Over (with_beyond r x) x
  plainly = record { is = refl }

  by_test : (t : Bool) {x y x' y' : Machine} → Over x' x → Over y' y → Over (if t x' y') (if t x y)
  by_test true e f = e
  by_test false e f = f

  by_fold : (f : ℕ → Machine → Machine) → ((x : ℕ) (m : Machine) → Over (f x (with_beyond r m)) (f x m)) → (l : List ℕ) {m' m : Machine}
      → Over m' m → Over (fold f l m') (fold f l m)
  unfolding fold
  by_fold f h [] e = e
  by_fold f h (x ∷ l) {m'} {m} e = by_fold f h l (record { is = ap (f x) e.is ∙ (h x m).is })

  answer_beyond : (b : ℕ) (ws : Words) (m : Machine) → Over (answer_with b ws (with_beyond r m)) (answer_with b ws m)
  answer_beyond b ws m = by_test (waiting b m) plainly plainly

  clean_beyond : (p b : ℕ) (m : Machine) → Over (clean_buffer p b (with_beyond r m)) (clean_buffer p b m)
  unfolding clean_buffer
  clean_beyond p b m =
      let s : ℕ → Bool = eqb (standing m b) in
      by_test (eqb (owner m b) p)
      (by_test (s 1) plainly (by_test (s 3) plainly (by_test (s 2) plainly plainly)))
      (by_test (eqb (receiver m b) p)
      (by_test (s 1) (answer_beyond b withdrawn (unlink p b m)) (by_test (s 2) (answer_beyond b withdrawn m) (by_test (s 4) plainly plainly)))
      plainly)

  cleaned_beyond : (p : ℕ) (m : Machine) → Over (cleaned p (with_beyond r m)) (cleaned p m)
  cleaned_beyond p m = by_fold (clean_buffer p) (clean_beyond p) (buffers m) (by_test (eqb (state m p) 0) plainly plainly)

  woken_beyond : (m : Machine) → Over (woken (with_beyond r m)) (woken m)
  woken_beyond m = by_fold (wake 2) (λ p n. plainly) (expiring m) (by_fold fall (λ p n. plainly) (processes m) plainly)

  requeue_beyond : (p : ℕ) {m' m : Machine} → Over m' m → Over (requeue p m') (requeue p m)
  requeue_beyond p {m'} {m} e = record { is = ap (requeue p) e.is ∙ (by_test (eqb p 0) {x = m} plainly plainly).is }

  grown_beyond : {m' m : Machine} → Over m' m → Over (grown m') (grown m)
  grown_beyond {m = m} e = record { is = ap grown e.is ∙ (by_fold grow (λ b n. plainly) (buffers m) {m = m} plainly).is }

  -- ---- its calls
  -- o' is o, with these words beyond
  pub record Alike (o' o : Outcome) : Type 0 where
    pub machine : Over o'.machine o.machine
    pub answer : o'.answer ≡ o.answer
    pub listing : o'.listing ≡ o.listing

  either_way : (t : Bool) {x y x' y' : Outcome} → Alike x' x → Alike y' y → Alike (if t x' y') (if t x y)
  either_way true e f = e
  either_way false e f = f

  accepted : (kind b : ℕ) (ws : Words) (l : List ℕ) {m' m : Machine} → Over m' m → Alike (accept kind b ws m' l) (accept kind b ws m l)
  accepted kind b ws l e = record { machine = e; answer = ap (λ (n : Machine). (accept kind b ws n l).answer) e.is; listing = refl }

  rows_beyond : (m : Machine) (l : List ℕ) → rows (with_beyond r m) l ≡ rows m l
  unfolding rows
  rows_beyond m [] = refl
  rows_beyond m (b ∷ l) = ap (row m b) (rows_beyond m l)

  effect_beyond : (m : Machine) (q : Request) → Alike (effect (with_beyond r m) q) (effect m q)
  unfolding effect
  effect_beyond m (Send a ws) = accepted _ _ _ _ (by_test (eqb (state m a) 2) plainly plainly)
  effect_beyond m (WaitAnswer a) = either_way (eqb (standing m a) 3) (accepted _ _ _ _ plainly) (accepted _ _ _ _ plainly)
  effect_beyond m (WaitEvent d) =
      let b : ℕ = head (m.events (current m)) in
      either_way (eqb b 0) (accepted _ _ _ _ plainly) (either_way (eqb (standing m b) 1) (accepted _ _ _ _ plainly) (accepted _ _ _ _ plainly))
  effect_beyond m (SendAnswer a ws) = accepted _ _ _ _ (by_test (eqb (standing m a) 2) (answer_beyond a ws m) plainly)
  effect_beyond m (WaitInterrupt a d) = either_way (eqb (m.device a) kept) (accepted _ _ _ _ plainly) (accepted _ _ _ _ plainly)
  effect_beyond m (Start a) = accepted _ _ _ _ plainly
  effect_beyond m (Stop a) = accepted _ _ _ _ plainly
  effect_beyond m (Clean a) = accepted _ _ _ _ (cleaned_beyond a m)
  effect_beyond m Tick = accepted _ _ _ _ (grown_beyond (requeue_beyond (current m) (woken_beyond m)))
  effect_beyond m (Interrupt a) =
      either_way (eqb (waiter m a) 0) (accepted _ _ _ _ (by_test (eqb (edition m) 1) plainly plainly)) (accepted _ _ _ _ plainly)
  effect_beyond m (ListOpen a room) = record { machine = plainly; answer = refl; listing = rows_beyond m (shown m a) }
  effect_beyond m (Lower a) = accepted _ _ _ _ (by_test (below_zero (down (m.counter a))) plainly plainly)
  effect_beyond m (Raise a) = accepted _ _ _ _ (by_test (below_zero (m.counter a)) plainly plainly)
  effect_beyond m Unknown = record { machine = plainly; answer = refl; listing = refl }

  refusal_beyond : (m : Machine) (q : Request) → refusal (with_beyond r m) q ≡ refusal m q
  unfolding refusal
  refusal_beyond m (Send a ws) = refl
  refusal_beyond m (WaitAnswer a) = refl
  refusal_beyond m (WaitEvent d) = refl
  refusal_beyond m (SendAnswer a ws) = refl
  refusal_beyond m (WaitInterrupt a d) = refl
  refusal_beyond m (Start a) = refl
  refusal_beyond m (Stop a) = refl
  refusal_beyond m (Clean a) = refl
  refusal_beyond m Tick = refl
  refusal_beyond m (Interrupt a) = refl
  refusal_beyond m (ListOpen a room) = refl
  refusal_beyond m (Lower a) = refl
  refusal_beyond m (Raise a) = refl
  refusal_beyond m Unknown = refl

  -- a step answers and lists the same, and leads to the same machine over those words
  pub step_beyond : (m : Machine) (q : Request) → Alike (step (with_beyond r m) q) (step m q)
  unfolding step
  step_beyond m q = rw (refusal_beyond m q) (go (refusal m q))
    where
      go : (k : ℕ) → Alike (judge k (effect (with_beyond r m) q) (with_beyond r m)) (judge k (effect m q) m)
      go zero = effect_beyond m q
      go (suc k) = record { machine = plainly; answer = refl; listing = refl }
