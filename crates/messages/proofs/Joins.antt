-- Buffers that go into an event queue: what holds on the way there, and that a legal machine may do it. Assumes nothing.
use Prim.Native.Nat.{ℕ}
use native.Mathlib.Omega.{arith}
use mathlib.Core.Bool.{Bool, true}
use mathlib.Core.List.{List}
use mathlib.Core.Logic.{⊎_elim}
use mathlib.Core.Path.{◌≡◌, refl, sym, subst, ◌∙◌}
use borrow.Author.Tests.{eqb-true}
use Rattle.machine.specs.Queue.{if, without, Range, Out}
use Rattle.machine.specs.Machine.{Machine, put_buffer, state, owner, receiver, standing, Words}
use Rattle.machine.specs.Moves.{write, wake, unlink, answered, waiting, answer_with}
use Rattle.machine.specs.Legal.{Legal}
use Rattle.machine.specs.Words.{home, Shows}
use Rattle.lists.proofs.Links.{no_same, refl_same}
use Rattle.lists.proofs.Lists.{at_all, in_without}
use Rattle.laws.proofs.Decoded.{home_1, home_3}
use Rattle.laws.proofs.Calls.{asleep}
use Rattle.lists.proofs.Tests.{differ}
use Rattle.answers.specs.Promise.{arrival}
use Rattle.answers.proofs.Walks.{wake_if_arrives}
use Rattle.table.specs.Links.{position}
use Rattle.table.specs.Fits.{EventsFit, InNoQueue, MayAppend}
use Rattle.table.proofs.Home.{fits_other, fits_message}
use Rattle.table.proofs.LegalFits.{legal_events_fit, legal_in_no_queue, legal_wake}
use Rattle.messages.specs.Conversations.{MayWakeIf, MayJoin, MayReturn, MayAnswer, MaySend}

-- ---- what holds on the way
-- a message written leaves every queue fit
fits_write : (m : Machine) (b : ℕ) (ws : Words) {n p : ℕ} {q : List ℕ} → EventsFit n (home m.buffer) p q → EventsFit n (home (write b ws m).buffer) p q
fits_write m b ws f =
    let m₁ : Machine = put_buffer b 6 ws.w₀ m in
    let m₂ : Machine = put_buffer b 7 ws.w₁ m₁ in
    let m₃ : Machine = put_buffer b 8 ws.w₂ m₂ in
    fits_message m₃.buffer b 9 ws.w₃ (omega arith)
    (fits_message m₂.buffer b 8 ws.w₂ (omega arith)
    (fits_message m₁.buffer b 7 ws.w₁ (omega arith)
    (fits_message m.buffer b 6 ws.w₀ (omega arith) f)))

module _ (m : Machine) {p b : ℕ} (j : MayJoin p b m) where
  not_there : Out b (m.events p)
  not_there = j.buffer.out p j.process

  -- with an answer, b may go last in its owner's queue
  pub answer_appends : (ws : Words) → owner m b ≡ p → MayAppend p b (put_buffer b 4 3 (write b ws m))
  answer_appends ws e =
      record {
        process = j.process;
        fits = fits_other (write b ws m).buffer b 4 3 not_there (fits_write m b ws j.fits);
        buffer = j.buffer.is;
        at_home = home_3 (put_buffer b 4 3 (write b ws m)).buffer b (refl_same b 3 _) ∙ e;
        new = not_there;
      }

  -- with a message for p, b may go last in p's queue
  pub message_appends : (ws : Words) → MayAppend p b (write b ws (put_buffer b 4 1 (put_buffer b 3 p m)))
  message_appends ws =
      let received : Machine = put_buffer b 3 p m in
      let queued : Machine = put_buffer b 4 1 received in
      record {
        process = j.process;
        fits = fits_write queued b ws (fits_other received.buffer b 4 1 not_there (fits_other m.buffer b 3 p not_there j.fits));
        buffer = j.buffer.is;
        at_home = home_1 (write b ws queued).buffer b (refl_same b 1 _) ∙ refl_same b p _;
        new = not_there;
      }

  -- with its receiver, b is in no queue still
  pub received_in_no_queue : InNoQueue b (put_buffer b 3 p m)
  received_in_no_queue =
      record { is = j.buffer.is; out = j.buffer.out; owned = j.buffer.owned; received = rw (refl_same b p (receiver m b)) j.process.1 }

-- who waits for it does not run
waiting_sleeps : (b : ℕ) (m : Machine) → waiting b m ≡ true → state m (owner m b) ≡ 1 → ⊥
waiting_sleeps b m t e = differ (sym t ∙ rw e)

-- the owner and whether it waits, as they were read
module _ (m : Machine) (b : ℕ) {p : ℕ} (e : p ≡ owner m b) where
  pub read_returns : MayAnswer b m → MayReturn p b m
  read_returns a = rw e (a.joins, refl)

  module _ {waits : Bool} (k : waits ≡ waiting b m) where
    pub read_wakes : MayAnswer b m → MayWakeIf waits p m
    read_wakes a = rw (e, k) a.wakes

    pub read_answers : {u : List ℕ} (ws : Words) → Shows u (if waits (wake 1 p (answered b ws m)) (answered b ws m)) → Shows u (answer_with b ws m)
    read_answers {u} ws s =
        let given : Machine = answered b ws m in
        subst (λ (t : Bool). Shows u (if t (wake 1 (owner m b) given) given)) k (subst (λ (x : ℕ). Shows u (if waits (wake 1 x given) given)) e s)

    pub read_arrives : {r : ℕ} (ws : Words) → r ≡ if waits (position 1 p m) 0 → r ≡ arrival 1 (owner m b) m (answer_with b ws m)
    read_arrives ws h = h ∙ rw (e, k) (wake_if_arrives (waiting b m) (owner m b) m (answered b ws m).events (answered b ws m).buffer (waiting_sleeps b m))

-- ---- a legal machine may
module _ {m : Machine} (L : Legal m) {b : ℕ} (i : Range m.B b) where
  -- b held
  pub legal_may_answer : standing m b ≡ 2 → MayAnswer b m
  legal_may_answer s =
      let o = L.fixed.owned b i in
      record {
        joins = record { process = o; fits = legal_events_fit L (owner m b) o; buffer = legal_in_no_queue L b i (omega arith) (omega arith) };
        wakes = λ t. legal_wake L (owner m b) o (asleep L b t);
      }

  -- b queued at p, and taken out of its queue
  module _ {p : ℕ} (s : standing m b ≡ 1) (e : receiver m b ≡ p) where
    unlinked_out : (q : ℕ) → Range m.P q → Out b ((unlink p b m).events q)
    unlinked_out q r =
        at_all (Out b) m.events p (without b (m.events p)) q
        (λ k h. (in_without b b (m.events p) h).0 refl)
        (λ n h. ⊎_elim (λ k. n (sym k.1 ∙ e)) (λ k. omega (arith, k.0)) ((L.events q r).only b h).1)

    pub legal_may_answer_unlinked : MayAnswer b (unlink p b m)
    legal_may_answer_unlinked =
        let o = L.fixed.owned b i in
        let k = (L.buffer b i).taken (omega arith) in
        record {
          joins =
              record {
                process = o;
                fits = rw (no_same (owner m b) p (without b (m.events p)) (m.events (owner m b)) (λ h. k.1 (e ∙ sym h))) (legal_events_fit L (owner m b) o);
                buffer = record { is = i; out = unlinked_out; owned = o.1; received = k.0.1 };
              };
          wakes = λ t. legal_wake L (owner m b) o (asleep L b t);
        }

  -- b free
  pub legal_may_send : {a : ℕ} → Range m.P a → standing m b ≡ 0 → MaySend a b m
  legal_may_send {a} r s =
      record {
        joins = record { process = r; fits = legal_events_fit L a r; buffer = legal_in_no_queue L b i (omega arith) (omega arith) };
        wakes = λ t. legal_wake L a r (omega (arith, eqb-true (state m a) 2 t));
      }
