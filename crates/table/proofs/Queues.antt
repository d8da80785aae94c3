-- The event queue of a process, the running queue and the queue of a semaphore: what may be linked in them, by what a move asks. Assumes nothing.
use Prim.Native.Nat.{ℕ, zero, suc, ◌≤◌}
use native.Mathlib.Omega.{arith}
use mathlib.Core.List.{List, [], ◌∷◌, ◌++◌}
use mathlib.Core.Path.{◌≡◌, refl, sym, subst, ◌∙◌}
use Rattle.machine.specs.Queue.{at, same, Range, Out, next, without}
use Rattle.machine.specs.Machine.{Machine, with_semaphore, put_running}
use Rattle.machine.specs.Words.{Shows}
use Rattle.machine.specs.Moves.{append, unlink, off_semaphore}
use Rattle.lists.proofs.Links.{cases, yes_same, no_same, last_is, out_in}
use Rattle.lists.proofs.Lists.{at_all, in_without, without_once}
use Rattle.table.specs.Fits.{RunningFits, MayAppend, MayUnlink, MayUnlinkFirst, Enters, MayEnter, Leaves}
use Rattle.table.specs.Fits.{MayLeave, MayPause, MayName, MayLower, MayRise, MayRiseFirst, MayCountOut, MayHalt}
use Rattle.table.specs.Links.{Queue, Processes, Events, queue_of, neighbours, MayLink, MayInsert, MayAdd, MayRemove, MayRemoveBehind, Puts, add, remove}
use Rattle.table.specs.Links.{waits_last}
use Rattle.table.proofs.Neighbours.{previous_first, without_out, next_last, puts_in, puts_last}

-- ---- last in any queue
module _ (m : Machine) (w : Queue) {x : ℕ} (may : MayAdd w x m) where
  pub add_reads : MayLink w 1 0 m
  add_reads = record { low = omega arith; linkable = (may.there, λ l. absurd (omega arith)) }

  module _ {a : ℕ} (e : a ≡ neighbours m w 1 0) where
    pub add_puts : Puts x 0 a (queue_of m w) (queue_of m w ++ (x ∷ []))
    add_puts = rw (e ∙ last_is 0 (queue_of m w) may.fits.once.0) (puts_last x 0 (queue_of m w))

    pub add_inserts : MayInsert w a 0 x m
    add_inserts =
        record {
          there = may.there;
          fits = may.fits;
          is = may.is;
          member = may.member;
          new = may.new;
          behind = puts_in add_puts;
          follows = sym (rw (e ∙ last_is 0 (queue_of m w) may.fits.once.0) (next_last 0 (queue_of m w) may.fits.once));
        }

-- ---- event queues: there is no process 0
module _ (m : Machine) where
  pub append_adds : (p b : ℕ) → MayAppend p b m → MayAdd (Events p) b m
  append_adds zero b may = absurd (omega (arith, may.process.0))
  append_adds (suc p) b may =
      record {
        there = may.process;
        fits = record { once = may.fits.once; within = may.fits.within };
        is = may.buffer.0;
        member = (may.buffer.1, may.at_home);
        new = may.new;
      }

  pub unlink_removes : (p b : ℕ) → MayUnlink p b m → MayRemove (Events p) b m
  unlink_removes zero b may = absurd (omega (arith, may.process.0))
  unlink_removes (suc p) b may = record { there = may.process; fits = record { once = may.fits.once; within = may.fits.within }; stands = may.stands }

  pub unlink_first_removes : (p b : ℕ) → MayUnlinkFirst p b m → MayRemoveBehind (Events p) 0 b m
  unlink_first_removes zero b may = absurd (omega (arith, may.0.process.0))
  unlink_first_removes (suc p) b may = (unlink_removes (suc p) b may.0, previous_first b (m.events (suc p)) may.0.stands may.1)

pub append_shown : {t : List ℕ} (m : Machine) (p b : ℕ) → Range m.P p → Shows t (add (Events p) b m) → Shows t (append p b m)
append_shown m zero b r s = absurd (omega arith)
append_shown m (suc p) b r s = s

pub unlink_shown : {t : List ℕ} (m : Machine) (p b : ℕ) → Range m.P p → Shows t (remove (Events p) b m) → Shows t (unlink p b m)
unlink_shown m zero b r s = absurd (omega arith)
unlink_shown m (suc p) b r s = s

-- ---- the running queue
module _ (m : Machine) {p : ℕ} where
  pub enter_inserts : {a b : ℕ} {r : List ℕ} → MayEnter p m → Puts p 0 a m.running r → b ≡ next m.running a → MayInsert (Processes 0) a b p m
  enter_inserts may puts follows =
      record {
        there = omega arith;
        fits = record { once = may.fits.once; within = may.fits.within };
        is = may.process.0;
        member = (may.process.1, may.names);
        new = may.new;
        behind = puts_in puts;
        follows = follows;
      }

  pub leave_removes : MayLeave p m → MayRemove (Processes 0) p m
  leave_removes may = record { there = omega arith; fits = record { once = may.fits.once; within = may.fits.within }; stands = may.stands }

  pub pause_removes : MayPause p m → MayRemoveBehind (Processes 0) 0 p m
  pause_removes may = (leave_removes may.leaves, previous_first p m.running may.leaves.stands may.first)

pub leaves_process : {P p : ℕ} {named : ℕ → ℕ} {q : List ℕ} → Leaves P named q p → Range P p
leaves_process {p = p} {q = q} may = let n = out_in 0 p q may.fits.once.0 may.stands in (omega arith, (may.fits.within p may.stands).0)

-- and where it has left, it may enter again
pub leaves_enters : {P p : ℕ} {named : ℕ → ℕ} {q : List ℕ} → Leaves P named q p → Enters P named (without p q) p
leaves_enters {p = p} {q = q} may =
    record {
      process = leaves_process may;
      fits = record {
        once = (λ i. may.fits.once.0 (in_without p 0 q i).1, without_once p q may.fits.once.1);
        within = λ x i. may.fits.within x (in_without p x q i).1;
      };
      names = (may.fits.within p may.stands).1;
      new = λ i. (in_without p p q i).0 refl;
    }

-- p leaves the running queue where it isn't in it
pub leave_none : {t : List ℕ} (m : Machine) (p : ℕ) → Out p m.running → Shows t m → Shows t (put_running (without p m.running) m)
leave_none {t} m p o = subst (λ (q : List ℕ). Shows t (put_running q m)) (sym (without_out p m.running o))

-- who runs names no semaphore, also when p names none any more
pub fits_unnamed : {P : ℕ} (named : ℕ → ℕ) (p : ℕ) {q : List ℕ} → RunningFits P named q → RunningFits P (λ x. same x p 0 (named x)) q
fits_unnamed named p fits =
    record {
      once = fits.once;
      within = λ x i. (let w = fits.within x i in (w.0, cases x p (λ e. yes_same x p 0 (named x) e) (λ n. no_same x p 0 (named x) n ∙ w.1)));
    }

pub off_halts : (m : Machine) (p : ℕ) → MayHalt p m → MayHalt p (off_semaphore p m)
off_halts m p may = record { process = may.process; fits = fits_unnamed (λ x. m.process x 15) p may.fits; runs = may.runs }

-- ---- the queue of a semaphore: there is no semaphore 0
module _ (m : Machine) where
  pub lower_adds : (s p : ℕ) → MayLower s p m → MayAdd (Processes s) p m
  lower_adds zero p may = absurd (omega (arith, may.semaphore.0))
  lower_adds (suc s) p may =
      record {
        there = may.semaphore.1;
        fits = record { once = may.fits.once; within = may.fits.within };
        is = may.process.0;
        member = (may.process.1, may.names);
        new = may.new;
      }

  pub rise_removes : (s p : ℕ) → MayRise s p m → MayRemove (Processes s) p m
  rise_removes zero p may = absurd (omega (arith, may.semaphore.0))
  rise_removes (suc s) p may = record { there = may.semaphore.1; fits = record { once = may.fits.once; within = may.fits.within }; stands = may.stands }

  pub rise_first_removes : (s p : ℕ) → MayRiseFirst s p m → MayRemoveBehind (Processes s) 0 p m
  rise_first_removes zero p may = absurd (omega (arith, may.0.semaphore.0))
  rise_first_removes (suc s) p may = (rise_removes (suc s) p may.0, previous_first p (m.waiters (suc s)) may.0.stands may.1)

pub lower_shown : {t : List ℕ} (m : Machine) (s p : ℕ) → 1 ≤ s → Shows t (add (Processes s) p m) → Shows t (waits_last s p m)
lower_shown m zero p r s = absurd (omega arith)
lower_shown m (suc k) p r s = s

-- out of it
abbrev pub out_of_waiters : ℕ → ℕ → Machine → Machine
out_of_waiters s p m = with_semaphore m.counter (at m.waiters s (without p (m.waiters s))) m

pub rise_shown : {t : List ℕ} (m : Machine) (s p : ℕ) → 1 ≤ s → Shows t (remove (Processes s) p m) → Shows t (out_of_waiters s p m)
rise_shown m zero p r s = absurd (omega arith)
rise_shown m (suc k) p r s = s

-- out of it p is in no queue of processes, and may name none
rise_named : (m : Machine) (s p : ℕ) → MayRise s p m → MayName p 0 (out_of_waiters s p m)
rise_named m s p may =
    let some = out_in 0 p (m.waiters s) may.fits.once.0 may.stands in (
      record {
        is = (omega arith, (may.fits.within p may.stands).0);
        runs = may.runs;
        semaphore_queues = λ k j. at_all (Out p) m.waiters s _ k (λ e i. (in_without p p (m.waiters s) i).0 refl) (λ n. may.others k j n);
      },
      omega (arith, may.names, may.semaphore.1),
      omega arith,
    )

pub rise_counts : (m : Machine) (s p : ℕ) → MayRise s p m → MayCountOut s p (out_of_waiters s p m)
rise_counts m s p may = (may.semaphore, may.below, rise_named m s p may)
