-- What the step of call 0B comes to, refusal by refusal. Assumes nothing.
use mathlib.Core.Bool.{true, false}
use mathlib.Core.List.{List}
use mathlib.Core.Path.{◌≡◌}
use Prim.Native.Nat.{ℕ, ◌*◌, ◌≤◌, ◌<◌}
use lib.ListN.{length}
use borrow.Author.Tests.{lt-ltb, le-ltb}
use Rattle.machine.specs.Machine.{Machine, zeros}
use Rattle.machine.specs.Words.{Shows}
use Rattle.machine.specs.Request.{ListOpen}
use Rattle.machine.specs.Refusal.{outside, shown, row_width, first, refusal}
use Rattle.machine.specs.Step.{Answer as Reply, accept, refused, refuse, rows, effect, step}
use Rattle.listing.specs.Rows.{ServesListing}

module _ (m : Machine) (a n : ℕ) where
  pub list_no_process : outside a m.P ≡ true → step m (ListOpen a n) ≡ refuse 4 m
  unfolding step refusal first
  list_no_process e = simp e

  module _ (e : outside a m.P ≡ false) where
    pub list_no_room : n < row_width * length (shown m a) → step m (ListOpen a n) ≡ refuse 10 m
    unfolding step refusal first
    list_no_room h = simp (e, lt-ltb n (row_width * length (shown m a)) h)

    pub list_done : row_width * length (shown m a) ≤ n → step m (ListOpen a n) ≡ accept (length (shown m a)) 0 zeros m (rows m (shown m a))
    unfolding step refusal first effect
    list_done h = simp (e, le-ltb n (row_width * length (shown m a)) h)

-- a refusal leaves room and words alone
pub refused_lists : {t s : List ℕ} {a : ℕ} {r : Reply} (n : ℕ) → r ≡ refused n
    → ((m : Machine) → Shows t m → step m (ListOpen a (length s)) ≡ refuse n m) → ServesListing t s s a r
refused_lists n e h = record { comes = λ m w L. rw (h m w) (record { answer = e; words = w }); room = λ m w L. rw (h m w) }
