-- What a call gave, and what it tells where the code asks for it. Assumes nothing.
use mathlib.Core.Path.{◌≡◌, refl, sym, ap, ◌∙◌}
use mathlib.Core.Bool.{Bool, true, false, not}
use Prim.Native.Nat.{ℕ, ◌+◌, ◌-◌, ◌≤◌}
use native.Mathlib.Omega.{arith}
use lib.ListN.{length}
use Rattle.machine.specs.Queue.{Range, keep, from}
use Rattle.machine.specs.Machine.{given}
use Rattle.lists.specs.Counts.{all}
use Rattle.lists.proofs.Counting.{all_more, given_more}
use Rattle.lists.proofs.Numbers.{count_yes, keep_no}
use Rattle.why.specs.Fault.{lowest}
use Rattle.why.proofs.Faults.{lowest_more}
use Rattle.why.specs.QueueParts.{among}
use Rattle.why.proofs.Followed.{among_tells}

-- ---- what a call gave, asked by `if f()`
pub not_yes : {r b : Bool} → r ≡ b → r ≡ true → not b ≡ false
not_yes e t = rw (← e, t) refl

pub not_no : {r b : Bool} → r ≡ b → r ≡ false → not b ≡ true
not_no e t = rw (← e, t) refl

-- ---- what a call of `among` gave, of numbers that are m and x
pub within : {n x m : ℕ} {r : Bool} → r ≡ true → r ≡ among n x → n ≡ m → Range m x
within {x = x} {m = m} t e a = (among_tells m x).holds (rw (← a) (sym e ∙ t))

pub without : (x : ℕ) {n m : ℕ} {r : Bool} → r ≡ false → r ≡ among n x → n ≡ m → among m x ≡ false
without x t e a = rw (← a) (sym e ∙ t)

pub in_range : (m y : ℕ) → Range m y → among m y ≡ true
in_range m y r = (among_tells m y).back r

-- ---- a loop from 1 on: what was so of those before p, and is so of p, is so of the first m, which are as many
module _ (p : ℕ) {m : ℕ} (l : 1 ≤ p) (e : m ≡ p) where
  here : p - 1 + 1 ≡ p
  here = omega arith

  pub all_next : (f : ℕ → Bool) → all f (p - 1) ≡ true → f p ≡ true → all f m ≡ true
  all_next f a t = rw e (rw here at (all_more f (p - 1) a (rw here t)))

  pub given_next : (f : ℕ → ℕ) → given f m ≡ given f (p - 1) + f p
  given_next f = rw e (rw here at (given_more f (p - 1)))

  pub count_next : (f : ℕ → Bool) → f p ≡ true → length (keep f (from 1 m)) ≡ length (keep f (from 1 (p - 1))) + 1
  count_next f t = rw e (rw here at (count_yes f (p - 1) (rw here t)))

  pub count_stays : (f : ℕ → Bool) → f p ≡ false → length (keep f (from 1 m)) ≡ length (keep f (from 1 (p - 1)))
  count_stays f t = rw e (ap length (rw here at (keep_no f (p - 1) (rw here t))))

  pub lowest_next : (f : ℕ → Bool) → lowest f (p - 1) ≡ 0 → f p ≡ true → lowest f m ≡ 0
  lowest_next f a t = rw e (rw here at (lowest_more f (p - 1) a (rw here t)))
