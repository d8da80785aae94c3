-- Tests and sums over the numbers 1 to n, one number more at a time: whether all pass, how many do, and how many a list of those that pass has.
-- Assumes nothing.
use mathlib.Core.Path.{◌≡◌, refl, sym, ap, ◌∙◌}
use mathlib.Core.Bool.{Bool, true, false, and-eq-true_iff}
use mathlib.Core.List.{List}
use Prim.Native.Nat.{ℕ, zero, suc, ◌+◌, ◌≤◌, ◌<◌}
use native.Mathlib.Numerals.{add-one}
use native.Mathlib.Omega.{arith}
use lib.ListN.{length}
use Rattle.machine.specs.Queue.{In, Distinct, from, keep}
use Rattle.machine.specs.Machine.{given}
use Rattle.lists.specs.Counts.{bit, count, all}
use Rattle.lists.proofs.Tests.{differ, is_false}
use Rattle.lists.proofs.Tells.{all_holds}
use Rattle.lists.proofs.Lists.{no_longer, all_in}
use Rattle.lists.proofs.Numbers.{in_from, from_in, from_once, in_keep, keep_in, keep_once, keep_no, count_yes, count_zero}

-- ---- all pass
pub all_none : (f : ℕ → Bool) → all f 0 ≡ true
unfolding all
all_none f = refl

pub all_more : (f : ℕ → Bool) (k : ℕ) → all f k ≡ true → f (k + 1) ≡ true → all f (k + 1) ≡ true
unfolding all
all_more f k a t = rw add-one ((and-eq-true_iff (all f k) (f (suc k))).1 (a, simp add-one at t))

pub all_fails : (f : ℕ → Bool) (k n : ℕ) → k < n → f (k + 1) ≡ false → all f n ≡ false
all_fails f k n l t = is_false (all f n) (λ a. differ (sym (all_holds f n a (k + 1) (omega arith) (omega arith)) ∙ t))

-- ---- sums
pub given_none : (f : ℕ → ℕ) → given f 0 ≡ 0
unfolding given
given_none f = refl

pub given_more : (f : ℕ → ℕ) (n : ℕ) → given f (n + 1) ≡ given f n + f (n + 1)
unfolding given
given_more f n = rw add-one refl

-- ---- how many pass
pub count_most : (f : ℕ → Bool) (n : ℕ) → count f n ≤ n
unfolding count
count_most f zero = omega arith
count_most f (suc n) = go (f (suc n)) (count_most f n)
  where
    go : (x : Bool) → count f n ≤ n → count f n + bit x ≤ suc n
    go true h = omega arith
    go false h = omega arith

pub count_none : (f : ℕ → Bool) → 0 ≡ count f 0
unfolding count
count_none f = refl

pub count_more : (f : ℕ → Bool) (j c r : ℕ) → c ≡ count f j → r ≡ bit (f (j + 1)) → c + r ≡ count f (j + 1)
unfolding count
count_more f j c r e h = rw add-one (cc (ap (λ (x : ℕ). bit (f x)) (add-one j)))

-- the same behind the first b
pub count_start : (f : ℕ → Bool) (b c : ℕ) → c ≡ count f b → (c ≤ b + 0) × (c ≡ count f (b + 0))
count_start f b c e = let z : b + 0 ≡ b = omega arith in (omega (arith, count_most f b), rw z e)

pub count_next : (f : ℕ → Bool) (b j c r : ℕ) → c ≡ count f (b + j) → r ≡ bit (f (b + (j + 1))) → c + r ≡ count f (b + (j + 1))
unfolding count
count_next f b j c r e h = let k : b + (j + 1) ≡ suc (b + j) = omega arith in rw k (cc (ap (λ (x : ℕ). bit (f x)) k))

-- ---- how many of them a list has
-- as many as are kept
count_kept : (f : ℕ → Bool) (n : ℕ) → count f n ≡ length (keep f (from 1 n))
unfolding count
count_kept f zero = count_zero f
count_kept f (suc n) = go (f (suc n)) (count_kept f n) refl
  where
    go : (t : Bool) → count f n ≡ length (keep f (from 1 n)) → f (suc n) ≡ t → count f n + bit t ≡ length (keep f (from 1 (suc n)))
    go true h e = omega (arith, rw add-one at (count_yes f n (rw add-one e)))
    go false h e = omega (arith, ap length (rw add-one at (keep_no f n (rw add-one e))))

module _ (q : List ℕ) (f : ℕ → Bool) (n : ℕ) (once : Distinct q) (pass : (x : ℕ) → In x q → (1 ≤ x) × ((x ≤ n) × (f x ≡ true))) where
  kept : (y : ℕ) → 1 ≤ y → y ≤ n → f y ≡ true → In y (keep f (from 1 n))
  kept y l u t = keep_in y f (from 1 n) (from_in y 1 n l (omega arith)) t

  pass_kept : (x : ℕ) → In x q → In x (keep f (from 1 n))
  pass_kept x i = let p = pass x i in kept x p.0 p.1.0 p.1.1

  -- different ones that pass are no more than there are
  pub at_most : length q ≤ count f n
  at_most = omega (arith, count_kept f n, no_longer q (keep f (from 1 n)) once pass_kept)

  -- as many different ones as there are: these are all
  pub all_there : length q ≡ count f n → (y : ℕ) → 1 ≤ y → y ≤ n → f y ≡ true → In y q
  all_there e y l u t = all_in q (keep f (from 1 n)) once pass_kept (omega (arith, count_kept f n)) y (kept y l u t)

  -- and all of them are as many
  pub as_many : ((y : ℕ) → 1 ≤ y → y ≤ n → f y ≡ true → In y q) → length q ≡ count f n
  as_many h =
      let all : length (keep f (from 1 n)) ≤ length q = no_longer (keep f (from 1 n)) q (keep_once f (from 1 n) (from_once 1 n))
      (λ x i. (let k = in_keep x f (from 1 n) i in let r = in_from x 1 n k.0 in h x r.0 (omega (arith, r)) k.1)) in
      omega (arith, at_most, count_kept f n)
