-- Call 0B at a log's end lists what the log leaves open, which is exactly that, rising. Assumes nothing.
use Prim.Native.Nat.{ℕ, zero, suc, ◌+◌, ◌*◌, ◌≤◌, ◌<◌}
use native.Mathlib.Omega.{arith}
use mathlib.Core.Bool.{Bool, ◌&&◌, ◌||◌}
use mathlib.Core.List.{List, ◌∷◌}
use mathlib.Core.Path.{◌≡◌, refl, ap, ap₂}
use lib.Dec.{eqb}
use lib.ListN.{length}
use borrow.Author.Tests.{ne_eqb, le-ltb}
use Rattle.machine.specs.Queue.{Range, Exact, Rising, from, keep}
use Rattle.machine.specs.Machine.{Machine}
use Rattle.machine.specs.Refusal.{first, refusal, shown, row_width}
use Rattle.machine.specs.Request.{ListOpen}
use Rattle.machine.specs.Step.{effect, step, rows}
use Rattle.machine.specs.Layout.{sum}
use Rattle.machine.specs.Log.{Talk, Log, left, is_open, open_with, listed}
use Rattle.lists.proofs.Tests.{either}
use Rattle.lists.proofs.Tells.{Tells, eq, nay, both, said, either as either-tells}
use Rattle.lists.proofs.Numbers.{in_from, from_in, from_once, in_keep, keep_in, keep_once, keep_rising, keep_same}
use Rattle.logs.specs.Follows.{last, Recorded}
use Rattle.laws.specs.Talk.{talk}
use Rattle.logs.specs.Open.{OpenWith, LeavesOpen}
use Rattle.logs.proofs.Reading.{last_P, last_B, last_talk}

-- ---- what open-with is
abbrev between : ℕ → Talk → Bool
between p t = eqb t.owner p || eqb t.receiver p

open_tells : (g : Log) (p b : ℕ) → Range (sum g.list) b → Tells (is_open (left g b) && between p (left g b)) (OpenWith g p b)
open_tells g p b i =
    said (both (nay (eq _ _)) (either-tells (eq _ _) (eq _ _))) (λ c. record { is = i; not_free = c.0; between = c.1 }) (λ o. (o.not_free, o.between))

-- exactly those open with p, each once
pub open_exact : (g : Log) (p : ℕ) → Exact (OpenWith g p) (open_with g p)
open_exact g p =
    record {
      once = keep_once _ (from 1 (sum g.list)) (from_once 1 (sum g.list));
      only =
          λ b i. (let k = in_keep b _ (from 1 (sum g.list)) i in let h = in_from b 1 (sum g.list) k.0 in (open_tells g p b (omega arith)).holds k.1);
      every = λ b o. keep_in b _ (from 1 (sum g.list)) (from_in b 1 (sum g.list) o.is.0 (omega (arith, o.is.1))) ((open_tells g p b o.is).back o);
    }

-- by rising number
pub open_rising : (g : Log) (p : ℕ) → Rising 0 (open_with g p)
open_rising g p = keep_rising _ (sum g.list) 1 0 (omega arith)

-- ---- the listing
rows_listed : (m : Machine) (t : ℕ → Talk) (f : ℕ → Bool) (n a : ℕ) → ((k : ℕ) → a ≤ k → k < a + n → talk m k ≡ t k)
    → rows m (keep f (from a n)) ≡ listed t (keep f (from a n))
unfolding keep from rows listed
rows_listed m t f zero a h = refl
rows_listed m t f (suc n) a h =
    let r : rows m (keep f (from (suc a) n)) ≡ listed t (keep f (from (suc a) n)) = rows_listed m t f n (suc a) (λ k l u. h k (omega arith) (omega arith)) in
    either (λ (l : List ℕ). rows m l ≡ listed t l) (f a)
    (λ e. ap₂ (λ (t : Talk) (l : List ℕ). a ∷ t.owner ∷ t.receiver ∷ t.standing ∷ t.age ∷ l) (h a (omega arith) (omega arith)) r)
    (λ e. r)

module _ {beyond counters : List ℕ} {edition : ℕ} {g : Log} (h : Recorded beyond edition counters g) where
  -- what the table shows as open is what the log leaves open
  pub shown_open : (p : ℕ) → shown (last beyond edition counters g) p ≡ open_with g p
  shown_open p = rw (last_B h) (keep_same _ _ 1 (sum g.list) (λ k l u. ap (λ (t : Talk). is_open t && between p t) (last_talk h k (l, omega arith))))

  -- "buffer, owner, receiver, standing" and age "of each buffer not free with owner or receiver a, rising. Kind: how many"
  pub listing : (p room : ℕ) → Range (length g.list) p → row_width * length (open_with g p) ≤ room
      → LeavesOpen g p (step (last beyond edition counters g) (ListOpen p room))
  unfolding step effect refusal first
  listing p room i fits =
      simp (last_P h, shown_open p, ne_eqb p 0 (omega arith), le-ltb (length g.list) p i.1, le-ltb room (row_width * length (open_with g p)) fits)
      (record {
        accepted = refl;
        kind = refl;
        rows = rows_listed (last beyond edition counters g) (left g) _ (sum g.list) 1 (λ k l u. last_talk h k (l, omega arith));
      })
