-- Where a test fails its denial holds: by the parts of the test, and so of every clause. Assumes nothing.
use mathlib.Core.Path.{◌≡◌, refl, sym, ◌∙◌}
use mathlib.Core.Logic.{◌⊎◌, inl, inr}
use mathlib.Core.Bool.{Bool, true, false, not, ◌&&◌, ◌||◌, true≢false, false≢true}
use mathlib.Core.List.{List}
use Prim.Native.Nat.{ℕ, zero, suc, ◌-◌, ◌≤◌, ◌<◌}
use native.Mathlib.Omega.{arith}
use lib.Dec.{eqb, leb}
use borrow.Author.Tests.{eqb-true, eqb-false, leb-true, leb-false}
use Rattle.machine.specs.Queue.{Range}
use Rattle.lists.specs.Counts.{all}
use Rattle.lists.proofs.Tells.{Tells}
use Rattle.lists.proofs.Tests.{tested}
use Rattle.laws.proofs.Laid.{tells_name}
use Rattle.why.specs.QueueParts.{Queues, Part, First, Last, Start, Next, Back, Met, queues, among, part_holds, belongs}
use Rattle.why.specs.Denied.{Differ, Outside, Foreign, Strays, Twin, Denied}
use Rattle.why.specs.Clause.{Clause, HeaderThere, ProcessesInRange, BuffersInRange, SemaphoresInRange, LongEnough, Edition, HeaderZero}
use Rattle.why.specs.Clause.{SemaphoreZero, Priority, Name, NameApart, FirstOwn, AllGiven, Owner, Queue, PriorityFalls, ProcessOff, BufferOff}
use Rattle.why.specs.Clause.{Standing, Free, Receiver, Counter, State, Reason, NoReason, SemaphoreWait, EventWait, AnswerWait, InterruptWait}
use Rattle.why.specs.Clause.{Delay, Device, right}
use Rattle.why.specs.Asked.{same_name}
use Rattle.why.proofs.Followed.{meets_tells}

-- a test that holds is a fact, and one that fails its denial
record Parts (b : Bool) (A D : Type 0) : Type 0 where
  holds : b ≡ true → A
  denies : b ≡ false → D

same : (m n : ℕ) → Parts (eqb m n) (m ≡ n) (Differ m n)
same m n = record { holds = eqb-true m n; denies = λ t. apart m n (eqb-false m n t) }
  where
    apart : (m n : ℕ) → (m ≡ n → ⊥) → Differ m n
    apart m n h = tested (leb m n) (λ t. (let l = leb-true m n t in inl (omega (arith, h)))) (λ t. inr (leb-false m n t))

most : (m n : ℕ) → Parts (leb m n) (m ≤ n) (n < m)
most m n = record { holds = leb-true m n; denies = leb-false m n }

nay : {a : Bool} {A D : Type 0} → Parts a A D → Parts (not a) D A
nay {a = true} x = record { holds = λ t. absurd (false≢true t); denies = λ t. x.holds refl }
nay {a = false} x = record { holds = λ t. x.denies refl; denies = λ t. absurd (true≢false t) }

both : {a b : Bool} {A B D E : Type 0} → Parts a A D → Parts b B E → Parts (a && b) (A × B) (D ⊎ E)
both {a = true} x y = record { holds = λ t. (x.holds refl, y.holds t); denies = λ t. inr (y.denies t) }
both {a = false} x y = record { holds = λ t. absurd (false≢true t); denies = λ t. inl (x.denies refl) }

either : {a b : Bool} {A B D E : Type 0} → Parts a A D → Parts b B E → Parts (a || b) (A ⊎ B) (D × E)
either {a = true} x y = record { holds = λ t. inl (x.holds refl); denies = λ t. absurd (true≢false t) }
either {a = false} x y = record { holds = λ t. inr (y.holds t); denies = λ t. (x.denies refl, y.denies t) }

within : (n x : ℕ) → Parts (among n x) (Range n x) (Outside n x)
within n x = both (most 1 x) (most x n)

-- a fact that is told, and else isn't so
told_so : {b : Bool} {A : Type 0} → Tells b A → Parts b A (A → ⊥)
told_so x = record { holds = x.holds; denies = λ t h. true≢false (sym (x.back h) ∙ t) }

-- ---- queues
module _ (q : Queues) where
  foreign : (h x : ℕ) → belongs q h x ≡ false → Foreign q h x
  foreign h x = (either (same _ _) (both (most _ _) (same _ _))).denies

  strays : (p : Part) (x : ℕ) → part_holds q p x ≡ false → Strays q p x
  strays First h = foreign h _
  strays Last h = foreign h _
  strays Start h = (either (nay (within _ _)) (same _ _)).denies
  strays Next x = (either (nay (within _ _)) (record { holds = λ t. t; denies = foreign _ _ })).denies
  strays Back x = (either (nay (within _ _)) (both (either (nay (same _ _)) (same _ _)) (either (nay (within _ _)) (same _ _)))).denies
  strays Met x = (either (nay (within _ _)) (told_so (meets_tells q _ _ x))).denies

-- ---- names
module _ (w : List ℕ) (p : ℕ) where
  twin : (n : ℕ) → n ≤ p - 1 → all (λ q. not (same_name w q p)) n ≡ false → Twin w p
  unfolding all
  twin zero l t = absurd (true≢false t)
  twin (suc n) l t =
      tested (all (λ q. not (same_name w q p)) n)
      (λ a. record {
        other = suc n;
        before = (omega arith, l);
        same = (nay (both (same _ _) (both (same _ _) (same _ _)))).denies (rw a at t);
      })
      (λ a. twin n (omega arith) a)

-- ---- every clause
module _ (w : List ℕ) where
  pub clause_denies : (k : Clause) (r : ℕ) → right w k r ≡ false → Denied w k r
  clause_denies HeaderThere r = (most _ _).denies
  clause_denies ProcessesInRange r = (within _ _).denies
  clause_denies BuffersInRange r = (most _ _).denies
  clause_denies SemaphoresInRange r = (most _ _).denies
  clause_denies LongEnough r = (most _ _).denies
  clause_denies Edition r = (most _ _).denies
  clause_denies HeaderZero r = (same _ _).denies
  clause_denies SemaphoreZero s = (same _ _).denies
  clause_denies Priority p = (within _ _).denies
  clause_denies Name p = (told_so (tells_name _ _ _)).denies
  clause_denies NameApart p = λ t. twin w p (p - 1) (omega arith) t
  clause_denies FirstOwn p = (both (either (nay (same _ _)) (same _ _)) (either (same _ _) (same _ _))).denies
  clause_denies AllGiven r = (same _ _).denies
  clause_denies Owner b = (both (within _ _) (both (nay (most _ _)) (most _ _))).denies
  clause_denies (Queue k p) r = strays (queues w k) p r
  clause_denies PriorityFalls p = (either (nay (same _ _)) (either (nay (within _ _)) (most _ _))).denies
  clause_denies ProcessOff p = (either (same _ _) (either (same _ _) (both (same _ _) (same _ _)))).denies
  clause_denies BufferOff b = (either (same _ _) (either (same _ _) (both (same _ _) (same _ _)))).denies
  clause_denies Standing b = (most _ _).denies
  clause_denies Free b =
      (either (nay (same _ _)) (both (same _ _) (both (same _ _) (both (same _ _) (both (same _ _) (both (same _ _) (same _ _))))))).denies
  clause_denies Receiver b = (either (same _ _) (both (within _ _) (nay (same _ _)))).denies
  clause_denies Counter s = (both (most _ _) (both (either (nay (most _ _)) (same _ _)) (either (most _ _) (same _ _)))).denies
  clause_denies State p = (most _ _).denies
  clause_denies Reason p = (both (most _ _) (nay (same _ _))).denies
  clause_denies NoReason p = (either (same _ _) (same _ _)).denies
  clause_denies SemaphoreWait p = (both (either (nay (same _ _)) (within _ _)) (either (same _ _) (same _ _))).denies
  clause_denies EventWait p = (either (nay (same _ _)) (same _ _)).denies
  clause_denies AnswerWait p =
      (both (either (nay (same _ _)) (both (within _ _) (both (same _ _) (both (most _ _) (most _ _))))) (either (same _ _) (same _ _))).denies
  clause_denies InterruptWait p = (both (either (nay (same _ _)) (both (within _ _) (same _ _))) (either (same _ _) (same _ _))).denies
  clause_denies Delay p = (either (same _ _) (either (same _ _) (same _ _))).denies
  clause_denies Device r =
      (both (either (nay (same _ _)) (same _ _)) (either (same _ _) (either (same _ _) (both (within _ _) (both (same _ _) (same _ _)))))).denies
