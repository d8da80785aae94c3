-- What each queue and each record is asked, all together, is that there are queues, linked both ways, each of exactly its records. Assumes
-- nothing.
use mathlib.Core.Path.{◌≡◌, refl, sym, ap, subst, ◌∙◌}
use mathlib.Core.Logic.{◌⊎◌, inl, inr, ⊎_elim}
use mathlib.Core.Bool.{Bool, true, false, ◌&&◌, ◌||◌, false≢true}
use mathlib.Core.List.{List, [], ◌∷◌}
use Prim.Native.Nat.{ℕ, zero, suc, ◌+◌, ◌≤◌}
use native.Mathlib.Omega.{arith}
use lib.ListN.{length}
use lib.Dec.{eqb}
use Rattle.machine.specs.Queue.{if, Range, In, Out, Distinct, Linked, IsQueue, head}
use Rattle.lists.proofs.Links.{LinkedBy, by_new, by_once}
use Rattle.lists.proofs.Numbers.{few}
use Rattle.lists.proofs.Tells.{Tells, eq, le, both, either, implies, said}
use Rattle.why.specs.QueueParts.{Queues, Part, First, Last, Start, Next, Back, Met, among, belongs, along, meets, part_holds, PartHolds, Belongs, asked}

-- ---- the tests tell
pub among_tells : (n x : ℕ) → Tells (among n x) (Range n x)
among_tells n x = both (le 1 x) (le x n)

module _ (q : Queues) where
  belongs_tells : (h x : ℕ) → Tells (belongs q h x) (Belongs q h x)
  belongs_tells h x = either (eq _ _) (both (le _ _) (eq _ _))

  pub meets_tells : (k at x : ℕ) → Tells (meets q k at x) (In x (along q k at))
  unfolding meets along
  meets_tells zero at x = record { holds = λ t. absurd (false≢true t); back = λ i. absurd i }
  meets_tells (suc k) at x = go (meets_tells k (q.next at) x) (among q.records at)
    where
      go : Tells (meets q k (q.next at) x) (In x (along q k (q.next at))) → (b : Bool) → Tells (b && (eqb at x || meets q k (q.next at) x))
          (In x (if b (at ∷ along q k (q.next at)) []))
      go ih true = said (either (eq at x) ih) (λ s. ⊎_elim (λ e. inl (sym e)) inr s) (λ s. ⊎_elim (λ e. inl (sym e)) inr s)
      go ih false = record { holds = λ t. absurd (false≢true t); back = λ i. absurd i }

  pub part_tells : (p : Part) (x : ℕ) → Tells (part_holds q p x) (PartHolds q p x)
  part_tells First h = belongs_tells h _
  part_tells Last h = belongs_tells h _
  part_tells Start h = implies (among_tells _ _) (eq _ _)
  part_tells Next x = implies (among_tells _ _) (belongs_tells _ _)
  part_tells Back x = implies (among_tells _ _) (both (implies (eq _ _) (eq _ _)) (implies (among_tells _ _) (eq _ _)))
  part_tells Met x = implies (among_tells _ _) (meets_tells _ _ x)

-- ---- from what is asked to the queues
module _ (q : Queues) where
  -- x belongs in queue h
  abbrev pub Of : ℕ → ℕ → Type 0
  Of h x = Range q.records x × (q.home x ≡ h)

  -- queue h as `Sound` has it
  pub record Queued (h : ℕ) : Type 0 where
    pub list : List ℕ
    pub is : IsQueue q.next q.previous (Of h) (q.first h) (q.last h) list

  abbrev pub All : Type 0
  All = (p : Part) (x : ℕ) → Range (asked q p) x → PartHolds q p x

  along_none : (k at : ℕ) → at ≡ 0 → along q k at ≡ []
  unfolding along
  along_none zero at e = refl
  along_none (suc k) at e = rw e refl

  along_some : (k at : ℕ) → Range q.records at → along q (suc k) at ≡ at ∷ along q k (q.next at)
  unfolding along
  along_some k at l = rw ((among_tells q.records at).back l) refl

  module _ (asks : All) (h : ℕ) (r : Range q.number h) where
    -- the queue from `at` on, behind the records s, for at most k records
    record Rest (k at : ℕ) (s : List ℕ) : Type 0 where
      linked : Linked q.next q.previous at (head s) (along q k at) (q.last h)
      only : (x : ℕ) → In x (along q k at) → Of h x
      new : (x : ℕ) → In x (along q k at) → Out x s
      once : Distinct (along q k at)

    -- what was passed, the latest first: a record's previous is the one before it, so none is met twice
    record Passed (s : List ℕ) : Type 0 where
      trace : LinkedBy q.previous s
      of : (x : ℕ) → In x s → Of h x

    positive : (s : List ℕ) → Passed s → Out 0 s
    positive s p i = omega (arith, (p.of 0 i).0.0)

    ended : (k at : ℕ) (s : List ℕ) → at ≡ 0 → head s ≡ q.last h → Rest k at s
    unfolding Linked
    ended k at s e l =
        let n = along_none k at e in
        record {
          linked = rw n (e, l);
          only = λ x i. absurd (subst (In x) n i);
          new = λ x i. absurd (subst (In x) n i);
          once = rw n tt;
        }

    passes : (at : ℕ) (s : List ℕ) → Of h at → q.previous at ≡ head s → Passed s → Passed (at ∷ s)
    passes at s o e p = record { trace = (e, p.trace); of = λ x i. ⊎_elim (λ k. rw k o) (p.of x) i }

    more : (k at : ℕ) (s : List ℕ) → Of h at → q.previous at ≡ head s → Out at s → Rest k (q.next at) (at ∷ s) → Rest (suc k) at s
    unfolding Linked
    more k at s o e n R =
        let a = along_some k at o.0 in
        record {
          linked = rw a (refl, e, R.linked);
          only = λ x i. ⊎_elim (λ j. rw j o) (R.only x) (subst (In x) a i);
          new = λ x i. ⊎_elim (λ j. rw j n) (λ j m. R.new x j (inr m)) (subst (In x) a i);
          once = rw a ((λ i. R.new at i (inl refl)), R.once);
        }

    -- what is known of the record or the end to come
    record ComesNext (at : ℕ) (s : List ℕ) : Type 0 where
      passed : Passed s
      belongs : Belongs q h at
      back : Range q.records at → q.previous at ≡ head s
      end : at ≡ 0 → q.last h ≡ head s

    zero_or : (x : ℕ) → (x ≡ 0) ⊎ (1 ≤ x)
    zero_or zero = inl refl
    zero_or (suc x) = inr (omega arith)

    -- the end, or a record
    apart : {A : Type 0} (at : ℕ) (s : List ℕ) → ComesNext at s → (at ≡ 0 → A) → (Of h at → A) → A
    apart at s c f g = ⊎_elim f (λ o. ⊎_elim f (λ l. g ((l, o.0), o.1)) (zero_or at)) c.belongs

    passing : (at : ℕ) (s : List ℕ) → ComesNext at s → Of h at → Passed (at ∷ s)
    passing at s c o = passes at s o (c.back o.0) c.passed

    comes : (at : ℕ) (s : List ℕ) → ComesNext at s → Of h at → ComesNext (q.next at) (at ∷ s)
    comes at s c o =
        let i : Range q.number (q.home at) = rw o.1 r in
        let b = asks Back at o.0 i in
        record { passed = passing at s c o; belongs = rw o.1 at (asks Next at o.0 i); back = b.1; end = rw o.1 at b.0 }

    -- at most as many as there are records
    walk : (k at : ℕ) (s : List ℕ) → k + length s ≡ q.records → ComesNext at s → Rest k at s
    walk zero at s n c =
        apart at s c (λ e. ended 0 at s e (sym (c.end e)))
        (λ o. (let m = passing at s c o in
        let f = few 0 q.records (at ∷ s) (by_once q.previous (at ∷ s) m.trace (positive (at ∷ s) m))
        (λ x i. (let y = (m.of x i).0 in omega arith)) in
        absurd (omega arith)))
    walk (suc k) at s n c =
        apart at s c (λ e. ended (suc k) at s e (sym (c.end e)))
        (λ o. (let m = passing at s c o in
        more k at s o (c.back o.0) (by_new q.previous at s m.trace (positive (at ∷ s) m))
        (walk k (q.next at) (at ∷ s) (omega arith) (comes at s c o))))

    -- the last of a queue that has no first
    none_last : q.first h ≡ 0 → q.last h ≡ 0
    none_last e = ⊎_elim (λ z. z) (λ o. by (q.last h) refl o) (asks Last h r)
      where
        by : (x : ℕ) → q.last h ≡ x → (q.last h ≤ q.records) × (q.home (q.last h) ≡ h) → q.last h ≡ 0
        by zero f o = f
        by (suc x) f o =
            let i : Range q.number (q.home (q.last h)) = rw o.1 r in
            let m = asks Met (q.last h) (omega arith) i in
            absurd (subst (In (q.last h)) (along_none q.records (q.first (q.home (q.last h))) (ap q.first o.1 ∙ e)) m)

    pub queued : Queued h
    queued =
        let c : ComesNext (q.first h) [] = record {
          passed = record { trace = tt; of = λ x i. absurd i };
          belongs = asks First h r;
          back = asks Start h r;
          end = none_last;
        } in
        let w = walk q.records (q.first h) [] (omega arith) c in
        record {
          list = along q q.records (q.first h);
          is = record {
            linked = w.linked;
            exact = record {
              once = w.once;
              only = w.only;
              every = λ x o. (let i : Range q.number (q.home x) = rw o.1 r in rw o.1 at (asks Met x o.0 i));
            };
          };
        }

  -- ---- and back
  module _ (next previous : ℕ → ℕ) where
    -- a record of a queue: the last, or the next of it is there, and comes back to it
    linked_next : (at b : ℕ) (l : List ℕ) (z x : ℕ) → Linked next previous at b l z → In x l
        → ((next x ≡ 0) × (z ≡ x)) ⊎ (In (next x) l × (previous (next x) ≡ x))
    unfolding Linked
    linked_next at b [] z x k i = absurd i
    linked_next at b (y ∷ []) z x k i = ⊎_elim (λ e. rw e (inl (k.2.0, sym k.2.1))) (λ j. absurd j) i
    linked_next at b (y ∷ (v ∷ l)) z x k i =
        ⊎_elim
        (λ e. rw e (inr (inr (inl k.2.0), ap previous k.2.0 ∙ k.2.1)))
        (λ j. ⊎_elim inl (λ m. inr (inr m.0, m.1)) (linked_next (next y) y (v ∷ l) z x k.2 j))
        i

    linked_last : (at b : ℕ) (l : List ℕ) (z : ℕ) → Linked next previous at b l z → (z ≡ b) ⊎ In z l
    unfolding Linked
    linked_last at b [] z k = inl (sym k.1)
    linked_last at b (y ∷ l) z k = ⊎_elim (λ e. inr (inl e)) (λ i. inr (inr i)) (linked_last (next y) y l z k.2)

    linked_first : (at b : ℕ) (l : List ℕ) (z : ℕ) → Linked next previous at b l z → (at ≡ 0) ⊎ (In at l × (previous at ≡ b))
    unfolding Linked
    linked_first at b [] z k = inl k.0
    linked_first at b (y ∷ l) z k = inr (inl k.0, ap previous k.0 ∙ k.1)

  along_linked : (k at b : ℕ) (l : List ℕ) (z : ℕ) → Linked q.next q.previous at b l z → ((x : ℕ) → In x l → Range q.records x) → length l ≤ k
      → along q k at ≡ l
  unfolding Linked
  along_linked k at b [] z i r n = along_none k at i.0
  along_linked zero at b (x ∷ l) z i r n = absurd (omega arith)
  along_linked (suc k) at b (x ∷ l) z i r n =
      rw i.0 (along_some k x (r x (inl refl)) ∙ ap (λ (m : List ℕ). x ∷ m) (along_linked k (q.next x) x l z i.2 (λ y j. r y (inr j)) (omega arith)))

  module _ (there : (h : ℕ) → Range q.number h → Queued h) where
    -- x belongs where it is found
    found : (h x : ℕ) (r : Range q.number h) → In x (there h r).list → Belongs q h x
    found h x r i = let o = (there h r).is.exact.only x i in inr (o.0.1, o.1)

    neighbour : (x : ℕ) → Range q.records x → (r : Range q.number (q.home x))
        → ((q.next x ≡ 0) × (q.last (q.home x) ≡ x)) ⊎ (In (q.next x) (there (q.home x) r).list × (q.previous (q.next x) ≡ x))
    neighbour x k r =
        let s = (there (q.home x) r).is in
        linked_next q.next q.previous (q.first (q.home x)) 0 (there (q.home x) r).list (q.last (q.home x)) x s.linked
        (s.exact.every x (k, refl))

    pub asks : All
    asks First h r = let s = (there h r).is in ⊎_elim inl (λ i. found h _ r i.0) (linked_first _ _ _ _ _ _ s.linked)
    asks Last h r = let s = (there h r).is in ⊎_elim inl (λ i. found h _ r i) (linked_last _ _ _ _ _ _ s.linked)
    asks Start h r = let s = (there h r).is in λ k. ⊎_elim (λ e. absurd (omega arith)) (λ i. i.1) (linked_first _ _ _ _ _ _ s.linked)
    asks Next x k = λ r. ⊎_elim (λ e. inl e.0) (λ i. found (q.home x) (q.next x) r i.0) (neighbour x k r)
    asks Back x k = λ r. (
      (λ e. ⊎_elim (λ i. i.1) (λ i. absurd (omega (arith, ((there (q.home x) r).is.exact.only (q.next x) i.0).0.0))) (neighbour x k r)),
      (λ m. ⊎_elim (λ i. absurd (omega (arith, i.0))) (λ i. i.1) (neighbour x k r)),
    )
    asks Met x k = λ r. (let s = (there (q.home x) r).is in
        let l = (there (q.home x) r).list in
        let n = few 0 q.records l s.exact.once (λ y i. (let o = (s.exact.only y i).0 in omega arith)) in
        let e = along_linked q.records (q.first (q.home x)) 0 l (q.last (q.home x)) s.linked (λ y i. (s.exact.only y i).0) n in
        subst (In x) (sym e) (s.exact.every x (k, refl)))
