-- Links of waiting: one more, the way round a ring, and who is listed along them. Assumes nothing.
use mathlib.Core.Path.{◌≡◌, refl, sym, ap, subst, ◌∙◌}
use mathlib.Core.Logic.{inl, inr, ⊎_elim}
use Prim.Native.Nat.{ℕ, zero, suc, ◌+◌, ◌-◌, ◌≤◌}
use native.Mathlib.Omega.{arith}
use native.Mathlib.Decide.{dec_le}
use Rattle.machine.specs.Queue.{Range, In, Distinct, last_from}
use Rattle.stuck.specs.Waiting.{Waiting, Links, Reached, Behind}
use Rattle.stuck.specs.Chain.{onward, along}
use Rattle.stuck.proofs.Fits.{Fits}
use Rattle.stuck.proofs.Steps.{onward_goes}

module _ (w : Waiting) where
  -- one link more, at the end
  pub links_more : (n p q : ℕ) → Links w n p q → w.state q ≡ 3 → Links w (suc n) p (w.holder q)
  unfolding Links
  links_more zero p q l e = (ap w.state l ∙ e, ap w.holder l)
  links_more (suc n) p q l e = (l.0, links_more n (w.holder p) q l.1 e)

  -- n links of waiting lead to one process
  pub links_one : (n p q r : ℕ) → Links w n p q → Links w n p r → q ≡ r
  unfolding Links
  links_one zero p q r l k = sym l ∙ k
  links_one (suc n) p q r l k = links_one n (w.holder p) q r l.1 k.1

  -- who is reached from one that p reaches is reached from p
  pub links_then : (m p q r : ℕ) → Links w m p q → Reached w q r → Reached w p r
  unfolding Links
  links_then zero p q r l c = subst (λ (x : ℕ). Reached w x r) (sym l) c
  links_then (suc m) p q r l c = let d = links_then m (w.holder p) q r l.1 c in record { links = suc d.links; by = (l.0, d.by) }

  -- as many links as lead from q to itself lead from each that q reaches to itself
  pub links_round : (m d q a : ℕ) → Links w m q a → Links w d q q → Links w d a a
  unfolding Links
  links_round zero d q a l r = subst (λ (x : ℕ). Links w d x x) l r
  links_round (suc m) d q a l r = links_round m d (w.holder q) a l.1 (gone_round d r)
    where
      gone_round : (d : ℕ) → Links w d q q → Links w d (w.holder q) (w.holder q)
      gone_round zero r = refl
      gone_round (suc d) r = links_more d (w.holder q) q r.1 l.0

  -- who waits for itself is reached again from each that it reaches
  pub links_return : (a k : ℕ) → Links w (suc k) a a → (n m y z : ℕ) → Links w m y a → Links w n y z → Reached w z a
  unfolding Links
  links_return a k loop zero m y z l r = record { links = m; by = subst (λ (x : ℕ). Links w m x a) r l }
  links_return a k loop (suc n) zero y z l r = links_return a k loop n k (w.holder a) z loop.1 (subst (λ (x : ℕ). Links w n (w.holder x) z) l r.1)
  links_return a k loop (suc n) (suc m) y z l r = links_return a k loop n m (w.holder y) z l.1 r.1

  -- n processes in state 3, from p on
  abbrev pub Goes : ℕ → ℕ → Type 0
  Goes zero p = Unit {0}
  Goes (suc n) p = (w.state p ≡ 3) × Goes n (w.holder p)

  -- who waits for a process that waits for itself waits for ever
  pub goes_ever : (x k : ℕ) → Links w (suc k) x x → (n m y : ℕ) → Links w m y x → Goes n y
  unfolding Links
  goes_ever x k loop zero m y l = tt
  goes_ever x k loop (suc n) zero y l = rw l (loop.0, goes_ever x k loop n k (w.holder x) loop.1)
  goes_ever x k loop (suc n) (suc m) y l = (l.0, goes_ever x k loop n m (w.holder y) l.1)

  -- ---- along the links
  -- the one after n is along n + 1
  pub along_has : (n a p : ℕ) → Links w n a p → In p (along w (suc n) a)
  unfolding along Links
  along_has zero a p l = inl (sym l)
  along_has (suc n) a p l = inr (subst (λ (x : ℕ). In p (along w (suc n) x)) (onward_goes w a l.0) (along_has n (w.holder a) p l.1))

  pub along_old : (n a y : ℕ) → In y (along w n a) → In y (along w (suc n) a)
  unfolding along
  along_old zero a y i = absurd i
  along_old (suc n) a y i = ⊎_elim inl (λ j. inr (along_old n (onward w a) y j)) i

  pub along_grows : (k n a y : ℕ) → In y (along w n a) → In y (along w (n + k) a)
  along_grows zero n a y i = let e : n + 0 ≡ n = omega arith in rw e i
  along_grows (suc k) n a y i = let e : n + suc k ≡ suc (n + k) = omega arith in rw e (along_old (n + k) a y (along_grows k n a y i))

  -- where n links lead from p to q, who is along them is some links from p, and the rest from q
  pub record Between (n p q y : ℕ) : Type 0 where
    pub before : ℕ
    pub rest : ℕ
    pub all : before + suc rest ≡ n
    pub from : Links w before p y
    pub to : Links w (suc rest) y q

  pub along_links : (n p q y : ℕ) → Links w n p q → In y (along w n p) → Between n p q y
  unfolding along Links
  along_links zero p q y l i = absurd i
  along_links (suc n) p q y l i =
      ⊎_elim
      (λ e. rw e (record { before = 0; rest = n; all = omega arith; from = refl; to = l }))
      (λ j. (let b = along_links n (w.holder p) q y l.1 (subst (λ (x : ℕ). In y (along w n x)) (sym (onward_goes w p l.0)) j) in
      record { before = suc b.before; rest = b.rest; all = omega (arith, b.all); from = (l.0, b.from); to = b.to }))
      i

  -- each along them waits for the next
  pub along_behind : (n p q : ℕ) → Links w n p q → Behind w (along w n p)
  unfolding along Links Behind
  along_behind zero p q l = tt
  along_behind (suc zero) p q l = tt
  along_behind (suc (suc n)) p q l =
      let e = onward_goes w p l.0 in
      (l.0, e, subst (λ (x : ℕ). Behind w (along w (suc n) x)) e (along_behind (suc n) (w.holder p) q l.1))

  -- and the last for the one that they lead to
  pub along_last : (n p q z : ℕ) → Links w (suc n) p q → (w.state (last_from z (along w (suc n) p)) ≡ 3) × (w.holder (last_from z (along w (suc n) p)) ≡ q)
  unfolding along Links
  along_last zero p q z l = l
  along_last (suc n) p q z l =
      subst (λ (x : ℕ). (w.state (last_from p (along w (suc n) x)) ≡ 3) × (w.holder (last_from p (along w (suc n) x)) ≡ q))
      (onward_goes w p l.0) (along_last n (w.holder p) q p l.1)

  -- where n processes are different from a on, no fewer links lead back to a
  pub along_late : (n k a : ℕ) → Distinct (along w n a) → Links w (suc k) a a → n ≤ suc k
  unfolding along Links
  along_late zero k a d l = omega arith
  along_late (suc n) k a d l = go (dec_le (suc n) (suc k))
    where
      go : Dec (suc n ≤ suc k) → suc n ≤ suc k
      go (yes h) = h
      go (no h) =
          let e : suc k + (n - suc k) ≡ n = omega arith in
          let i : In a (along w n (w.holder a)) = rw e at (along_grows (n - suc k) (suc k) (w.holder a) a (along_has k (w.holder a) a l.1)) in
          absurd (d.0 (subst (λ (x : ℕ). In a (along w n x)) (onward_goes w a l.0) i))

  -- who is reached from a ring's process is in the ring: y is m links from a, and those are in it
  in_ring : (a k : ℕ) → Links w (suc k) a a → (n m y z : ℕ) → Links w m y a → ((x : ℕ) → In x (along w m y) → In x (along w (suc k) a))
      → Links w n y z → In z (along w (suc k) a)
  unfolding along Links
  in_ring a k loop zero zero y z l h r = inl (sym r ∙ l)
  in_ring a k loop zero (suc m) y z l h r = h z (inl (sym r))
  in_ring a k loop (suc n) zero y z l h r =
      in_ring a k loop n k (w.holder a) z loop.1 (λ x i. inr (subst (λ (u : ℕ). In x (along w k u)) (onward_goes w a loop.0) i))
      (subst (λ (u : ℕ). Links w n (w.holder u) z) l r.1)
  in_ring a k loop (suc n) (suc m) y z l h r =
      in_ring a k loop n m (w.holder y) z l.1 (λ x i. h x (inr (subst (λ (u : ℕ). In x (along w m u)) (onward_goes w y l.0) i))) r.1

  pub ring_has : (a k : ℕ) → Links w (suc k) a a → (n z : ℕ) → Links w n a z → In z (along w (suc k) a)
  unfolding Links along
  ring_has a k loop n z l = in_ring a k loop n 0 a z refl (λ x i. absurd i) l

-- who is reached from a process is a process
pub links_among : {w : Waiting} {P : ℕ} → Fits w P → (n p q : ℕ) → Range P p → Links w n p q → Range P q
unfolding Links
links_among F zero p q r l = rw (← l) r
links_among {w} F (suc n) p q r l = links_among F n (w.holder p) q (F.among p r l.0) l.1
