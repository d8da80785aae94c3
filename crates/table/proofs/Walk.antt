-- A walk along the running queue, to where a process enters it. Assumes nothing.
use Prim.Native.Nat.{ℕ, suc, ◌≤◌, ◌<◌, ◌+◌}
use native.Mathlib.Omega.{arith}
use mathlib.Core.List.{List, [], ◌∷◌}
use mathlib.Core.Logic.{inl, inr, ⊎_elim}
use mathlib.Core.Path.{◌≡◌, refl, sym, ◌∙◌}
use lib.ListN.{length}
use borrow.Author.Tests.{le-leb, lt-leb}
use Rattle.machine.specs.Queue.{In, Out, Distinct, head, next, next_from, enter, passed}
use Rattle.machine.specs.Machine.{Machine}
use Rattle.lists.proofs.Links.{no_same, first_is, out_in}
use Rattle.lists.proofs.Numbers.{few}
use Rattle.laws.proofs.Passing.{passed_length}
use Rattle.table.specs.Fits.{RunningFits, MayWalk, ProcessWord, Enters}
use Rattle.table.specs.Links.{Puts, here, later, EntersAt}
use Rattle.table.proofs.Neighbours.{next_all}

-- a queue without 0 has no more members than there are numbers
within_few : (n : ℕ) (q : List ℕ) → Distinct (0 ∷ q) → ((x : ℕ) → In x q → x ≤ n) → length q ≤ n
within_few n q d h = few 0 n q d.1 (λ x i. (let some : x ≡ 0 → ⊥ = λ e. d.0 (rw e at i) in omega (arith, h x i)))

-- who isn't in the running queue and enters it passes fewer than there are
pub passes_fewer : {P p : ℕ} {named : ℕ → ℕ} {q : List ℕ} (rank : ℕ → ℕ) (bar : ℕ) → Enters P named q p → passed rank bar q < P
passes_fewer {P} {p} {named} {q} rank bar may =
    let f = may.fits in
    let l = within_few P (p ∷ q) (⊎_elim (λ e. omega (arith, may.process.0)) f.once.0, (may.new, f.once.1))
    (λ x. ⊎_elim (λ e. omega (arith, may.process.1)) (λ i. (f.within x i).0)) in
    omega (arith, passed_length rank bar q)

-- ---- the walk
-- up to `at` all are of rank `bar` or higher, `gone` of them; of P the others may follow
pub record Walk (P : ℕ) (rank : ℕ → ℕ) (bar : ℕ) (q : List ℕ) (at gone : ℕ) : Type 0 where
  pub rest : List ℕ
  pub once : Distinct (at ∷ rest)
  pub none : Out 0 rest
  pub within : (x : ℕ) → In x (at ∷ rest) → In x (0 ∷ q)
  pub follows : (y : ℕ) → In y (at ∷ rest) → next q y ≡ next_from at rest y
  pub back : (p a : ℕ) → Puts p at a rest (enter rank bar p rest) → Puts p 0 a q (enter rank bar p q)
  pub count : passed rank bar q ≡ gone + passed rank bar rest
  pub short : gone + length rest ≤ P

pub walk_begins : {P : ℕ} {named : ℕ → ℕ} (rank : ℕ → ℕ) (bar : ℕ) {q : List ℕ} → RunningFits P named q → Walk P rank bar q 0 0
walk_begins {P} {named} rank bar {q} fits =
    record {
      rest = q;
      once = fits.once;
      none = fits.once.0;
      within = λ x i. i;
      follows = λ y i. refl;
      back = λ p a h. h;
      count = omega arith;
      short = omega (arith, within_few P q fits.once (λ x i. (fits.within x i).0));
    }

module _ {P bar at gone : ℕ} {rank : ℕ → ℕ} {q : List ℕ} (k : Walk P rank bar q at gone) where
  pub walk_follows : next q at ≡ head k.rest
  walk_follows = k.follows at (inl refl) ∙ first_is at k.rest

  -- p enters here where nobody follows, or one of lower rank does
  pub walk_ends : next q at ≡ 0 → EntersAt rank bar q at 0 gone
  unfolding enter passed
  walk_ends e =
      let r : k.rest ≡ [] = none k.rest k.none (sym walk_follows ∙ e) in
      record {
        puts = λ p. k.back p at (rw r here);
        follows = sym e;
        passes = (let c : passed rank bar q ≡ gone + 0 = rw r at k.count in omega arith);
      }
    where
      none : (r : List ℕ) → Out 0 r → head r ≡ 0 → r ≡ []
      none [] o h = refl
      none (c ∷ r) o h = absurd (o (inl (sym h)))

  module _ {n : ℕ} (e : n ≡ next q at) (some : n ≡ 0 → ⊥) where
    pub walk_stops : rank n < bar → EntersAt rank bar q at n gone
    unfolding enter passed
    walk_stops lower = go k.rest (λ p. k.back p at) k.count (e ∙ walk_follows)
      where
        go : (r : List ℕ) → ((p : ℕ) → Puts p at at r (enter rank bar p r) → Puts p 0 at q (enter rank bar p q))
            → passed rank bar q ≡ gone + passed rank bar r → n ≡ head r → EntersAt rank bar q at n gone
        go [] back count h = absurd (some h)
        go (c ∷ r) back count h =
            let l = lt-leb bar (rank c) (rw h at lower) in
            record { puts = λ p. back p (rw l here); follows = e; passes = (let s : passed rank bar q ≡ gone + 0 = rw l at count in omega arith) }

    pub walk_goes : bar ≤ rank n → Walk P rank bar q n (gone + 1)
    unfolding enter passed
    walk_goes higher = go k.rest k.once k.none k.within k.follows k.back k.count k.short (e ∙ walk_follows)
      where
        go : (r : List ℕ) → Distinct (at ∷ r) → Out 0 r → ((x : ℕ) → In x (at ∷ r) → In x (0 ∷ q)) → ((y : ℕ) → In y (at ∷ r) → next q y ≡ next_from at r y)
            → ((p a : ℕ) → Puts p at a r (enter rank bar p r) → Puts p 0 a q (enter rank bar p q)) → passed rank bar q ≡ gone + passed rank bar r
            → gone + length r ≤ P → n ≡ head r → Walk P rank bar q n (gone + 1)
        go [] once none within follows back count short h = absurd (some h)
        go (c ∷ r) once none within follows back count short h =
            rw h
            (record {
              rest = r;
              once = once.1;
              none = λ i. none (inr i);
              within = λ x i. within x (inr i);
              follows = λ y i. follows y (inr i) ∙ no_same at y _ _ (out_in at y (c ∷ r) once.0 i);
              back = λ p a puts. back p a (rw (le-leb bar (rank c) (rw h at higher)) (later puts));
              count = (let s : passed rank bar q ≡ gone + suc (passed rank bar r) = rw (le-leb bar (rank c) (rw h at higher)) at count in omega arith);
              short = omega arith;
            })

-- who follows in the running queue may be asked for its priority
pub may_ask : (m : Machine) (at : ℕ) {n : ℕ} → MayWalk m → n ≡ next m.running at → (n ≡ 0 → ⊥) → ProcessWord n 9 m
may_ask m at may e some =
    ((omega arith, rw e (next_all (λ (x : ℕ). x ≤ m.P) 0 m.running at (omega arith) (λ x i. (may.within x i).0))), omega arith, omega arith)
