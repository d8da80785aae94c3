-- A function changed at one number; queues as lists: a number put in, a number taken out. Assumes nothing.
use Prim.Native.Nat.{ℕ, suc, ◌+◌, ◌≤◌, ◌<◌}
use native.Mathlib.Omega.{arith}
use mathlib.Core.Bool.{Bool, true, false}
use mathlib.Core.List.{List, [], ◌∷◌, ◌++◌}
use mathlib.Core.Logic.{◌⊎◌, inl, inr, ⊎_elim}
use mathlib.Core.Path.{◌≡◌, refl, sym, ap, ◌∙◌}
use lib.ListN.{length}
use lib.Dec.{eqb, leb}
use borrow.Author.Tests.{eq-eqb, ne_eqb, eqb-true, eqb-false, le-leb, lt-leb, leb-true, leb-false}
use Rattle.machine.specs.Queue.{at, without, enter, In, Out, Distinct, Exact, Falls}
use Rattle.machine.specs.Machine.{where_field, at₂}
use Rattle.lists.proofs.Tests.{either}
use Rattle.lists.proofs.Links.{yes_same, refl_same, no_same, cases}

-- f changed at n to v: by cases
pub at_all : {A : Type 0} (C : A → Type 0) (f : ℕ → A) (n : ℕ) (v : A) (k : ℕ) → (k ≡ n → C v) → ((k ≡ n → ⊥) → C (f k)) → C (at f n v k)
at_all C f n v k y z = cases k n (λ e. rw (yes_same k n) (y e)) (λ h. rw (no_same k n) (z h))

-- a function of record and word number, changed at one: there, and elsewhere
pub field_here : (f : ℕ → ℕ → ℕ) (n j v : ℕ) → at₂ f n j v n j ≡ v
field_here f n j v = rw (eq-eqb j j refl) (refl_same n v (f n j))

pub field_else : (f : ℕ → ℕ → ℕ) (n j v k i : ℕ) → (k ≡ n → i ≡ j → ⊥) → at₂ f n j v k i ≡ f k i
field_else f n j v k i h = go (eqb i j) refl
  where
    go : (b : Bool) → eqb i j ≡ b → where_field b k n v (f k i) ≡ f k i
    go true e = no_same k n v (f k i) (λ z. h z (eqb-true i j e))
    go false e = refl

-- ---- a number put in
-- r is q with x put in
pub data Put (x : ℕ) : List ℕ → List ℕ → Type 0 where
  now : {q : List ℕ} → Put x q (x ∷ q)
  later : {a : ℕ} {q r : List ℕ} → Put x q r → Put x (a ∷ q) (a ∷ r)

pub put_last : (x : ℕ) (q : List ℕ) → Put x q (q ++ (x ∷ []))
put_last x [] = now
put_last x (a ∷ q) = later (put_last x q)

pub put_enter : (rank : ℕ → ℕ) (bar x : ℕ) (q : List ℕ) → Put x q (enter rank bar x q)
unfolding enter
put_enter rank bar x [] = now
put_enter rank bar x (a ∷ q) = either (Put x (a ∷ q)) (leb bar (rank a)) (λ e. later (put_enter rank bar x q)) (λ e. now)

pub put_in : {x y : ℕ} {q r : List ℕ} → Put x q r → In y r → (y ≡ x) ⊎ In y q
put_in now i = i
put_in (later p) (inl e) = inr (inl e)
put_in (later p) (inr i) = ⊎_elim inl (λ j. inr (inr j)) (put_in p i)

pub put_self : {x : ℕ} {q r : List ℕ} → Put x q r → In x r
put_self now = inl refl
put_self (later p) = inr (put_self p)

pub put_old : {x : ℕ} {q r : List ℕ} → Put x q r → (y : ℕ) → In y q → In y r
put_old now y i = inr i
put_old (later p) y (inl e) = inl e
put_old (later p) y (inr i) = inr (put_old p y i)

put_once : {x : ℕ} {q r : List ℕ} → Put x q r → (In x q → ⊥) → Distinct q → Distinct r
put_once now n d = (n, d)
put_once (later p) n d = (λ i. ⊎_elim (λ e. n (inl (sym e))) d.0 (put_in p i), put_once p (λ i. n (inr i)) d.1)

-- behind its equals, or in front of them
pub falls_enter : (rank : ℕ → ℕ) (bar x : ℕ) → rank x ≤ bar → bar ≤ rank x + 1 → (q : List ℕ) → Falls rank q → Falls rank (enter rank bar x q)
unfolding enter
falls_enter rank bar x l u [] f = (λ y i. absurd i, tt)
falls_enter rank bar x l u (a ∷ q) f =
    either (Falls rank) (leb bar (rank a))
    (λ t.
    (λ y i. ⊎_elim (λ e. rw e (omega (arith, leb-true bar (rank a) t))) (f.0 y) (put_in (put_enter rank bar x q) i), falls_enter rank bar x l u q f.1))
    (λ t. (λ y i. ⊎_elim (λ e. rw e (omega (arith, leb-false bar (rank a) t))) (λ j. omega (arith, leb-false bar (rank a) t, f.0 y j)) i, f))

-- ---- a number taken out
pub in_without : (x y : ℕ) (q : List ℕ) → In y (without x q) → (y ≡ x → ⊥) × In y q
unfolding without
in_without x y [] = λ i. absurd i
in_without x y (a ∷ q) =
    let h : In y (without x q) → (y ≡ x → ⊥) × In y (a ∷ q) = λ i. ((in_without x y q i).0, inr (in_without x y q i).1) in
    either (λ (r : List ℕ). In y r → (y ≡ x → ⊥) × In y (a ∷ q)) (eqb x a)
    (λ t. h)
    (λ t. ⊎_elim (λ e. (λ k. eqb-false x a t (sym k ∙ e), inl e)) h)

pub without_in : (x y : ℕ) (q : List ℕ) → (y ≡ x → ⊥) → In y q → In y (without x q)
unfolding without
without_in x y [] n i = i
without_in x y (a ∷ q) n i =
    either (In y) (eqb x a)
    (λ t. ⊎_elim (λ e. absurd (n (e ∙ sym (eqb-true x a t)))) (without_in x y q n) i)
    (λ t. ⊎_elim inl (λ j. inr (without_in x y q n j)) i)

pub without_once : (x : ℕ) (q : List ℕ) → Distinct q → Distinct (without x q)
unfolding without
without_once x [] d = tt
without_once x (a ∷ q) d =
    either Distinct (eqb x a)
    (λ t. without_once x q d.1)
    (λ t. (λ i. d.0 (in_without x a q i).1, without_once x q d.1))

pub falls_without : (rank : ℕ → ℕ) (x : ℕ) (q : List ℕ) → Falls rank q → Falls rank (without x q)
unfolding without
falls_without rank x [] f = tt
falls_without rank x (a ∷ q) f =
    either (Falls rank) (eqb x a)
    (λ t. falls_without rank x q f.1)
    (λ t. (λ y i. f.0 y (in_without x y q i).1, falls_without rank x q f.1))

-- q without a number that isn't in it
without_none : (x : ℕ) (q : List ℕ) → (In x q → ⊥) → without x q ≡ q
unfolding without
without_none x [] o = refl
without_none x (a ∷ q) o = rw (ne_eqb x a (λ e. o (inl e)), without_none x q (λ i. o (inr i)))

-- in front of all that rank below it
enter_front : (rank : ℕ → ℕ) (x : ℕ) (q : List ℕ) → ((y : ℕ) → In y q → rank y < rank x) → enter rank (rank x) x q ≡ x ∷ q
unfolding enter
enter_front rank x [] h = refl
enter_front rank x (a ∷ q) h = rw (lt-leb (rank x) (rank a) (h a (inl refl)))

-- one that has no equal leaves and enters again: where it was
pub enter_again : (rank : ℕ → ℕ) (x : ℕ) (q : List ℕ) → Falls rank q → Distinct q → In x q → ((y : ℕ) → In y q → rank y ≡ rank x → y ≡ x)
    → enter rank (rank x) x (without x q) ≡ q
unfolding enter without
enter_again rank x [] f d i alone = absurd i
enter_again rank x (a ∷ q) f d i alone =
    cases x a
    (λ e. (let below : (y : ℕ) → In y q → rank y < rank x
    = λ y j. (let n : rank y ≡ rank x → ⊥ = λ k. d.0 (rw (sym e ∙ sym (alone y (inr j) k)) j) in
    let l : rank y ≤ rank x = rw e (f.0 y j) in omega arith) in
    rw (eq-eqb x a e, without_none x q (rw e d.0), enter_front rank x q below, e)))
    (λ n. (let j : In x q = ⊎_elim (λ e. absurd (n e)) (λ j. j) i in
    rw (ne_eqb x a n, le-leb (rank x) (rank a) (f.0 x j), enter_again rank x q f.1 d.1 j (λ y k. alone y (inr k)))))

-- ---- how long
pub put_length : {x : ℕ} {q r : List ℕ} → Put x q r → length r ≡ suc (length q)
put_length now = omega arith
put_length (later p) = omega (arith, put_length p)

without_length : (x : ℕ) (q : List ℕ) → length (without x q) ≤ length q
unfolding without
without_length x [] = omega arith
without_length x (a ∷ q) = either (λ (r : List ℕ). length r ≤ suc (length q)) (eqb x a) (λ t. omega (arith, without_length x q))
    (λ t. omega (arith, without_length x q))

-- one that isn't there leaves nothing out
pub without_out : (x : ℕ) (q : List ℕ) → Out x q → without x q ≡ q
unfolding without
without_out x [] o = refl
without_out x (a ∷ q) o = rw (ne_eqb x a (λ e. o (inl e))) (ap (λ (l : List ℕ). a ∷ l) (without_out x q (λ i. o (inr i))))

pub without_less : (x : ℕ) (q : List ℕ) → In x q → length (without x q) < length q
unfolding without
without_less x [] i = absurd i
without_less x (a ∷ q) i =
    either (λ (r : List ℕ). length r < suc (length q)) (eqb x a)
    (λ t. omega (arith, without_length x q))
    (λ t. ⊎_elim (λ e. absurd (eqb-false x a t e)) (λ j. omega (arith, without_less x q j)) i)

pub without_one : (x : ℕ) (q : List ℕ) → Distinct q → In x q → length q ≡ suc (length (without x q))
unfolding without
without_one x [] d i = absurd i
without_one x (a ∷ q) d i =
    either (λ (r : List ℕ). suc (length q) ≡ suc (length r)) (eqb x a)
    (λ t. ap (λ (r : List ℕ). suc (length r)) (sym (without_out x q (rw (eqb-true x a t) d.0))))
    (λ t. ap suc (without_one x q d.1 (⊎_elim (λ e. absurd (eqb-false x a t e)) (λ j. j) i)))

-- a queue is no longer than one that holds all of it
pub no_longer : (q r : List ℕ) → Distinct q → ((x : ℕ) → In x q → In x r) → length q ≤ length r
no_longer [] r d h = omega arith
no_longer (a ∷ q) r d h =
    omega (arith, without_less a r (h a (inl refl)), no_longer q (without a r) d.1 (λ x i. without_in a x r (λ e. d.0 (rw e at i)) (h x (inr i))))

-- and one that holds all of another, and is no shorter, has nothing else
pub all_in : (q r : List ℕ) → Distinct q → ((x : ℕ) → In x q → In x r) → length r ≤ length q → (y : ℕ) → In y r → In y q
all_in [] [] d h l y i = i
all_in [] (b ∷ r) d h l y i = absurd (omega arith)
all_in (a ∷ q) r d h l y i =
    cases y a inl (λ n. inr (all_in q (without a r) d.1 (λ x j. without_in a x r (λ e. d.0 (rw e at j)) (h x (inr j)))
    (omega (arith, without_less a r (h a (inl refl)))) y (without_in a y r n i)))

-- ---- exactly
-- C and D differ at most at x
pub record Beside (x : ℕ) (C D : ℕ → Type 0) : Type 0 where
  pub to : (y : ℕ) → (y ≡ x → ⊥) → C y → D y
  pub from : (y : ℕ) → (y ≡ x → ⊥) → D y → C y

module _ {C D : ℕ → Type 0} {x : ℕ} {q : List ℕ} (b : Beside x C D) (e : Exact C q) where
  pub exact_put : {r : List ℕ} → Put x q r → (C x → ⊥) → D x → Exact D r
  exact_put p n d =
      record {
        once = put_once p (λ i. n (e.only x i)) e.once;
        only = λ y i. cases y x (λ k. rw k d) (λ k. b.to y k (⊎_elim (λ j. absurd (k j)) (e.only y) (put_in p i)));
        every = λ y c. cases y x (λ k. rw k (put_self p)) (λ k. put_old p y (e.every y (b.from y k c)));
      }

  pub exact_take : (D x → ⊥) → Exact D (without x q)
  exact_take n =
      record {
        once = without_once x q e.once;
        only = λ y i. b.to y (in_without x y q i).0 (e.only y (in_without x y q i).1);
        every = λ y c. cases y x (λ k. absurd (n (rw k at c))) (λ k. without_in x y q k (e.every y (b.from y k c)));
      }

  -- x in both or in neither
  pub exact_keep : (C x → D x) → (D x → C x) → Exact D q
  exact_keep f g =
      record {
        once = e.once;
        only = λ y i. cases y x (λ k. rw k (f (rw k at (e.only y i)))) (λ k. b.to y k (e.only y i));
        every = λ y c. cases y x (λ k. rw k (rw k at (e.every y (rw k (g (rw k at c)))))) (λ k. e.every y (b.from y k c));
      }
