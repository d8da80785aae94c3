-- A queue linked by walking is linked as its list says, and conversely; and what is linked has nobody twice. Assumes nothing.
use Prim.Native.Nat.{ℕ, ◌≤◌}
use native.Mathlib.Omega.{arith}
use native.Mathlib.Decide.{ℕ_discrete}
use mathlib.Core.Bool.{Bool}
use mathlib.Core.Logic.{inl, inr, ⊎_elim}
use mathlib.Core.List.{List, [], ◌∷◌}
use mathlib.Core.Path.{◌≡◌, refl, sym, ap, subst, ◌∙◌}
use lib.ListN.{length}
use borrow.Author.Tests.{eq-eqb, ne_eqb}
use Rattle.machine.specs.Queue.{if, same, In, Out, Distinct, Exact, Linked, head, last_from, next_from, previous_from}

pub yes_same : {A : Type 0} (x y : ℕ) (a b : A) → x ≡ y → same x y a b ≡ a
unfolding same
yes_same x y a b e = ap (λ (t : Bool). if t a b) (eq-eqb x y e)

pub no_same : {A : Type 0} (x y : ℕ) (a b : A) → (x ≡ y → ⊥) → same x y a b ≡ b
unfolding same
no_same x y a b h = ap (λ (t : Bool). if t a b) (ne_eqb x y h)

pub refl_same : {A : Type 0} (x : ℕ) (a b : A) → same x x a b ≡ a
refl_same x a b = yes_same x x a b refl

pub no_same' : {A : Type 0} (x y : ℕ) (a b : A) → (y ≡ x → ⊥) → same x y a b ≡ b
no_same' x y a b h = no_same x y a b (λ e. h (sym e))

-- decides each `same` whose numbers are one, or are told apart by a hypothesis
pub ruleset decide = (refl_same, no_same, no_same')

pub cases : {C : Type 0} (x y : ℕ) → (x ≡ y → C) → ((x ≡ y → ⊥) → C) → C
cases {C} x y f g = go (ℕ_discrete x y)
  where
    go : Dec (x ≡ y) → C
    go (yes e) = f e
    go (no h) = g h

-- ---- of a list's links
pub first_is : (z : ℕ) (q : List ℕ) → next_from z q z ≡ head q
first_is z [] = refl
first_is z (a ∷ q) = yes_same z z _ _ refl

pub last_is : (z : ℕ) (q : List ℕ) → Out 0 q → previous_from z q 0 ≡ last_from z q
last_is z [] o = yes_same 0 0 _ _ refl
last_is z (a ∷ q) o = no_same a 0 _ _ (λ e. o (inl (sym e))) ∙ last_is a q (λ i. o (inr i))

-- what isn't there has no links
pub next_out : (z : ℕ) (q : List ℕ) (x : ℕ) → (x ≡ z → ⊥) → Out x q → next_from z q x ≡ 0
next_out z [] x h o = refl
next_out z (a ∷ q) x h o = no_same z x _ _ (λ e. h (sym e)) ∙ next_out a q x (λ e. o (inl e)) (λ i. o (inr i))

pub previous_out : (z : ℕ) (q : List ℕ) (x : ℕ) → (x ≡ 0 → ⊥) → Out x q → previous_from z q x ≡ 0
previous_out z [] x h o = no_same 0 x _ _ (λ e. h (sym e))
previous_out z (a ∷ q) x h o = no_same a x _ _ (λ e. o (inl (sym e))) ∙ previous_out a q x h (λ i. o (inr i))

-- not the one, but in the rest
pub out_in : (a x : ℕ) (q : List ℕ) → Out a q → In x q → a ≡ x → ⊥
out_in a x q o i e = o (subst (λ (y : ℕ). In y q) (sym e) i)

-- ---- by one link: f leads from each to the one behind it, and from the last to 0
abbrev pub LinkedBy : (ℕ → ℕ) → List ℕ → Type 0
LinkedBy f [] = Unit {0}
LinkedBy f (x ∷ s) = (f x ≡ head s) × LinkedBy f s

module _ (f : ℕ → ℕ) where
  by_unique : (s t : List ℕ) → LinkedBy f s → LinkedBy f t → Out 0 s → Out 0 t → head s ≡ head t → s ≡ t
  by_unique [] [] a b oa ob e = refl
  by_unique [] (y ∷ t) a b oa ob e = absurd (ob (inl e))
  by_unique (x ∷ s) [] a b oa ob e = absurd (oa (inl (sym e)))
  by_unique (x ∷ s) (y ∷ t) a b oa ob e =
      let h : head s ≡ head t = sym a.0 ∙ ap f e ∙ b.0 in
      let g : s ≡ t = by_unique s t a.1 b.1 (λ i. oa (inr i)) (λ i. ob (inr i)) h in
      cc

  -- from one of them on
  by_from : (x : ℕ) (s : List ℕ) → In x s → LinkedBy f s → Out 0 s → (t : List ℕ) × (length t ≤ length s) × (head t ≡ x) × LinkedBy f t × Out 0 t
  by_from x [] i a o = absurd i
  by_from x (y ∷ s) i a o =
      ⊎_elim
      (λ e. (y ∷ s, omega arith, sym e, a, o))
      (λ j. (let r = by_from x s j a.1 (λ k. o (inr k)) in (r.0, omega (arith, r.1), r.2, r.3, r.4)))
      i

  -- so none comes up twice
  pub by_new : (x : ℕ) (s : List ℕ) → LinkedBy f (x ∷ s) → Out 0 (x ∷ s) → Out x s
  by_new x s a o i =
      let r = by_from x s i a.1 (λ k. o (inr k)) in
      let e = by_unique (x ∷ s) r.0 a r.3 o r.4 (sym r.2) in
      omega (arith, ap length e, r.1)

  pub by_once : (s : List ℕ) → LinkedBy f s → Out 0 s → Distinct s
  by_once [] a o = tt
  by_once (x ∷ s) a o = (by_new x s a o, by_once s a.1 (λ i. o (inr i)))

-- ---- walking, and the list
-- next and previous are those of the list z, q, 0, at the numbers of q, and at its ends
pub record AsListed (nx pv : ℕ → ℕ) (first z : ℕ) (q : List ℕ) (last : ℕ) : Type 0 where
  pub first_of : first ≡ head q
  pub last_of : last ≡ last_from z q
  pub next_of : (x : ℕ) → In x q → nx x ≡ next_from z q x
  pub previous_of : (x : ℕ) → In x q → pv x ≡ previous_from z q x

module _ (nx pv : ℕ → ℕ) where
  pub linked_as_listed : (first z : ℕ) (q : List ℕ) (last : ℕ) → Distinct (z ∷ q) → Linked nx pv first z q last → AsListed nx pv first z q last
  unfolding Linked
  linked_as_listed first z [] last d l = record { first_of = l.0; last_of = sym l.1; next_of = λ x i. absurd i; previous_of = λ x i. absurd i }
  linked_as_listed first z (a ∷ q) last d l =
      let r = linked_as_listed (nx a) a q last d.1 l.2 in
      record {
        first_of = l.0;
        last_of = r.last_of;
        next_of = λ x i. ⊎_elim
            (λ e. rw e (r.first_of ∙ sym (no_same z a _ _ (λ k. d.0 (inl k)) ∙ first_is a q)))
            (λ j. r.next_of x j ∙ sym (no_same z x _ _ (out_in z x (a ∷ q) d.0 (inr j)))) i;
        previous_of = λ x i. ⊎_elim
            (λ e. rw e (l.1 ∙ sym (yes_same a a _ _ refl)))
            (λ j. r.previous_of x j ∙ sym (no_same a x _ _ (out_in a x q d.1.0 j))) i;
      }

  pub as_listed_linked : (first z : ℕ) (q : List ℕ) (last : ℕ) → Distinct (z ∷ q) → AsListed nx pv first z q last → Linked nx pv first z q last
  unfolding Linked
  as_listed_linked first z [] last d r = (r.first_of, sym r.last_of)
  as_listed_linked first z (a ∷ q) last d r = (
    r.first_of,
    r.previous_of a (inl refl) ∙ yes_same a a _ _ refl,
    as_listed_linked (nx a) a q last d.1 (record {
      first_of = r.next_of a (inl refl) ∙ no_same z a _ _ (λ k. d.0 (inl k)) ∙ first_is a q;
      last_of = r.last_of;
      next_of = λ x j. r.next_of x (inr j) ∙ no_same z x _ _ (out_in z x (a ∷ q) d.0 (inr j));
      previous_of = λ x j. r.previous_of x (inr j) ∙ no_same a x _ _ (out_in a x q d.1.0 j);
    }),
  )

  linked_by : (first z : ℕ) (q : List ℕ) (last : ℕ) → Linked nx pv first z q last → (first ≡ head q) × LinkedBy nx q
  unfolding Linked
  linked_by first z [] last l = (l.0, tt)
  linked_by first z (a ∷ q) last l = (l.0, linked_by (nx a) a q last l.2)

  -- the links determine the queue, and nobody is in it twice
  pub linked_unique : (first b c : ℕ) (q r : List ℕ) (l k : ℕ) → Linked nx pv first b q l → Linked nx pv first c r k → Out 0 q → Out 0 r → q ≡ r
  linked_unique first b c q r l k lq lr oq or =
      let x = linked_by first b q l lq in
      let y = linked_by first c r k lr in
      by_unique nx q r x.1 y.1 oq or (sym x.0 ∙ y.0)

  pub linked_once : (first b : ℕ) (q : List ℕ) (l : ℕ) → Linked nx pv first b q l → Out 0 q → Distinct q
  linked_once first b q l lq o = by_once nx q (linked_by first b q l lq).1 o

pub exact_same : {C D : ℕ → Type 0} {q : List ℕ} → ((x : ℕ) → C x → D x) → ((x : ℕ) → D x → C x) → Exact C q → Exact D q
exact_same f g e = record { once = e.once; only = λ x i. f x (e.only x i); every = λ x d. e.every x (g x d) }
