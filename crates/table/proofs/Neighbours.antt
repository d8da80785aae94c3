-- What follows and what stands before a number in a queue, after a number is put in or taken out. Assumes nothing.
use Prim.Native.Nat.{ℕ}
use mathlib.Core.Bool.{Bool}
use mathlib.Core.Logic.{inl, inr, ⊎_elim}
use mathlib.Core.List.{List, [], ◌∷◌, ◌++◌}
use mathlib.Core.Path.{◌≡◌, refl, sym, ap, ◌∙◌}
use borrow.Author.Tests.{eq-eqb, ne_eqb}
use Rattle.machine.specs.Queue.{if, same, In, Out, Distinct, head, previous, last_from, next_from, previous_from, without}
use Rattle.lists.proofs.Links.{yes_same, no_same, refl_same, decide, cases, first_is, next_out, previous_out, out_in}
use Rattle.table.specs.Links.{Puts, here, later}

-- where the walk starts doesn't matter to another number
start_next : (z x : ℕ) (q : List ℕ) (y : ℕ) → (y ≡ z → ⊥) → (y ≡ x → ⊥) → next_from z q y ≡ next_from x q y
start_next z x [] y h k = refl
start_next z x (a ∷ q) y h k = no_same z y _ _ (λ e. h (sym e)) ∙ sym (no_same x y _ _ (λ e. k (sym e)))

-- the neighbours of a number of the queue are of the queue, or its ends
previous_not : (z a x : ℕ) (q : List ℕ) → (z ≡ a → ⊥) → Out z q → In x q → z ≡ previous_from a q x → ⊥
previous_not z a x (b ∷ q) h o i =
    cases b x
    (λ e. rw (yes_same b x _ _ e) h)
    (λ n. rw (no_same b x _ _ n) (previous_not z b x q (λ e. o (inl e)) (λ j. o (inr j)) (⊎_elim (λ e. absurd (n (sym e))) (λ j. j) i)))
previous_not z a x [] h o i = absurd i

next_not : (z a x : ℕ) (q : List ℕ) → (z ≡ 0 → ⊥) → Out z q → z ≡ next_from a q x → ⊥
next_not z a x [] h o = h
next_not z a x (b ∷ q) h o =
    cases a x
    (λ e. rw (yes_same a x _ _ e) (λ k. o (inl k)))
    (λ n. rw (no_same a x _ _ n) (next_not z b x q h (λ j. o (inr j))))

-- what holds of 0 and of the queue holds of its neighbours
pub next_all : (C : ℕ → Type 0) (z : ℕ) (q : List ℕ) (x : ℕ) → C 0 → ((y : ℕ) → In y q → C y) → C (next_from z q x)
next_all C z [] x c h = c
next_all C z (a ∷ q) x c h =
    cases z x (λ e. rw (yes_same z x) (h a (inl refl))) (λ n. rw (no_same z x) (next_all C a q x c (λ y i. h y (inr i))))

pub previous_all : (C : ℕ → Type 0) (z : ℕ) (q : List ℕ) (x : ℕ) → C 0 → C z → ((y : ℕ) → In y q → C y) → C (previous_from z q x)
previous_all C z [] x c k h = cases 0 x (λ e. rw (yes_same 0 x) k) (λ n. rw (no_same 0 x) c)
previous_all C z (a ∷ q) x c k h =
    cases a x (λ e. rw (yes_same a x) k) (λ n. rw (no_same a x) (previous_all C a q x c (h a (inl refl)) (λ y i. h y (inr i))))

-- before the first stands nobody
pub previous_first : (x : ℕ) (q : List ℕ) → In x q → x ≡ head q → 0 ≡ previous q x
previous_first x [] i e = absurd i
previous_first x (a ∷ q) i e = sym (yes_same a x _ _ (sym e))

-- ---- taking out
pub without_same : (x a : ℕ) (q : List ℕ) → x ≡ a → without x (a ∷ q) ≡ without x q
unfolding without
without_same x a q e = ap (λ (t : Bool). if t (without x q) (a ∷ without x q)) (eq-eqb x a e)

pub without_other : (x a : ℕ) (q : List ℕ) → (x ≡ a → ⊥) → without x (a ∷ q) ≡ a ∷ without x q
unfolding without
without_other x a q n = ap (λ (t : Bool). if t (without x q) (a ∷ without x q)) (ne_eqb x a n)

pub without_out : (x : ℕ) (q : List ℕ) → Out x q → without x q ≡ q
unfolding without
without_out x [] o = refl
without_out x (a ∷ q) o = without_other x a q (λ e. o (inl e)) ∙ ap (λ (r : List ℕ). a ∷ r) (without_out x q (λ i. o (inr i)))

pub without_here : (x : ℕ) (q : List ℕ) → Out x q → without x (x ∷ q) ≡ q
without_here x q o = without_same x x q refl ∙ without_out x q o

pub next_take : (z x : ℕ) (q : List ℕ) (y : ℕ) → Distinct (z ∷ q) → In x q
    → next_from z (without x q) y ≡ same y x 0 (same y (previous_from z q x) (next_from z q x) (next_from z q y))
next_take z x [] y d i = absurd i
next_take z x (a ∷ q) y d i =
    ⊎_elim
    (λ (e : x ≡ a).
    let za : z ≡ a → ⊥ = λ k. d.0 (inl k) in
    rw (e, without_here a q d.1.0, refl_same a z, no_same z a _ _ za, first_is a q)
    (cases y a
    (λ e. rw e (simp decide (next_out z q a (λ k. za (sym k)) d.1.0)))
    (λ ya. cases y z
    (λ e. rw e (simp decide (first_is z q)))
    (λ yz. simp decide (start_next z a q y yz ya)))))
    (λ (j : In x q).
    let ax = out_in a x q d.1.0 j in
    let zx = out_in z x (a ∷ q) d.0 (inr j) in
    let zu = previous_not z a x q (λ k. d.0 (inl k)) (λ k. d.0 (inr k)) j in
    rw (without_other x a q (λ k. ax (sym k)))
    (simp decide
    (cases y z
    (λ e. rw e (simp decide))
    (λ yz. simp decide (next_take a x q y d.1 j)))))
    i

pub previous_take : (z x : ℕ) (q : List ℕ) (y : ℕ) → (z ≡ x → ⊥) → Distinct (0 ∷ q) → In x q
    → previous_from z (without x q) y ≡ same y x 0 (same y (next_from z q x) (previous_from z q x) (previous_from z q y))
previous_take z x [] y zx d i = absurd i
previous_take z x (a ∷ q) y zx d i =
    ⊎_elim
    (λ (e : x ≡ a). rw (e, without_here a q d.1.0) (front q (rw e at zx) (λ k. d.0 (inl (sym k))) d.1.0 (λ k. d.0 (inr k))))
    (λ (j : In x q).
    let ax = out_in a x q d.1.0 j in
    let av = next_not a a x q (λ k. d.0 (inl (sym k))) d.1.0 in
    rw (without_other x a q (λ k. ax (sym k)))
    (simp decide
    (cases y a
    (λ e. rw e (simp decide))
    (λ ya. simp decide (previous_take a x q y ax ((λ k. d.0 (inr k)), d.1.1) j)))))
    i
  where
    front : (q : List ℕ) → (z ≡ a → ⊥) → (a ≡ 0 → ⊥) → Out a q → Out 0 q
        → previous_from z q y ≡ same y a 0 (same y (next_from z (a ∷ q) a) (previous_from z (a ∷ q) a) (previous_from z (a ∷ q) y))
    front [] za a0 o o0 =
        simp decide
        (cases y a
        (λ e. rw e (simp decide))
        (λ ya. cases y 0
        (λ e. rw e (simp decide))
        (λ y0. simp decide)))
    front (b ∷ q) za a0 o o0 =
        let ab : a ≡ b → ⊥ = λ k. o (inl k) in
        simp decide
        (cases y a
        (λ e. rw e (simp decide (previous_out b q a a0 (λ k. o (inr k)))))
        (λ ya. cases y b
        (λ e. rw e (simp decide))
        (λ yb. simp decide)))

-- ---- putting in
pub puts_in : {x z a : ℕ} {q r : List ℕ} → Puts x z a q r → In a (z ∷ q)
puts_in here = inl refl
puts_in (later p) = inr (puts_in p)

pub next_put : (x z a : ℕ) (q r : List ℕ) (y : ℕ) → Puts x z a q r → Distinct (z ∷ q) → Out x (z ∷ q)
    → next_from z r y ≡ same y x (next_from z q a) (same y a x (next_from z q y))
next_put x z a q r y here d o =
    let zx : z ≡ x → ⊥ = λ e. o (inl (sym e)) in
    cases y x
    (λ e. rw e (simp decide (first_is x q ∙ sym (first_is z q))))
    (λ yx. cases y z
    (λ e. rw e (simp decide))
    (λ yz. simp decide (start_next x z q y yx yz)))
next_put x z a (c ∷ q) r y (later p) d o =
    let za = out_in z a (c ∷ q) d.0 (puts_in p) in
    let zx : z ≡ x → ⊥ = λ e. o (inl (sym e)) in
    cases y z
    (λ e. rw e (simp decide))
    (λ yz. simp decide (next_put x c a q _ y p d.1 (λ i. o (inr i))))

pub previous_put : (x z a : ℕ) (q r : List ℕ) (y : ℕ) → Puts x z a q r → Distinct (z ∷ q) → Out 0 q → Out x q → (x ≡ 0 → ⊥)
    → previous_from z r y ≡ same y (next_from z q a) x (same y x a (previous_from z q y))
previous_put x z a [] r y here d o₀ o x₀ =
    cases y x
    (λ e. rw e (simp decide))
    (λ yx. cases y 0
    (λ e. rw e (simp decide))
    (λ y₀. simp decide))
previous_put x z a (c ∷ q) r y here d o₀ o x₀ =
    let xc : x ≡ c → ⊥ = λ e. o (inl e) in
    cases y x
    (λ e. rw e (simp decide))
    (λ yx. cases y c
    (λ e. rw e (simp decide))
    (λ yc. simp decide))
previous_put x z a (c ∷ q) r y (later p) d o₀ o x₀ =
    let za = out_in z a (c ∷ q) d.0 (puts_in p) in
    let c₀ : c ≡ 0 → ⊥ = λ e. o₀ (inl (sym e)) in
    let cx : c ≡ x → ⊥ = λ e. o (inl (sym e)) in
    let cn = next_not c c a q c₀ d.1.0 in
    cases y c
    (λ e. rw e (simp decide))
    (λ yc. simp decide (previous_put x c a q _ y p d.1 (λ i. o₀ (inr i)) (λ i. o (inr i)) x₀))

-- last in a queue
pub puts_last : (x z : ℕ) (q : List ℕ) → Puts x z (last_from z q) q (q ++ (x ∷ []))
puts_last x z [] = here
puts_last x z (c ∷ q) = later (puts_last x c q)

-- behind the last stands nobody
pub next_last : (z : ℕ) (q : List ℕ) → Distinct (z ∷ q) → next_from z q (last_from z q) ≡ 0
next_last z [] d = refl
next_last z (c ∷ q) d = no_same z (last_from c q) _ _ (out_in z (last_from c q) (c ∷ q) d.0 (puts_in (puts_last 0 c q))) ∙ next_last c q d.1
