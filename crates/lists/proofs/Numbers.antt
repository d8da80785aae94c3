-- Lists of numbers: the first, those from a on, those kept by a test, how many there can be, what a fold over them keeps, and numbers stored one
-- behind the other. Assumes nothing.
use Prim.Native.Nat.{ℕ, zero, suc, ◌+◌, ◌-◌, ◌≤◌, ◌<◌}
use native.Mathlib.Nat.{zero-add, add-zero, suc-add, add-suc, eq-or-lt_of_le}
use native.Mathlib.Numerals.{add-one}
use native.Mathlib.Omega.{arith}
use mathlib.Core.Bool.{Bool, true, false, not, ◌&&◌}
use mathlib.Core.List.{List, [], ◌∷◌, ◌++◌, append-nil}
use mathlib.Core.Logic.{inl, inr, ⊎_elim}
use mathlib.Core.Path.{◌≡◌, refl, sym, ap, ap₂, ◌∙◌}
use lib.ListN.{length, set, length-append}
use lib.Seq.{sets}
use Rattle.machine.specs.Queue.{if, head, from, In, Distinct, Rising, fold, keep}
use Rattle.lists.proofs.Tests.{either, differ}
use Rattle.lists.proofs.Lists.{no_longer}

-- ---- the first of a queue
pub first_in : (q : List ℕ) → (head q ≡ 0 → ⊥) → In (head q) q
first_in [] n = absurd (n refl)
first_in (x ∷ q) n = inl refl

pub no_first : (q : List ℕ) → ((x : ℕ) → In x q → 1 ≤ x) → head q ≡ 0 → q ≡ []
no_first [] h e = refl
no_first (x ∷ q) h e = absurd (omega (arith, h x (inl refl)))

-- ---- the numbers from a on, those kept, and folds over them
-- what each step keeps
pub fold_keeps : {A : Type 0} (C : A → Type 0) (f : ℕ → A → A) (l : List ℕ) → ((x : ℕ) → In x l → (a : A) → C a → C (f x a)) → (a : A) → C a → C (fold f l a)
unfolding fold
fold_keeps C f [] h a c = c
fold_keeps C f (x ∷ l) h a c = fold_keeps C f l (λ y j. h y (inr j)) (f x a) (h x (inl refl) a c)

pub in_from : (x a n : ℕ) → In x (from a n) → (a ≤ x) × (x < a + n)
unfolding from
in_from x a zero i = absurd i
in_from x a (suc n) (inl e) = omega arith
in_from x a (suc n) (inr i) = let h = in_from x (suc a) n i in omega arith

pub length_from : (a n : ℕ) → length (from a n) ≡ n
unfolding from
length_from a zero = refl
length_from a (suc n) = ap suc (length_from (suc a) n)

pub from_once : (a n : ℕ) → Distinct (from a n)
unfolding from
from_once a zero = tt
from_once a (suc n) = (λ i. (let h = in_from a (suc a) n i in omega arith), from_once (suc a) n)

pub in_keep : (x : ℕ) (f : ℕ → Bool) (l : List ℕ) → In x (keep f l) → In x l × (f x ≡ true)
unfolding keep
in_keep x f [] = λ i. absurd i
in_keep x f (a ∷ l) =
    let h : In x (keep f l) → In x (a ∷ l) × (f x ≡ true) = λ i. (inr (in_keep x f l i).0, (in_keep x f l i).1) in
    either (λ (q : List ℕ). In x q → In x (a ∷ l) × (f x ≡ true)) (f a) (λ t. ⊎_elim (λ e. (inl e, rw e t)) h) (λ t. h)

pub keep_once : (f : ℕ → Bool) (l : List ℕ) → Distinct l → Distinct (keep f l)
unfolding keep
keep_once f [] d = tt
keep_once f (a ∷ l) d = either Distinct (f a) (λ t. (λ i. d.0 (in_keep a f l i).0, keep_once f l d.1)) (λ t. keep_once f l d.1)

pub keep_rising : (f : ℕ → Bool) (n a z : ℕ) → z < a → Rising z (keep f (from a n))
unfolding keep from
keep_rising f zero a z h = tt
keep_rising f (suc n) a z h = either (Rising z) (f a) (λ t. (h, keep_rising f n (suc a) a (omega arith))) (λ t. keep_rising f n (suc a) z (omega arith))

pub from_in : (x a n : ℕ) → a ≤ x → x < a + n → In x (from a n)
unfolding from
from_in x a zero l u = absurd (omega arith)
from_in x a (suc n) l u = ⊎_elim (λ e. inl (sym e)) (λ h. inr (from_in x (suc a) n (omega arith) (omega arith))) (eq-or-lt_of_le l)

pub keep_in : (x : ℕ) (f : ℕ → Bool) (l : List ℕ) → In x l → f x ≡ true → In x (keep f l)
unfolding keep
keep_in x f [] i t = i
keep_in x f (a ∷ l) (inl e) t = either (In x) (f a) (λ _. inl e) (λ n. absurd (differ (sym t ∙ rw e n)))
keep_in x f (a ∷ l) (inr i) t = either (In x) (f a) (λ _. inr (keep_in x f l i t)) (λ _. keep_in x f l i t)

-- tests that agree on n numbers from a on keep the same of them
pub keep_same : (f g : ℕ → Bool) (a n : ℕ) → ((k : ℕ) → a ≤ k → k < a + n → f k ≡ g k) → keep f (from a n) ≡ keep g (from a n)
unfolding keep from
keep_same f g a zero h = refl
keep_same f g a (suc n) h =
    ap₂ (λ (t : Bool) (l : List ℕ). if t (a ∷ l) l) (h a (omega arith) (omega arith)) (keep_same f g (suc a) n (λ k l u. h k (omega arith) (omega arith)))

-- or on a list
pub keep_alike : (f g : ℕ → Bool) (l : List ℕ) → ((x : ℕ) → In x l → f x ≡ g x) → keep f l ≡ keep g l
unfolding keep
keep_alike f g [] h = refl
keep_alike f g (a ∷ l) h = ap₂ (λ (t : Bool) (r : List ℕ). if t (a ∷ r) r) (h a (inl refl)) (keep_alike f g l (λ x i. h x (inr i)))

-- none is kept where none passes
pub keep_none : (f : ℕ → Bool) (a n : ℕ) → ((k : ℕ) → a ≤ k → k < a + n → f k ≡ false) → keep f (from a n) ≡ []
unfolding keep from
keep_none f a zero h = refl
keep_none f a (suc n) h = rw (h a (omega arith) (omega arith)) (keep_none f (suc a) n (λ k l u. h k (omega arith) (omega arith)))

-- nor of a list
pub keep_empty : (f : ℕ → Bool) (l : List ℕ) → ((k : ℕ) → In k l → f k ≡ false) → keep f l ≡ []
unfolding keep
keep_empty f [] h = refl
keep_empty f (a ∷ l) h = rw (h a (inl refl)) (keep_empty f l (λ k i. h k (inr i)))

-- ---- how many are kept
pub count_all : (f : ℕ → Bool) (a n : ℕ) → ((k : ℕ) → a ≤ k → k < a + n → f k ≡ true) → length (keep f (from a n)) ≡ n
unfolding keep from
count_all f a zero h = refl
count_all f a (suc n) h = rw (h a (omega arith) (omega arith)) (omega (arith, count_all f (suc a) n (λ k l u. h k (omega arith) (omega arith))))

pub none_kept : (f : ℕ → Bool) (a n : ℕ) → ((k : ℕ) → a ≤ k → k < a + n → f k ≡ false) → length (keep f (from a n)) ≡ 0
none_kept f a n h = ap length (keep_none f a n h)

-- among the first n and the s after them
pub count_split : (f : ℕ → Bool) (a n s : ℕ)
    → length (keep f (from (suc a) (n + s))) ≡ length (keep f (from (suc a) n)) + length (keep f (from (suc (a + n)) s))
unfolding keep from
count_split f a zero s = rw (zero-add s, add-zero a) (omega arith)
count_split f a (suc n) s =
    rw (suc-add n s, add-suc a n, ← suc-add a n)
    (go (f (suc a)) _ _ _ (count_split f (suc a) n s))
  where
    go : (t : Bool) (u v : List ℕ) (w : ℕ) → length u ≡ length v + w → length (if t (suc a ∷ u) u) ≡ length (if t (suc a ∷ v) v) + w
    go true u v w e = omega arith
    go false u v w e = e

-- where just the n after the first lo pass
pub count_span : (f : ℕ → Bool) (lo n s : ℕ)
    → ((k : ℕ) → 1 ≤ k → k ≤ lo → f k ≡ false) → ((k : ℕ) → lo < k → k ≤ lo + n → f k ≡ true) → ((k : ℕ) → lo + n < k → k ≤ lo + (n + s) → f k ≡ false)
    → length (keep f (from 1 (lo + (n + s)))) ≡ n
count_span f lo n s below among above =
    let a = rw zero-add at (count_split f 0 lo (n + s)) in
    let b = count_split f lo n s in
    let c = none_kept f 1 lo (λ k l u. below k l (omega arith)) in
    let d = count_all f (suc lo) n (λ k l u. among k l (omega arith)) in
    let e = none_kept f (suc (lo + n)) s (λ k l u. above k l (omega arith)) in
    omega arith

-- those that pass s and those that don't
pub count_parts : (f s : ℕ → Bool) (l : List ℕ) → length (keep f l) ≡ length (keep (λ b. f b && s b) l) + length (keep (λ b. not (s b) && f b) l)
unfolding keep
count_parts f s [] = refl
count_parts f s (x ∷ l) = go (f x) (s x) _ _ _ (count_parts f s l)
  where
    go : (t u : Bool) (a b c : List ℕ) → length a ≡ length b + length c
        → length (if t (x ∷ a) a) ≡ length (if (t && u) (x ∷ b) b) + length (if (not u && t) (x ∷ c) c)
    go true true a b c e = omega arith
    go true false a b c e = omega arith
    go false true a b c e = e
    go false false a b c e = e

-- ---- one number more
from_more : (a n : ℕ) → from a (suc n) ≡ from a n ++ ((a + n) ∷ [])
unfolding from
from_more a zero = rw (add-zero a)
from_more a (suc n) = ap (λ (l : List ℕ). a ∷ l) (rw (add-suc a n, ← suc-add a n) (from_more (suc a) n))

keep_append : (f : ℕ → Bool) (l r : List ℕ) → keep f (l ++ r) ≡ keep f l ++ keep f r
unfolding keep
keep_append f [] r = refl
keep_append f (x ∷ l) r = go (f x) (keep_append f l r)
  where
    go : (t : Bool) {u : List ℕ} → u ≡ keep f l ++ keep f r → if t (x ∷ u) u ≡ (if t (x ∷ keep f l) (keep f l)) ++ keep f r
    go true e = ap (λ (u : List ℕ). x ∷ u) e
    go false e = e

keep_more : (f : ℕ → Bool) (n : ℕ) → keep f (from 1 (n + 1)) ≡ keep f (from 1 n) ++ (if (f (n + 1)) ((n + 1) ∷ []) [])
unfolding keep
keep_more f n =
    let e : 1 + n ≡ n + 1 = omega arith in
    ap (λ (k : ℕ). keep f (from 1 k)) (add-one n) ∙ ap (keep f) (from_more 1 n) ∙ keep_append f (from 1 n) ((1 + n) ∷ [])
    ∙ ap (λ (k : ℕ). keep f (from 1 n) ++ (if (f k) (k ∷ []) [])) e

pub keep_yes : (f : ℕ → Bool) (n : ℕ) → f (n + 1) ≡ true → keep f (from 1 (n + 1)) ≡ keep f (from 1 n) ++ ((n + 1) ∷ [])
keep_yes f n e = keep_more f n ∙ ap (λ (t : Bool). keep f (from 1 n) ++ (if t ((n + 1) ∷ []) [])) e

pub keep_no : (f : ℕ → Bool) (n : ℕ) → f (n + 1) ≡ false → keep f (from 1 (n + 1)) ≡ keep f (from 1 n)
keep_no f n e = keep_more f n ∙ ap (λ (t : Bool). keep f (from 1 n) ++ (if t ((n + 1) ∷ []) [])) e ∙ append-nil (keep f (from 1 n))

pub count_yes : (f : ℕ → Bool) (n : ℕ) → f (n + 1) ≡ true → length (keep f (from 1 (n + 1))) ≡ length (keep f (from 1 n)) + 1
count_yes f n e = ap length (keep_yes f n e) ∙ length-append (keep f (from 1 n)) ((n + 1) ∷ [])

pub count_zero : (f : ℕ → Bool) → 0 ≡ length (keep f (from 1 0))
unfolding keep from
count_zero f = refl

pub count_rises : (f : ℕ → Bool) (k n : ℕ) → k ≤ n → length (keep f (from 1 k)) ≤ length (keep f (from 1 n))
count_rises f k n h =
    let e : k + (n - k) ≡ n = omega arith in
    let s = rw e at (count_split f 0 k (n - k)) in
    omega arith

-- ---- no more different numbers than there are: the n numbers above a
pub few : (a n : ℕ) (q : List ℕ) → Distinct q → ((x : ℕ) → In x q → (a < x) × (x ≤ a + n)) → length q ≤ n
few a n q d h = omega (arith, no_longer q (from (suc a) n) d (λ x i. from_in x (suc a) n (omega (arith, h x i)) (omega (arith, h x i))), length_from (suc a) n)

-- ---- the lowest kept: the first that passes
pub keep_lowest : (f : ℕ → Bool) (a n b : ℕ) → a ≤ b → b < a + n → ((k : ℕ) → a ≤ k → k < b → f k ≡ false) → f b ≡ true → head (keep f (from a n)) ≡ b
unfolding keep from
keep_lowest f a zero b l u h e = absurd (omega arith)
keep_lowest f a (suc n) b l u h e =
    ⊎_elim
    (λ k. (let z : f a ≡ true = rw k e in rw z k))
    (λ k. rw (h a (omega arith) k) (keep_lowest f (suc a) n b k (omega arith) (λ j i v. h j (omega arith) v) e))
    (eq-or-lt_of_le l)

-- ---- one step more of a fold
fold_append : {A : Type 0} (f : ℕ → A → A) (l r : List ℕ) (a : A) → fold f (l ++ r) a ≡ fold f r (fold f l a)
unfolding fold
fold_append f [] r a = refl
fold_append f (x ∷ l) r a = fold_append f l r (f x a)

pub fold_last : {A : Type 0} (f : ℕ → A → A) (l : List ℕ) (x : ℕ) (a : A) → fold f (l ++ (x ∷ [])) a ≡ f x (fold f l a)
unfolding fold
fold_last f l x a = fold_append f l (x ∷ []) a

pub fold_none : {A : Type 0} (f : ℕ → A → A) (a : A) → fold f (from 1 0) a ≡ a
unfolding fold from
fold_none f a = refl

pub fold_more : {A : Type 0} (f : ℕ → A → A) (n : ℕ) (a : A) → fold f (from 1 (n + 1)) a ≡ f (n + 1) (fold f (from 1 n) a)
fold_more f n a =
    let e : 1 + n ≡ n + 1 = omega arith in
    ap (λ (k : ℕ). fold f (from 1 k) a) (add-one n) ∙ ap (λ (l : List ℕ). fold f l a) (from_more 1 n) ∙ fold_last f (from 1 n) (1 + n) a
    ∙ ap (λ (k : ℕ). f k (fold f (from 1 n) a)) e

-- ---- numbers stored behind those that were stored before
pub sets_append : (l : List ℕ) (i : ℕ) (a b : List ℕ) → sets (sets l i a) (i + length a) b ≡ sets l i (a ++ b)
sets_append l i [] b = let e : i + 0 ≡ i = omega arith in rw e
sets_append l i (x ∷ a) b = let e : i + suc (length a) ≡ suc i + length a = omega arith in rw e (sets_append (set l i x) (suc i) a b)
