-- Lists of record numbers as queues: what they hold, how words link them, how they change. Assumes nothing: these are definitions.
use Rattle.std.specs.Prelude.{◌≡◌, Bool, true, false, ◌⊎◌, List, [], ◌∷◌, ℕ, zero, suc, ◌≤◌, ◌<◌, eqb, leb}

-- one or the other, by a test
abbrev pub if : {A : Type 0} → Bool → A → A → A
if true a b = a
if false a b = b

-- a where x is y, else b
unfoldable pub same : {A : Type 0} → ℕ → ℕ → A → A → A
same x y a b = if (eqb x y) a b

-- f, but v at n
abbrev pub at : {A : Type 0} → (ℕ → A) → ℕ → A → ℕ → A
at f n v = λ k. same k n v (f k)

-- ---- what a queue holds
-- x is one of 1 to n
abbrev pub Range : ℕ → ℕ → Type 0
Range n x = (1 ≤ x) × (x ≤ n)

-- x is in q
abbrev pub In : ℕ → List ℕ → Type 0
In x [] = ⊥
In x (a ∷ q) = (x ≡ a) ⊎ In x q

-- x is not in q
abbrev pub Out : ℕ → List ℕ → Type 0
Out x q = In x q → ⊥

-- no number twice in q
abbrev pub Distinct : List ℕ → Type 0
Distinct [] = Unit {0}
Distinct (a ∷ q) = Out a q × Distinct q

-- q holds exactly the numbers of which C holds, each once
pub record Exact (C : ℕ → Type 0) (q : List ℕ) : Type 0 where
  pub once : Distinct q
  pub only : (x : ℕ) → In x q → C x
  pub every : (x : ℕ) → C x → In x q

-- rank never rises along q
abbrev pub Falls : (ℕ → ℕ) → List ℕ → Type 0
Falls rank [] = Unit {0}
Falls rank (a ∷ q) = ((y : ℕ) → In y q → rank y ≤ rank a) × Falls rank q

-- the numbers of q rise, from above z
abbrev pub Rising : ℕ → List ℕ → Type 0
Rising z [] = Unit {0}
Rising z (a ∷ q) = (z < a) × Rising a q

-- ---- how a queue is linked: by walking it
-- q stands linked both ways: its first is `from`, its last is `last` (0 for none), each member's previous is the one before it,
-- and of the first it is `before`; each member's next is the one after it, and 0 of the last
unfoldable pub Linked : (ℕ → ℕ) → (ℕ → ℕ) → ℕ → ℕ → List ℕ → ℕ → Type 0
Linked next previous from before [] last = (from ≡ 0) × (before ≡ last)
Linked next previous from before (x ∷ q) last = (from ≡ x) × (previous x ≡ before) × Linked next previous (next x) x q last

-- q is a queue from `first` to `last`, linked both ways, of exactly the numbers of which C holds
pub record IsQueue (next previous : ℕ → ℕ) (C : ℕ → Type 0) (first last : ℕ) (q : List ℕ) : Type 0 where
  pub linked : Linked next previous first 0 q last
  pub exact : Exact C q

-- ---- how a queue is linked: as a circle through 0, with 0 before the first and after the last
-- the first of q, 0 if there is none
abbrev pub head : List ℕ → ℕ
head [] = 0
head (a ∷ q) = a

-- the last of z, q
abbrev pub last_from : ℕ → List ℕ → ℕ
last_from z [] = z
last_from z (a ∷ q) = last_from a q

-- what follows x in z, q, 0; 0 if x isn't there
abbrev pub next_from : ℕ → List ℕ → ℕ → ℕ
next_from z [] x = 0
next_from z (a ∷ q) x = same z x a (next_from a q x)

-- what stands before x in z, q, 0, behind z; 0 if x isn't there
abbrev pub previous_from : ℕ → List ℕ → ℕ → ℕ
previous_from z [] x = same 0 x z 0
previous_from z (a ∷ q) x = same a x z (previous_from a q x)

-- the next of x in the queue q; of 0: the first
abbrev pub next : List ℕ → ℕ → ℕ
next q x = next_from 0 q x

-- the previous of x in the queue q; of 0: the last
abbrev pub previous : List ℕ → ℕ → ℕ
previous q x = previous_from 0 q x

-- ---- what changes a queue
-- q without x
unfoldable pub without : ℕ → List ℕ → List ℕ
without x [] = []
without x (y ∷ q) = if (eqb x y) (without x q) (y ∷ without x q)

-- p behind all whose rank is `bar` or higher
unfoldable pub enter : (ℕ → ℕ) → ℕ → ℕ → List ℕ → List ℕ
enter rank bar p [] = p ∷ []
enter rank bar p (x ∷ q) = if (leb bar (rank x)) (x ∷ enter rank bar p q) (p ∷ x ∷ q)

-- how many records an entry behind all whose rank is `bar` or higher passes
unfoldable pub passed : (ℕ → ℕ) → ℕ → List ℕ → ℕ
passed rank bar [] = 0
passed rank bar (x ∷ q) = if (leb bar (rank x)) (suc (passed rank bar q)) 0

-- the numbers from a on, n of them
unfoldable pub from : ℕ → ℕ → List ℕ
from a zero = []
from a (suc n) = a ∷ from (suc a) n

-- those of l that pass f
unfoldable pub keep : (ℕ → Bool) → List ℕ → List ℕ
keep f [] = []
keep f (x ∷ l) = if (f x) (x ∷ keep f l) (keep f l)

-- f for each of l in turn
unfoldable pub fold : {A : Type 0} → (ℕ → A → A) → List ℕ → A → A
fold f [] a = a
fold f (x ∷ l) a = fold f l (f x a)
