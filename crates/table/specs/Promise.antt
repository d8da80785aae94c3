-- The form of a promise about the lent words: what they must show, what they show afterwards, and what is read off them.
-- Assumes nothing: these are definitions.
use Rattle.std.specs.Prelude.{ℕ, List, ◌≡◌}
use Rattle.machine.specs.Machine.{Machine}
use Rattle.machine.specs.Moves.{free}
use Rattle.machine.specs.Words.{Buffer, index, Shows}
use Rattle.table.specs.Fits.{InNoQueue}

-- the words t show a machine of which May holds
pub record Can (t : List ℕ) (May : Machine → Type 0) : Type 0 where
  pub m : Machine
  pub shows : Shows t m
  pub may : May m

-- from the words t to the words u the machine changes by f
abbrev pub Does : List ℕ → List ℕ → (Machine → Type 0) → (Machine → Machine) → Type 0
Does t u May f = (m : Machine) → Shows t m → May m → Shows u (f m)

-- r is what `get` says of the machine that t shows
abbrev pub Gives : {A : Type 0} → List ℕ → (Machine → Type 0) → (Machine → A) → A → Type 0
Gives t May get r = (m : Machine) → Shows t m → May m → r ≡ get m

-- both: the machine changes by f, and r is what `get` says of it before
pub record Goes (t u : List ℕ) (May : Machine → Type 0) (f : Machine → Machine) (get : Machine → ℕ) (r : ℕ) : Type 0 where
  pub words : Does t u May f
  pub gives : Gives t May get r

-- the buffer whose record starts at index i becomes free
abbrev pub Frees : List ℕ → List ℕ → ℕ → Type 0
Frees t u i = (m : Machine) (b : ℕ) → Shows t m → InNoQueue b m → i ≡ index m.P m.B (Buffer b 0) → Shows u (free b m)
