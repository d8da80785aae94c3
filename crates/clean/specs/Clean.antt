-- What the parts of call 08 ask and promise: a process cleaned, one buffer after the other. Assumes nothing: these are definitions.
use Rattle.std.specs.Prelude.{Option, Some, None, Bool, true, false, List, ◌≡◌, ℕ, length, eqb}
use Rattle.machine.specs.Queue.{if, Range, keep, fold}
use Rattle.machine.specs.Machine.{Machine, state, owner, receiver, buffers}
use Rattle.machine.specs.Moves.{unlink, clean_buffer}
use Rattle.machine.specs.Legal.{Legal}
use Rattle.machine.specs.Step.{changes}
use Rattle.machine.specs.Walk.{Walk, begin, walk_on}
use Rattle.table.specs.Promise.{Does, Gives}
use Rattle.table.specs.Fits.{MayUnlink}
use Rattle.answers.specs.Promise.{arrival}

-- p is stopped, so that all buffers may be cleaned
abbrev pub Stopped : ℕ → Machine → Type 0
Stopped p m = Legal m × (state m p ≡ 0)

-- one buffer may be, b
abbrev pub MayClean : ℕ → Machine → Type 0
MayClean b m = Legal m × Range m.B b

-- b, whose owner is p
abbrev pub MayCleanOwn : ℕ → ℕ → Machine → Type 0
MayCleanOwn p b m = Legal m × Range m.B b × (owner m b ≡ p)

-- b, whose receiver is p, and its owner another
abbrev pub MayCleanReceived : ℕ → ℕ → Machine → Type 0
MayCleanReceived p b m = Legal m × Range m.B b × (owner m b ≡ p → ⊥) × (receiver m b ≡ p)

-- b, of standing s, may leave the event queue of p if it is queued there, and does
abbrev pub MayTakeBack : ℕ → ℕ → ℕ → Machine → Type 0
MayTakeBack p b s m = s ≡ 1 → MayUnlink p b m

abbrev pub taken_back : ℕ → ℕ → ℕ → Machine → Machine
taken_back p b s m = if (eqb s 1) (unlink p b m) m

-- from the words t to the words u p was cleaned out of buffer b; r says whether its standing changed, and its owner woke to that position in the running
-- queue; 0: it did not
pub record Cleans (May : Machine → Type 0) (t u : List ℕ) (p b : ℕ) (r : Bool) (position : ℕ) : Type 0 where
  pub words : Does t u May (clean_buffer p b)
  pub changed : Gives t May (λ m. changes m p b) r
  pub arrives : Gives t May (λ m. arrival 1 (owner m b) m (clean_buffer p b m)) position
  pub still : r ≡ false → position ≡ 0

-- the position is told where its standing changed, and nothing where it didn't
abbrev pub CleansTo : (Machine → Type 0) → List ℕ → List ℕ → ℕ → ℕ → Option ℕ → Type 0
CleansTo May t u p b (Some position) = Cleans May t u p b true position
CleansTo May t u p b None = Cleans May t u p b false 0

-- from the words t to the words u p was cleaned out of all buffers, the standing of r of them changed, and w is the walk of the owners that woke
pub record CleansAll (t u : List ℕ) (p r : ℕ) (w : Walk) : Type 0 where
  pub words : Does t u (Stopped p) (λ m. fold (clean_buffer p) (buffers m) m)
  pub changed : Gives t (Stopped p) (λ m. length (keep (changes m p) (buffers m))) r
  pub walk : Gives t (Stopped p) (λ m. (fold (walk_on 1 (λ b n. owner n b) (clean_buffer p)) (buffers m) (begin m)).walk) w
