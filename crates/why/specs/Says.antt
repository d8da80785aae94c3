-- What is said where words are no sound table. Assumes nothing: these are definitions.
use Rattle.std.specs.Prelude.{◌≡◌, List, ℕ, ◌<◌}
use Rattle.machine.specs.Queue.{Range}
use Rattle.why.specs.Clause.{last_clause, clause_of, records, Holds, place}
use Rattle.why.specs.Denied.{Denied}
use Rattle.why.specs.declared.Fault.{Fault}

-- a clause that fails of a record, what that says of the words, and that clause's word; it holds of the records before, and every clause before
-- holds of all its records
pub record Says (w : List ℕ) (f : Fault) : Type 0 where
  pub numbered : Range last_clause f.clause
  pub there : Range (records w (clause_of f.clause)) f.«record»
  pub fails : Holds w (clause_of f.clause) f.«record» → ⊥
  pub denied : Denied w (clause_of f.clause) f.«record»
  pub named : f.place ≡ place w (clause_of f.clause) f.«record»
  pub first : (r : ℕ) → Range (records w (clause_of f.clause)) r → r < f.«record» → Holds w (clause_of f.clause) r
  pub before : (c : ℕ) → Range last_clause c → c < f.clause → (r : ℕ) → Range (records w (clause_of c)) r → Holds w (clause_of c) r
