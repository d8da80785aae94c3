-- Why words are no sound table: the first clause that fails, the first record at which it does, and the word that is named. Assumes
-- nothing: these are definitions.
use Rattle.std.specs.Prelude.{Bool, List, ℕ, zero, suc, eqb}
use Rattle.machine.specs.Queue.{if}
use Rattle.why.specs.Clause.{last_clause, clause_of, records, right, place}
use Rattle.why.specs.declared.Fault.{Fault}

-- the lowest of 1 to n that doesn't pass f, 0 if all do
unfoldable pub lowest : (ℕ → Bool) → ℕ → ℕ
lowest f zero = 0
lowest f (suc n) = if (eqb (lowest f n) 0) (if (f (suc n)) 0 (suc n)) (lowest f n)

-- the first record at which clause c fails, 0 if none
abbrev pub failing : List ℕ → ℕ → ℕ
failing w c = lowest (right w (clause_of c)) (records w (clause_of c))

-- the first clause that fails, 0 if none
abbrev pub broken : List ℕ → ℕ
broken w = lowest (λ c. eqb (failing w c) 0) last_clause

abbrev pub told : ℕ → ℕ → ℕ → Fault
told c r i = record { clause = c; «record» = r; place = i }

-- what is told of clause c
abbrev pub telling : List ℕ → ℕ → Fault
telling w c = if (eqb c 0) (told 0 0 0) (told c (failing w c) (place w (clause_of c) (failing w c)))

abbrev pub fault : List ℕ → Fault
fault w = telling w (broken w)
