-- docs/MONITOR.md, 17.5: the reader's input operation on a tape. Assumes nothing: these are definitions.
use Rattle.std.specs.Prelude.{Bool, false, cond, ◌||◌, List, [], ◌∷◌, ◌++◌, ℕ, zero, suc, ◌+◌, eqb, ℤ, length, take, drop}
use Rattle.tape.specs.Character.{Met, Delivers, Skips, Ends, Refused, character}

-- what an operation comes to: refused; or the bytes to store, how many were read, the base, and whether a class of 136 or above came up
pub data Run : Type 0 where
  Stops : ℕ → Run
  Runs : List ℕ → ℕ → ℤ → Bool → Run

-- a run before which these bytes were stored, so many read, and such a class came up or not
abbrev pub onward : List ℕ → ℕ → Bool → Run → Run
onward bytes n flag (Stops k) = Stops k
onward bytes n flag (Runs l m base f) = Runs (bytes ++ l) (n + m) base (flag || f)

-- what a character leads to, with what follows where it is stored and where it is skipped; "End of block isn't delivered and ends the operation"
abbrev pub by_met : Met → (ℤ → Run) → (ℤ → Run) → Run
by_met (Delivers flag v base) stored skipped = onward (v ∷ []) 1 flag (stored base)
by_met (Skips base) stored skipped = onward [] 1 false (skipped base)
by_met (Ends base) stored skipped = Runs [] 1 base false
by_met (Refused n) stored skipped = Stops n

-- from a base on, with room for so many bytes: a full area ends the operation, and used-up input
unfoldable pub run : ℕ → List ℕ → ℤ → ℕ → List ℕ → Run
run mode table base zero tape = Runs [] 0 base false
run mode table base (suc room) [] = Runs [] 0 base false
run mode table base (suc room) (b ∷ tape) =
    by_met (character mode table base b) (λ z. run mode table z room tape) (λ z. run mode table z (suc room) tape)

-- the answer, and the area afterwards
pub record Result : Type 0 where
  pub number : ℕ
  pub stored : ℕ
  pub read : ℕ
  pub base : ℤ
  pub status : ℕ
  pub area : List ℕ

-- "status hexadecimal 0020 exactly if a character of class 136 or above came up"
abbrev pub status : Bool → ℕ
status flag = cond flag 0x0020 0

-- "Area and base are then unchanged, counts and status 0"; "The area past the bytes stored stays"
abbrev pub result : Run → ℤ → List ℕ → Result
result (Stops n) base area = record { number = n; stored = 0; read = 0; base = base; status = 0; area = area }
result (Runs l n b flag) base area =
    record { number = 0; stored = length l; read = n; base = b; status = status flag; area = l ++ drop (length l) area }

-- "15 another mode .. is looked at first"
abbrev pub moded : ℕ → Run → Run
moded mode r = cond (eqb mode 1) r (cond (eqb mode 5) r (cond (eqb mode 9) r (Stops 15)))

-- the words by which a mode converts: none in mode 1; of a table, "its first 65,536 words count"
abbrev pub words : ℕ → List ℕ → List ℕ
words mode table = cond (eqb mode 1) [] (take 65536 table)

-- the operation
unfoldable pub taken : ℕ → List ℕ → List ℕ → ℤ → List ℕ → Result
taken mode tape table base area = result (moded mode (run mode (words mode table) base (length area) tape)) base area
