-- docs/MONITOR.md, 17.5: what becomes of one character. Assumes nothing: these are definitions.
use Rattle.std.specs.Prelude.{Bool, true, false, cond, List, [], ◌∷◌, ℕ, zero, suc, ◌/◌, ◌%◌, eqb, leb, ℤ, pos, negsuc, ◌+ℤ◌, ◌-ℤ◌}
use Rattle.std.proofs.Math.Option.{Option, none, some}
use Rattle.std.proofs.Math.ListN.{get_elem?}
use Rattle.tape.specs.Parity.{treated}

-- a character is delivered as that byte, and its class is 136 or above or it isn't; it is skipped; it is the end of the block; or it is refused.
-- The base is the one afterwards
pub data Met : Type 0 where
  Delivers : Bool → ℕ → ℤ → Met
  Skips : ℤ → Met
  Ends : ℤ → Met
  Refused : ℕ → Met

-- "class left and value right"
abbrev pub class : ℕ → ℕ
class word = word / 256

abbrev pub value : ℕ → ℕ
value word = word % 256

-- the base moves "by the value, or by 256 when it is 0"
abbrev pub move : ℕ → ℕ
move v = cond (eqb v 0) 256 v

-- a class that isn't a shift: 0, 128, 132 and 136 upwards, or "18 a class not listed"
unfoldable pub settled : ℕ → ℕ → ℤ → Met
settled c v base =
    cond (eqb c 0) (Delivers false v base)
    (cond (eqb c 128) (Skips base)
    (cond (eqb c 132) (Ends base)
    (cond (leb 136 c) (Delivers true v base) (Refused 18))))

-- the word at an index, "a whole number"
abbrev pub entry : List ℕ → ℤ → Option ℕ
entry table (pos i) = get_elem? table i
entry table (negsuc i) = none

-- what the word says, where `again` looks up with a moved base: "down at 129, up at 130"; "17 an index .. outside the table"
abbrev pub by_word : Option ℕ → (ℤ → Met) → ℤ → Met
by_word none again base = Refused 17
by_word (some w) again base =
    cond (eqb (class w) 129) (again (base -ℤ pos (move (value w))))
    (cond (eqb (class w) 130) (again (base +ℤ pos (move (value w))))
    (settled (class w) (value w) base))

-- so many lookups at most, and "16 a ninth lookup"; "An entry is one word .. at base plus character"
unfoldable pub look_up : ℕ → List ℕ → ℤ → ℕ → Met
look_up zero table base c = Refused 16
look_up (suc k) table base c = by_word (entry table (base +ℤ pos c)) (λ b. look_up k table b c) base

-- "empty, no conversion"; "At most eight lookups a character"
abbrev pub converted : List ℕ → ℤ → ℕ → Met
converted [] base c = Delivers false c base
converted (w ∷ table) base c = look_up 8 (w ∷ table) base c

-- one byte of the tape
unfoldable pub character : ℕ → List ℕ → ℤ → ℕ → Met
character mode table base byte = converted table base (treated mode byte)
