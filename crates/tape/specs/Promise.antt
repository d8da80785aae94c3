-- What the tape reader's functions promise. Assumes nothing: these are definitions.
use Rattle.std.specs.Prelude.{false, List, [], ◌∷◌, ◌++◌, ◌≡◌, ℕ, ◌+◌, ◌-◌, ◌≤◌, ◌<◌, ℤ, pos, ◌+ℤ◌, length, get_or, drop, take}
use Rattle.std.specs.Prelude.{Result, Ok, Err, MatchResult}
use Rattle.std.proofs.Math.Option.{none, some}
use Rattle.std.proofs.Math.IntN.{sub_ℕ}
use Rattle.std.proofs.lemmas.List.Edits.{sets}
use Rattle.tape.specs.Parity.{odd}
use Rattle.tape.specs.Character.{entry, Met, Delivers, Skips, Ends, Refused, settled}
use Rattle.tape.specs.Tape.{Run, Stops, Runs, Result as Outcome, run, words, moded}
use Rattle.tape.specs.declared.numbers.Refusal.{Refusal}
use Rattle.tape.specs.declared.numbers.Refusal.TheVariants.{OtherMode, NinthLookup, OutsideTable, ClassNotListed}
use Rattle.tape.specs.declared.parity.Mode.{Mode}
use Rattle.tape.specs.declared.parity.Mode.TheVariants.{Binary, Odd, Even}
use Rattle.tape.specs.declared.character.Kind.{Kind}
use Rattle.tape.specs.declared.character.Kind.TheVariants.{Delivered, Skipped, Ended}
use Rattle.tape.specs.declared.character.Seen.{Seen}
use Rattle.tape.specs.declared.passes.Passed.{Passed}
use Rattle.tape.specs.declared.Taken.{Taken}

-- ---- the numbers of modes and of refusals
abbrev pub number_of_mode : Mode → ℕ
number_of_mode Binary = 1
number_of_mode Odd = 5
number_of_mode Even = 9

abbrev pub number_of_refusal : Refusal → ℕ
number_of_refusal OtherMode = 15
number_of_refusal NinthLookup = 16
number_of_refusal OutsideTable = 17
number_of_refusal ClassNotListed = 18

-- n is none of the modes
pub record NoMode (n : ℕ) : Type 0 where
  pub not_binary : n ≡ 1 → ⊥
  pub not_odd : n ≡ 5 → ⊥
  pub not_even : n ≡ 9 → ⊥

-- the mode of that number, or the refusal where there is none
abbrev pub Decodes : ℕ → Result Mode Refusal → Type 0
Decodes n r = MatchResult r (λ m. number_of_mode m ≡ n) (λ e. (e ≡ OtherMode) × NoMode n)

-- the mark of each byte is the digit of its parity
pub record Marks (marks : List ℕ) : Type 0 where
  pub right : (byte : ℕ) → byte < 256 → get_or marks byte 0 ≡ 0x30 + odd byte

-- inside, a base is kept as the number that is 2³² larger
unfoldable pub whole : ℕ → ℤ
whole b = sub_ℕ b 4294967296

-- and it is of 32 bits, with a sign
pub record Based (b : ℕ) : Type 0 where
  pub low : 2147483648 ≤ b
  pub high : b < 6442450944

-- r is the place of the entry at base plus c in a table of at most 65,536 words, or the table ends before it
pub record Placed (base c r : ℕ) : Type 0 where
  pub below : r < 65536 → r + 4294967296 ≡ base + c
  pub there : (table : List ℕ) → length table ≤ 65536 → r < length table → entry table (whole base +ℤ pos c) ≡ some (get_or table r 0)
  pub missing : (table : List ℕ) → length table ≤ 65536 → length table ≤ r → entry table (whole base +ℤ pos c) ≡ none

-- a base from which an entry can be found: -256 to 65,535
pub record Near (b : ℕ) : Type 0 where
  pub low : 4294967040 ≤ b
  pub high : b ≤ 4295032831

-- what a kind is, from that base on
abbrev pub seen_as : Kind → ℤ → Met
seen_as (Delivered v flag) base = Delivers flag v base
seen_as Skipped base = Skips base
seen_as Ended base = Ends base

abbrev pub Means : Met → Result Seen Refusal → Type 0
Means m r = MatchResult r (λ s. seen_as s.kind (whole s.base) ≡ m) (λ e. Refused (number_of_refusal e) ≡ m)

-- what a class that is no shift makes of a value, from whatever base
pub record Settles (c v : ℕ) (r : Result Kind Refusal) : Type 0 where
  pub settles : (base : ℤ) → MatchResult r (λ k. seen_as k base ≡ settled c v base) (λ e. Refused (number_of_refusal e) ≡ settled c v base)

-- what was seen is that
pub record Sees (m : Met) (r : Result Seen Refusal) : Type 0 where
  pub means : Means m r
  pub based : MatchResult r (λ s. Based s.base) (λ e. Unit {0})

-- a byte was stored at its place, where that is below `full`: with any bytes l that follow behind it, all are stored
pub record PutsByte (area : List ℕ) (at full v : ℕ) (after : List ℕ) : Type 0 where
  pub as_long : length after ≡ length area
  pub stored : (l : List ℕ) → sets area at (take (full - at) (v ∷ l)) ≡ sets after (at + 1) (take (full - (at + 1)) l)

-- a mode converts by these words from this base, with these marks at hand
pub record Converts (marks : List ℕ) (mode : ℕ) (table : List ℕ) (base : ℕ) : Type 0 where
  pub right : Marks marks
  pub checks : mode ≡ 1 → ⊥
  pub some : 0 < length table
  pub few : length table ≤ 65536
  pub based : Based base

-- a pass tells what the run comes to
abbrev pub Tells : Run → Result Passed Refusal → Type 0
Tells (Stops n) (Ok p) = ⊥
Tells (Stops n) (Err e) = number_of_refusal e ≡ n
Tells (Runs l n base flag) (Ok p) = (p.stored ≡ length l) × (p.read ≡ n) × (whole p.base ≡ base) × (p.parity ≡ flag) × Based p.base
Tells (Runs l n base flag) (Err e) = ⊥

abbrev pub bytes : Run → List ℕ
bytes (Stops n) = []
bytes (Runs l n base flag) = l

-- it tells that, and the first `full` bytes were stored: none where that is 0
pub record TellsAndStores (o : Run) (area : List ℕ) (full : ℕ) (after : List ℕ) (r : Result Passed Refusal) : Type 0 where
  pub tells : Tells o r
  pub as_long : length after ≡ length area
  pub few : length (bytes o) ≤ length area
  pub none : full ≡ 0 → after ≡ area
  pub stored : MatchResult r (λ p. after ≡ sets area 0 (take full (bytes o))) (λ e. Unit {0})

-- without a table r bytes were read and stored, and the base stays, whatever it is
pub record Plain (mode : ℕ) (tape area after : List ℕ) (r : ℕ) : Type 0 where
  pub passes : (base : ℕ) → Based base
      → TellsAndStores (run mode [] (whole base) (length area) tape) area (length area) after
      (Ok (record { stored = r; read = r; base = base; parity = false }))

-- the operation's answer: on a refusal nothing is stored, else all bytes are
pub record Operates (mode : ℕ) (tape table : List ℕ) (base : ℕ) (area : List ℕ) (r : Result Passed Refusal) (after : List ℕ) : Type 0 where
  pub tells : Tells (moded mode (run mode (words mode table) (whole base) (length area) tape)) r
  pub stored : after ≡ bytes (moded mode (run mode (words mode table) (whole base) (length area) tape))
      ++ drop (length (bytes (moded mode (run mode (words mode table) (whole base) (length area) tape)))) area

-- a refusal's answer: "Area and base are then unchanged, counts and status 0"
abbrev pub refusal : ℕ → ℤ → Taken
refusal number base = record { number = number; stored = 0; read = 0; base = base; status = 0 }

-- the answer and the area are what they should be
pub record TellsResult (o : Outcome) (r : Taken) (after : List ℕ) : Type 0 where
  pub number : r.number ≡ o.number
  pub stored : r.stored ≡ o.stored
  pub read : r.read ≡ o.read
  pub base : r.base ≡ o.base
  pub status : r.status ≡ o.status
  pub area : after ≡ o.area
