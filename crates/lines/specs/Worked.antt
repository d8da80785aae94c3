-- The worked run (examples/worked.log) and a few short ones, from bytes to bytes, by computation. Assumes nothing.
use Rattle.std.specs.Prelude.{◌≡◌, refl, List, [], ◌∷◌, ◌++◌, ℕ}
use Rattle.machine.specs.Queue.{same, without, enter, from, keep, fold}
use Rattle.machine.specs.Machine.{given}
use Rattle.machine.specs.Moves.{clean_buffer}
use Rattle.machine.specs.Request.{request}
use Rattle.machine.specs.Refusal.{first, refusal}
use Rattle.machine.specs.Step.{rows, effect, step}
use Rattle.machine.specs.Layout.{sum, owner_of, laid_over, entries, fives, each, apart, startable, layout_refusal}
use Rattle.text.specs.Cut.{cut}
use Rattle.lines.specs.Digits.{digit, is_digit, value, digits, all_digits, number_from}
use Rattle.lines.specs.Line.{well_formed, shape_of, shape, ended}
use Rattle.lines.specs.Replay.{row_lines, turn, last, run, replay}

-- lines of 26, 30 and 20 digits, written as numerals, and of FF
abbrev pub asks : ℕ → List ℕ
unfolding digits digit
asks n = ended (digits 26 n)

abbrev pub answered : ℕ → List ℕ
unfolding digits digit
answered n = ended (digits 30 n)

abbrev pub listing_row : ℕ → List ℕ
unfolding digits digit
listing_row n = ended (digits 20 n)

abbrev pub FF : List ℕ
FF = 0x46 ∷ 0x46 ∷ 0x0A ∷ []

-- the worked run
abbrev pub input : List ℕ
input =
    asks 0x00_0005_0001_4100_0000_0000_0000
    ++ (asks 0x00_0003_0000_4200_0000_0000_0000
    ++ (asks 0x06_0001_0000_0000_0000_0000_0000
    ++ (asks 0x06_0002_0000_0000_0000_0000_0000
    ++ (asks 0x01_0002_0000_1111_2222_3333_4444
    ++ (asks 0x02_0001_0000_0000_0000_0000_0000
    ++ (asks 0x03_0000_0000_0000_0000_0000_0000
    ++ (asks 0x04_0001_0000_0000_000A_0000_0000
    ++ asks 0x0B_0001_0000_0000_0000_0000_0000)))))))

abbrev pub output : List ℕ
output =
    answered 0x00_0000_0000_0001_0000_0000_0000_0000
    ++ (answered 0x00_0000_0000_0001_0000_0000_0000_0000
    ++ (answered 0x00_0000_0001_0001_0000_0000_0000_0000
    ++ (answered 0x00_0000_0000_0002_0000_0000_0000_0000
    ++ (answered 0x00_0001_0001_0002_1111_2222_3333_4444
    ++ (answered 0x00_0000_0000_0001_0000_0000_0000_0000
    ++ (answered 0x00_0001_0000_0001_0000_0000_0000_0000
    ++ listing_row 0x0001_0001_0002_0003_0000))))))

-- the statement: the program writes this for that input
pub worked : replay input ≡ output
unfolding replay run cut turn last row_lines shape shape_of well_formed number_from all_digits digits value is_digit digit
    layout_refusal entries fives each apart startable request laid_over step without enter from keep fold rows first refusal effect clean_buffer
    sum same given owner_of
worked = refl

-- ---- the bytes of the digits, written out
pub sixteen : digits 16 0x0123_4567_89AB_CDEF
    ≡ 0x30 ∷ 0x31 ∷ 0x32 ∷ 0x33 ∷ 0x34 ∷ 0x35 ∷ 0x36 ∷ 0x37 ∷ 0x38 ∷ 0x39 ∷ 0x41 ∷ 0x42 ∷ 0x43 ∷ 0x44 ∷ 0x45 ∷ 0x46 ∷ []
unfolding digits digit
sixteen = refl

-- ---- short runs
-- one process, called A
abbrev pub entry_A : List ℕ
entry_A = asks 0x00_0005_0001_4100_0000_0000_0000

-- the tick, to which a machine at rest answers zeros
abbrev pub tick : List ℕ
tick = asks 0x09_0000_0000_0000_0000_0000_0000

abbrev pub zeros_line : List ℕ
zeros_line = answered 0

-- "with no 00 line it is refused with 11"
abbrev pub eleven : List ℕ
eleven = answered 0x0B_0000_0000_0000_0000_0000_0000_0000

-- the refusal 2
abbrev pub two : List ℕ
two = answered 0x02_0000_0000_0000_0000_0000_0000_0000

-- and 19
abbrev pub nineteen : List ℕ
nineteen = answered 0x13_0000_0000_0000_0000_0000_0000_0000

pub record ShortRuns : Type 0 where
  -- no input; a line of another shape only; entries only, which write nothing
  pub nothing : replay [] ≡ eleven
  pub another_shape : replay (0x30 ∷ 0x0A ∷ []) ≡ FF ++ eleven
  pub entries_only : replay entry_A ≡ []
  -- a refused layout ends the run: the call that brings it about and what follows get no answer
  pub refused_ends : replay (tick ++ (entry_A ++ tick)) ≡ eleven
  -- "a late 00"; a call from 0E on, whatever its parts
  pub late : replay (entry_A ++ (tick ++ (entry_A ++ tick))) ≡ zeros_line ++ (FF ++ zeros_line)
  pub beyond : replay (entry_A ++ asks 0x0E_0001_0002_0003_0004_0005_0006) ≡ answered 0x0D_0000_0000_0000_0000_0000_0000_0000
  -- "(the replay has none)": LOWER and RAISE, whatever their parts, are refused with 2 while nobody runs, and with 19 then
  pub semaphores : replay
      (entry_A
      ++ (asks 0x0C_0001_0002_0003_0004_0005_0006
      ++ (asks 0x0D_0000_0000_0000_0000_0000_0001
      ++ (asks 0x06_0001_0000_0000_0000_0000_0000
      ++ (asks 0x0C_0001_0002_0003_0004_0005_0006
      ++ asks 0x0D_0000_0000_0000_0000_0000_0001)))))
      ≡ two ++ (two ++ (answered 0x00_0000_0000_0001_0000_0000_0000_0000 ++ (nineteen ++ nineteen)))
  -- a part that isn't zero in a call that doesn't use it: no layout is done, and a 00 after it isn't late
  pub unused : replay
      (asks 0x09_0001_0000_0000_0000_0000_0000
      ++ (asks 0x06_0001_0001_0000_0000_0000_0000
      ++ (asks 0x02_0001_0000_0000_0000_0000_0001
      ++ entry_A)))
      ≡ FF ++ (FF ++ FF)
  -- parts that are used: refused with 2, since nobody runs
  pub used : replay
      (entry_A
      ++ (asks 0x05_0001_0001_0000_0000_0000_0000
      ++ (asks 0x04_0001_0000_0000_0000_0000_0001
      ++ asks 0x01_0001_0000_0000_0000_0000_0001)))
      ≡ two ++ (two ++ two)
  -- a sixth word that isn't zero makes no entry
  pub sixth : replay (asks 0x00_0005_0001_4100_0000_0000_0001) ≡ FF ++ eleven
  -- an empty line is a line, and after the last end there is none; the last line may lack its end
  pub empty : replay (entry_A ++ (0x0A ∷ [])) ≡ FF
  pub unended : replay (entry_A ++ digits 26 0x09_0000_0000_0000_0000_0000_0000) ≡ zeros_line
  -- lower case is another shape: the B of call 0B as 62 hex
  pub lower_case : replay (entry_A ++ (0x30 ∷ 0x62 ∷ digits 24 0x0001_0000_0000_0000_0000_0000 ++ (0x0A ∷ []))) ≡ FF

pub short_runs : ShortRuns
unfolding replay run cut turn last row_lines shape shape_of well_formed number_from all_digits digits value is_digit digit
    layout_refusal entries fives each apart startable request laid_over step without enter from keep fold rows first refusal effect clean_buffer
    sum same given owner_of
short_runs =
    record {
      nothing = refl;
      another_shape = refl;
      entries_only = refl;
      refused_ends = refl;
      late = refl;
      beyond = refl;
      semaphores = refl;
      unused = refl;
      used = refl;
      sixth = refl;
      empty = refl;
      unended = refl;
      lower_case = refl;
    }
