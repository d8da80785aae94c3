-- Worked examples: processes with a buffer each, on the words of the machine that the calls lead to. Assumes nothing.
use Rattle.std.specs.Prelude.{◌≡◌, refl, Bool, true, false, List, [], ◌∷◌, ℕ}
use Rattle.machine.specs.Numbers.{no_such_process, wrong_state, room_too_short}
use Rattle.machine.specs.Queue.{same, without, enter, from, keep, fold}
use Rattle.machine.specs.Machine.{zeros, given}
use Rattle.machine.specs.Moves.{clean_buffer}
use Rattle.machine.specs.Request.{Request, Send, WaitAnswer, Start, Stop, Lower}
use Rattle.machine.specs.Refusal.{first, refusal}
use Rattle.machine.specs.Step.{effect, step, after}
use Rattle.machine.specs.Layout.{Entry, laid_over, laid, sum, owner_of}
use Rattle.machine.specs.Words.{image, home}
use Rattle.stuck.specs.declared.ChainReport.{ChainReport}
use Rattle.stuck.specs.declared.RingReport.{RingReport}
use Rattle.stuck.specs.Waiting.{of_table}
use Rattle.stuck.specs.Chain.{follow, onward, along, refused, answer, listed}
use Rattle.stuck.specs.Rings.{none_below, closed, refused_rings, answer_rings, listed_rings}

abbrev one : ℕ → ℕ → Entry
one priority letter = record { priority = priority; owns = 1; name₀ = letter; name₁ = 0; name₂ = 0 }

-- the words after such calls, of five processes with falling priorities and a semaphore of counter 0
abbrev table : List Request → List ℕ
table l = image (after (laid 0 (0 ∷ []) (one 9 0x4100 ∷ one 8 0x4200 ∷ one 7 0x4300 ∷ one 6 0x4400 ∷ one 5 0x4500 ∷ [])) l)

-- process p is started, sends to q, and waits for the answer
abbrev waits : ℕ → ℕ → List Request → List Request
waits p q l = Start p ∷ Send q zeros ∷ WaitAnswer p ∷ l

-- 1 behind 2 behind 3, which runs
abbrev chain_of_three : List ℕ
chain_of_three = table (waits 1 2 (waits 2 3 (Start 3 ∷ [])))

-- 5 in front of 1, and 1, 4 and 3 wait for each other; 2 waits for 1
abbrev three : List ℕ
three = table (waits 5 1 (waits 2 1 (waits 1 4 (waits 4 3 (waits 3 1 [])))))

-- 2 and 5 wait for each other, and so do 3 and 4; 1 for 3
abbrev two : List ℕ
two = table (waits 1 3 (waits 2 5 (waits 5 2 (waits 4 3 (waits 3 4 [])))))

-- the ring of three after a stop of 4
abbrev broken : List ℕ
broken = table (waits 5 1 (waits 2 1 (waits 1 4 (waits 4 3 (waits 3 1 (Stop 4 ∷ []))))))

-- 1 behind 2, which waits for the semaphore
abbrev lowering : List ℕ
lowering = table (waits 1 2 (Start 2 ∷ Lower 1 ∷ []))

abbrev told : ℕ → Bool → ChainReport
told count ring = record { number = 0; count = count; ring = ring }

abbrev found : ℕ → ℕ → RingReport
found rings words = record { number = 0; rings = rings; words = words }

abbrev room : List ℕ
room = 9 ∷ 9 ∷ 9 ∷ 9 ∷ 9 ∷ 9 ∷ 9 ∷ []

abbrev pub Chains : Type 0
Chains =
    (answer (of_table chain_of_three) 5 1 7 ≡ told 3 false) × (listed (of_table chain_of_three) 5 1 room ≡ 1 ∷ 2 ∷ 3 ∷ 9 ∷ 9 ∷ 9 ∷ 9 ∷ [])
    × (answer (of_table chain_of_three) 5 2 7 ≡ told 2 false) × (listed (of_table chain_of_three) 5 2 room ≡ 2 ∷ 3 ∷ 9 ∷ 9 ∷ 9 ∷ 9 ∷ 9 ∷ [])
    -- from a tail, and from the ring itself
    × (answer (of_table three) 5 5 7 ≡ told 4 true) × (listed (of_table three) 5 5 room ≡ 5 ∷ 1 ∷ 4 ∷ 3 ∷ 9 ∷ 9 ∷ 9 ∷ [])
    × (answer (of_table three) 5 3 7 ≡ told 3 true) × (listed (of_table three) 5 3 room ≡ 3 ∷ 1 ∷ 4 ∷ 9 ∷ 9 ∷ 9 ∷ 9 ∷ [])
    -- who waits for a semaphore is not in state 3
    × (answer (of_table lowering) 5 1 7 ≡ told 2 false) × (listed (of_table lowering) 5 1 room ≡ 1 ∷ 2 ∷ 9 ∷ 9 ∷ 9 ∷ 9 ∷ 9 ∷ [])
    × (answer (of_table lowering) 5 2 7 ≡ refused wrong_state)
    -- refusals
    × (answer (of_table chain_of_three) 5 6 7 ≡ refused no_such_process) × (answer (of_table chain_of_three) 5 0 7 ≡ refused no_such_process)
    × (answer (of_table chain_of_three) 5 3 7 ≡ refused wrong_state)
    × (answer (of_table chain_of_three) 5 1 2 ≡ refused room_too_short) × (listed (of_table chain_of_three) 5 1 (9 ∷ 9 ∷ []) ≡ 9 ∷ 9 ∷ [])

abbrev pub Rings : Type 0
Rings =
    (answer_rings (of_table chain_of_three) 5 0 ≡ found 0 0) × (listed_rings (of_table chain_of_three) 5 room ≡ room)
    × (answer_rings (of_table three) 5 7 ≡ found 1 4) × (listed_rings (of_table three) 5 room ≡ 1 ∷ 4 ∷ 3 ∷ 0 ∷ 9 ∷ 9 ∷ 9 ∷ [])
    × (answer_rings (of_table two) 5 7 ≡ found 2 6) × (listed_rings (of_table two) 5 room ≡ 2 ∷ 5 ∷ 0 ∷ 3 ∷ 4 ∷ 0 ∷ 9 ∷ [])
    × (answer_rings (of_table two) 5 5 ≡ refused_rings room_too_short) × (listed_rings (of_table two) 5 (9 ∷ 9 ∷ 9 ∷ 9 ∷ 9 ∷ []) ≡ 9 ∷ 9 ∷ 9 ∷ 9 ∷ 9 ∷ [])
    × (answer_rings (of_table broken) 5 7 ≡ found 0 0)

pub chains : Chains
unfolding same without enter from keep fold given clean_buffer first refusal effect step after laid_over sum owner_of image home
    follow onward along answer listed
chains = (refl, refl, refl, refl, refl, refl, refl, refl, refl, refl, refl, refl, refl, refl, refl, refl)

pub rings : Rings
unfolding same without enter from keep fold given clean_buffer first refusal effect step after laid_over sum owner_of image home
    follow onward along none_below closed answer_rings listed_rings
rings = (refl, refl, refl, refl, refl, refl, refl, refl, refl)
