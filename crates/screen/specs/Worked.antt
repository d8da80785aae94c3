-- Worked examples: the screen on the words of machines that calls lead to. Assumes nothing.
use Rattle.std.specs.Prelude.{◌≡◌, refl, List, [], ◌∷◌, ℕ, length}
use Rattle.machine.specs.Queue.{same, without, enter, from, keep, fold}
use Rattle.machine.specs.Machine.{Machine, zeros, given}
use Rattle.machine.specs.Moves.{clean_buffer}
use Rattle.machine.specs.Request.{Request, Send, WaitEvent, SendAnswer, Start, Clean, Lower}
use Rattle.machine.specs.Refusal.{shown, first, refusal}
use Rattle.machine.specs.Step.{rows, effect, step, after}
use Rattle.machine.specs.Layout.{Entry, laid_over, laid, sum, owner_of}
use Rattle.machine.specs.Words.{image, home}
use Rattle.screen.specs.declared.Summary.{Summary}
use Rattle.screen.specs.Screen.{filled, screen_refusal, screened}
use Rattle.screen.specs.Meaning.{rows_owned}
use Rattle.screen.specs.Reading.{along, taken, summary_at}

abbrev one : ℕ → ℕ → ℕ → Entry
one priority owns letter = record { priority = priority; owns = owns; name₀ = letter; name₁ = 0; name₂ = 0 }

-- 1 has two buffers, 2 has two, 3 has one; and there is a semaphore of counter 0
abbrev begun : List Request → Machine
begun l = after (laid 0 (0 ∷ []) (one 5 2 0x4100 ∷ one 4 2 0x4200 ∷ one 3 1 0x4300 ∷ [])) l

-- 1 sends to 2 and to 3 and waits; 2 takes the message, sends to 3, and answers, so that 1 wakes
abbrev mixed : Machine
mixed = begun (Start 1 ∷ Start 2 ∷ Start 3 ∷ Send 2 zeros ∷ Send 3 zeros ∷ WaitEvent 0 ∷ WaitEvent 0 ∷ Send 3 zeros ∷ SendAnswer 1 zeros ∷ [])

-- 1 sends to 2, which holds it; 1 is cleaned
abbrev orphaned : Machine
orphaned = begun (Start 1 ∷ Start 2 ∷ Send 2 zeros ∷ WaitEvent 0 ∷ WaitEvent 0 ∷ Clean 1 ∷ [])

-- 2 sends to 1, which waits for the semaphore
abbrev lowering : Machine
lowering = begun (Start 1 ∷ Lower 1 ∷ Start 2 ∷ Send 1 zeros ∷ [])

-- number, state, queue, sent
abbrev says : ℕ → ℕ → ℕ → ℕ → Summary
says n s q c = record { number = n; state = s; queue = q; sent = c }

abbrev old : Summary
old = says 9 9 9 9

-- four records lent, three, and two
abbrev four : List Summary
four = old ∷ old ∷ old ∷ old ∷ []

abbrev three : List Summary
three = old ∷ old ∷ old ∷ []

abbrev two : List Summary
two = old ∷ old ∷ []

abbrev pub Rows : Type 0
Rows =
    -- an answer in 1's queue and a message of its still in 3's: two sent; a message of 2 in 3's. The fourth record stays
    (screened mixed four ≡ says 1 1 1 2 ∷ says 2 1 0 1 ∷ says 3 1 2 0 ∷ old ∷ [])
    -- of the two rows listed for 1 both are its own, of the two for 3 none
    × (rows_owned 1 (length (shown mixed 1)) (rows mixed (shown mixed 1)) ≡ 2)
    × (rows_owned 3 (length (shown mixed 3)) (rows mixed (shown mixed 3)) ≡ 0) × (length (shown mixed 3) ≡ 2)
    -- the orphan counts for 1, and not for 2 that holds it
    × (screened orphaned four ≡ says 1 0 0 1 ∷ says 2 1 0 0 ∷ says 3 0 0 0 ∷ old ∷ [])
    × (rows_owned 1 (length (shown orphaned 1)) (rows orphaned (shown orphaned 1)) ≡ 1)
    -- a message queues at one in state 5
    × (screened lowering four ≡ says 1 5 1 0 ∷ says 2 1 0 1 ∷ says 3 0 0 0 ∷ old ∷ [])
    -- just enough, and too short
    × (screen_refusal mixed 3 ≡ 0) × (screened mixed three ≡ says 1 1 1 2 ∷ says 2 1 0 1 ∷ says 3 1 2 0 ∷ [])
    × (screen_refusal mixed 2 ≡ 10) × (screened mixed two ≡ two)
    -- the same as it is read off the words
    × (filled (summary_at (image mixed)) 3 four ≡ screened mixed four)

pub worked : Rows
unfolding same without enter from keep fold given clean_buffer first refusal rows effect step after laid_over sum owner_of image home filled
    rows_owned along taken
worked = (refl, refl, refl, refl, refl, refl, refl, refl, refl, refl, refl, refl)
