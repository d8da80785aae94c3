-- docs/MONITOR.md, 11, by computation: which words differ after the two cleans of machine/specs/CleaningOrder. Assumes nothing: these are definitions.
use Rattle.std.specs.Prelude.{◌≡◌, refl, not, List, [], ◌∷◌, map, ℕ, eqb}
use Rattle.machine.specs.Queue.{same, without, enter, from, keep, fold}
use Rattle.machine.specs.Machine.{Machine, zeros, given}
use Rattle.machine.specs.Moves.{clean_buffer}
use Rattle.machine.specs.Words.{Place, Header, Process, Buffer, size, place, home, links, word}
use Rattle.machine.specs.Request.{Start, Send, WaitAnswer}
use Rattle.machine.specs.Refusal.{first, refusal}
use Rattle.machine.specs.Step.{cleaned, effect, step, after}
use Rattle.machine.specs.Layout.{laid_over, laid, sum, owner_of}
use Rattle.machine.specs.CleaningOrder.{five, asking}

-- the places where the words of m and n differ, of 5 processes and 4 buffers
abbrev word_of : Machine → ℕ → ℕ
word_of m i = word m (links m) (place 5 4 i)

abbrev pub differing : Machine → Machine → List Place
differing m n = map (place 5 4) (keep (λ i. not (eqb (word_of m i) (word_of n i))) (from 0 (size 5 4 0)))

-- A and B, numbers 1 and 2, cleaned in either order: the last of the running queue; C's link in it, and the first and the last of C's events; the links
-- of D and E; those of C's two buffers
pub worked_order : differing (cleaned 2 (cleaned 1 asking)) (cleaned 1 (cleaned 2 asking))
    ≡ Header 3
    ∷ Process 3 0 ∷ Process 3 2 ∷ Process 3 3
    ∷ Process 4 0 ∷ Process 4 1
    ∷ Process 5 0 ∷ Process 5 1
    ∷ Buffer 1 0 ∷ Buffer 1 1
    ∷ Buffer 2 0 ∷ Buffer 2 1 ∷ []
unfolding laid_over step without enter from keep fold first refusal effect sum same given owner_of after clean_buffer home
worked_order = refl

-- where D and E alone have asked, nobody else runs: the first of the running queue too, who is current
abbrev pub asking_alone : Machine
asking_alone = after (laid 0 [] five) (Start 4 ∷ Send 1 zeros ∷ WaitAnswer 3 ∷ Start 5 ∷ Send 2 zeros ∷ WaitAnswer 4 ∷ [])

pub worked_current : differing (cleaned 2 (cleaned 1 asking_alone)) (cleaned 1 (cleaned 2 asking_alone))
    ≡ Header 2 ∷ Header 3
    ∷ Process 4 0 ∷ Process 4 1
    ∷ Process 5 0 ∷ Process 5 1 ∷ []
unfolding laid_over step without enter from keep fold first refusal effect sum same given owner_of after clean_buffer home
worked_current = refl
