-- Worked examples: three processes, in eight words that held other things and one word beyond. Assumes nothing.
use Rattle.std.specs.Prelude.{◌≡◌, refl, true, false, List, [], ◌∷◌, ℕ}
use Rattle.delays.specs.Words.{sized, next, sum, walk, refusal, gone, entered, waited, left, due, woken, ticked, tick_refusal, make_refusal, made}
use Rattle.delays.specs.Words.{ordered, shown}
use Rattle.delays.specs.Delays.{Wait, Wake, Stop, Clean, Tick, called, lists, called_all, lists_all}

abbrev empty : List ℕ
empty = made 3 (9 ∷ 9 ∷ 9 ∷ 9 ∷ 9 ∷ 9 ∷ 9 ∷ 9 ∷ 9 ∷ [])

-- 2 and 1 end together, 3 before them
abbrev three : List ℕ
three = called_all 3 empty (Wait 2 3 ∷ Wait 1 3 ∷ Wait 3 1 ∷ [])

-- links that run in a circle, and one to no process
abbrev circle : List ℕ
circle = 1 ∷ 3 ∷ 2 ∷ 0 ∷ 1 ∷ 0 ∷ 77 ∷ 65535 ∷ []

abbrev pub Rows : Type 0
Rows =
    -- the words: first 3, P 3; 1 then 2 with no difference, 2 last, 3 then 1
    (three ≡ 3 ∷ 3 ∷ 2 ∷ 2 ∷ 0 ∷ 0 ∷ 1 ∷ 1 ∷ 9 ∷ [])
    × (lists_all 3 three (Tick ∷ Tick ∷ Tick ∷ Tick ∷ []) ≡ (3 ∷ []) ∷ [] ∷ (1 ∷ 2 ∷ []) ∷ [] ∷ [])
    × (left three 2 ≡ 3) × (left three 3 ≡ 1)
    -- leaving, waiting anew, no limit
    × (lists_all 3 three (Stop 1 ∷ Tick ∷ Wait 2 1 ∷ Tick ∷ []) ≡ [] ∷ (3 ∷ []) ∷ [] ∷ (2 ∷ []) ∷ [])
    × (left (called_all 3 three (Wait 3 0 ∷ [])) 3 ≡ 0)
    × (called_all 3 three (Clean 3 ∷ Wake 1 ∷ Stop 2 ∷ []) ≡ 0 ∷ 3 ∷ 2 ∷ 3 ∷ 0 ∷ 3 ∷ 1 ∷ 1 ∷ 9 ∷ [])
    -- delays of 1 and of 65,535
    × (left (called_all 3 three (Wait 1 65535 ∷ Tick ∷ [])) 1 ≡ 65534)
    × (lists_all 3 three (Wait 1 65535 ∷ Wait 2 1 ∷ Tick ∷ Tick ∷ []) ≡ [] ∷ [] ∷ (2 ∷ 3 ∷ []) ∷ [] ∷ [])
    -- refusals change nothing
    × (refusal three 4 ≡ 4) × (refusal three 0 ≡ 4) × (refusal (1 ∷ []) 1 ≡ 1) × (called 3 three (Wait 4 1) ≡ three)
    × (tick_refusal three 2 ≡ 10) × (called 2 three Tick ≡ three)
    × (make_refusal three 0 ≡ 11) × (make_refusal three 33 ≡ 11) × (make_refusal three 4 ≡ 12)
    -- any words at all: a circle is followed for three links
    × (woken circle ≡ 1 ∷ 2 ∷ 1 ∷ []) × (left circle 3 ≡ 0) × (called 3 circle (Wait 3 5) ≡ 1 ∷ 3 ∷ 3 ∷ 0 ∷ 1 ∷ 0 ∷ 2 ∷ 5 ∷ [])

pub rows : Rows
unfolding sized next sum walk refusal gone entered waited left due woken ticked tick_refusal make_refusal called lists called_all lists_all
rows =
    (refl, refl, refl, refl, refl, refl, refl, refl, refl, refl, refl, refl, refl, refl, refl, refl, refl, refl, refl, refl, refl)

-- words that show a queue, and such as show none: too short, a circle, equal times by falling number, a first that ends now
abbrev pub ShownRows : Type 0
ShownRows =
    (shown empty ≡ true) × (shown three ≡ true) × (shown (1 ∷ 3 ∷ []) ≡ false) × (shown circle ≡ false)
    × (shown (2 ∷ 2 ∷ 0 ∷ 0 ∷ 1 ∷ 5 ∷ []) ≡ false) × (shown (1 ∷ 2 ∷ 0 ∷ 0 ∷ 0 ∷ 0 ∷ []) ≡ false)

pub shown_rows : ShownRows
unfolding sized next sum walk refusal gone entered waited ordered shown called called_all
shown_rows = (refl, refl, refl, refl, refl, refl)

-- the drawing in docs/DELAYS.md: five processes in words that held 9; the lists from top to bottom, and whom the tick wakes
abbrev top : List ℕ
top = called_all 5 (made 5 (9 ∷ 9 ∷ 9 ∷ 9 ∷ 9 ∷ 9 ∷ 9 ∷ 9 ∷ 9 ∷ 9 ∷ 9 ∷ 9 ∷ [])) (Wait 1 3 ∷ Wait 2 3 ∷ Wait 3 1 ∷ Wait 4 0 ∷ [])

abbrev pub DrawnRows : Type 0
DrawnRows =
    (top ≡ 3 ∷ 5 ∷ 2 ∷ 2 ∷ 0 ∷ 0 ∷ 1 ∷ 1 ∷ 9 ∷ 9 ∷ 9 ∷ 9 ∷ [])
    × (woken top ≡ 3 ∷ [])
    × (called_all 5 top (Tick ∷ []) ≡ 1 ∷ 5 ∷ 2 ∷ 2 ∷ 0 ∷ 0 ∷ 1 ∷ 0 ∷ 9 ∷ 9 ∷ 9 ∷ 9 ∷ [])
    × (called_all 5 top (Tick ∷ Wait 5 1 ∷ []) ≡ 5 ∷ 5 ∷ 2 ∷ 1 ∷ 0 ∷ 0 ∷ 1 ∷ 0 ∷ 9 ∷ 9 ∷ 1 ∷ 1 ∷ [])
    × (called_all 5 top (Tick ∷ Wait 5 1 ∷ Stop 1 ∷ []) ≡ 5 ∷ 5 ∷ 2 ∷ 1 ∷ 0 ∷ 1 ∷ 1 ∷ 0 ∷ 9 ∷ 9 ∷ 2 ∷ 1 ∷ [])

pub drawn_rows : DrawnRows
unfolding sized next sum walk refusal gone entered waited due woken ticked tick_refusal called called_all
drawn_rows = (refl, refl, refl, refl, refl)
