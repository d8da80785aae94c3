-- A sound table, and for each clause one that breaks it: what is told. Assumes nothing.
use Rattle.std.specs.Prelude.{◌≡◌, refl, List, [], ◌∷◌, ◌++◌, ℕ, take, set}
use Rattle.machine.specs.Queue.{from, keep}
use Rattle.machine.specs.Machine.{given}
use Rattle.lists.specs.Counts.{all}
use Rattle.why.specs.QueueParts.{along, meets}
use Rattle.why.specs.Clause.{clause_of}
use Rattle.why.specs.Fault.{lowest, told, fault}

-- eight words of zero
abbrev zeros : List ℕ
zeros = 0 ∷ 0 ∷ 0 ∷ 0 ∷ 0 ∷ 0 ∷ 0 ∷ 0 ∷ []

-- links and event queue, state, reason, delay, and what is waited for; priority, own buffers and name; the semaphore
abbrev process : List ℕ → List ℕ → ℕ → ℕ → ℕ → List ℕ → ℕ → List ℕ
process l waits priority first owns name s = l ++ waits ++ (priority ∷ first ∷ owns ∷ []) ++ name ++ (s ∷ [])

abbrev links : ℕ → ℕ → ℕ → ℕ → List ℕ
links next previous first last = next ∷ previous ∷ first ∷ last ∷ []

abbrev state : ℕ → ℕ → ℕ → ℕ → ℕ → List ℕ
state s reason delay buffer device = s ∷ reason ∷ delay ∷ buffer ∷ device ∷ []

abbrev name : ℕ → List ℕ
name letter = letter ∷ 0 ∷ 0 ∷ []

-- links, owner, receiver, standing, age, and one word of the message
abbrev buffer : ℕ → ℕ → ℕ → ℕ → ℕ → ℕ → ℕ → List ℕ
buffer next previous owner receiver standing age x = next ∷ previous ∷ owner ∷ receiver ∷ standing ∷ age ∷ x ∷ 0 ∷ 0 ∷ 0 ∷ []

-- seven processes, five buffers and a semaphore, in edition 1. 1 and 2 run; 3 waits for an event, 4 for the answer to buffer 4, 5 for device 3, 6 and 7
-- for the semaphore. Buffers 1 and 4 are queued at 1, 2 is answered, 3 is free, 5 is held by 2. Device 6 keeps an interrupt.
abbrev station : List ℕ
station =
    (7 ∷ 5 ∷ 1 ∷ 2 ∷ 1 ∷ 1 ∷ 0 ∷ 0 ∷ []) ++ (0 ∷ 0 ∷ 0 ∷ 5 ∷ 0 ∷ 0 ∷ 0xFFFF ∷ 0 ∷ []) ++ zeros ++ zeros ++ zeros ++ zeros ++ zeros ++ zeros ++ zeros
    ++ process (links 2 0 1 4) (state 1 0 0 0 0) 9 0 0 (name 0x4100) 0
    ++ process (links 0 1 2 2) (state 1 1 0 0 0) 5 1 3 (name 0x4200) 0
    ++ process (links 0 0 0 0) (state 2 0 10 0 0) 4 0 0 (name 0x4300) 0
    ++ process (links 0 0 0 0) (state 3 0 0 4 0) 4 4 1 (name 0x4400) 0
    ++ process (links 0 0 0 0) (state 4 0 7 0 4) 4 5 1 (name 0x4500) 0
    ++ process (links 7 0 0 0) (state 5 0 0 0 0) 4 0 0 (name 0x4600) 1
    ++ process (links 0 6 0 0) (state 5 0 0 0 0) 4 0 0 (name 0x4700) 1
    ++ buffer 4 0 2 1 1 3 8 ++ buffer 0 0 2 3 3 2 8 ++ buffer 0 0 2 0 0 0 0 ++ buffer 0 1 4 1 1 1 8 ++ buffer 0 0 5 2 2 0 8
    ++ (65534 ∷ 6 ∷ 7 ∷ 0 ∷ [])

-- the station, with one word written over
abbrev over : ℕ → ℕ → List ℕ
over i v = set station i v

-- its first n words
abbrev cut : ℕ → List ℕ
cut n = take n station

-- the buffers at 1 moved to 3, which waits for an event
abbrev moved : List ℕ
moved = set (set (set (set (set (over 74 0) 75 0) 106 1) 107 4) 187 3) 217 3

abbrev pub Size : Type 0
Size =
    (fault station ≡ told 0 0 0) × (fault (station ++ (9 ∷ 9 ∷ [])) ≡ told 0 0 0) × (fault [] ≡ told 1 1 0)
    × (fault (cut 71) ≡ told 1 1 71) × (fault (over 0 33) ≡ told 2 1 0) × (fault (over 0 0) ≡ told 2 1 0)
    × (fault (over 1 129) ≡ told 3 1 1) × (fault (over 5 17) ≡ told 4 1 5) × (fault (cut 237) ≡ told 5 1 237)

pub size : Size
unfolding lowest clause_of along meets given all from keep
size = (refl, refl, refl, refl, refl, refl, refl, refl, refl)

abbrev pub Fixed : Type 0
Fixed =
    (fault (over 4 2) ≡ told 6 1 4) × (fault (over 7 1) ≡ told 7 2 7) × (fault (over 237 1) ≡ told 8 1 237)
    × (fault (over 113 256) ≡ told 9 3 113) × (fault (set (over 113 0) 145 0) ≡ told 9 3 113) × (fault (over 116 0x0041) ≡ told 10 3 116)
    × (fault (over 116 0x4200) ≡ told 11 3 116) × (fault (over 130 3) ≡ told 12 4 130) × (fault (over 147 2) ≡ told 13 1 1)
    × (fault (over 206 4) ≡ told 14 3 206)

pub fixed : Fixed
unfolding lowest clause_of along meets given all from keep
fixed = (refl, refl, refl, refl, refl, refl, refl, refl, refl, refl)

abbrev pub Running : Type 0
Running =
    (fault (over 2 3) ≡ told 15 1 2) × (fault (over 3 9) ≡ told 16 1 3) × (fault (over 2 2) ≡ told 17 1 89)
    × (fault (over 72 3) ≡ told 18 1 72) × (fault (over 72 1) ≡ told 19 1 73) × (fault (over 89 7) ≡ told 19 1 89)
    × (fault (over 2 0) ≡ told 20 1 72) × (fault (over 81 4) ≡ told 21 1 81) × (fault (over 105 2) ≡ told 22 3 105)

pub running : Running
unfolding lowest clause_of along meets given all from keep
running = (refl, refl, refl, refl, refl, refl, refl, refl, refl)

abbrev pub Events : Type 0
Events =
    (fault (over 74 5) ≡ told 23 1 74) × (fault (over 107 9) ≡ told 24 3 107) × (fault (over 74 4) ≡ told 25 1 215)
    × (fault (over 184 5) ≡ told 26 1 184) × (fault (over 75 1) ≡ told 27 4 75) × (fault (over 90 0) ≡ told 28 2 194)
    × (fault (over 224 1) ≡ told 29 5 224) × (fault (over 208 5) ≡ told 30 3 208) × (fault (over 211 1) ≡ told 31 3 211)
    × (fault (over 227 5) ≡ told 32 5 227)

pub events : Events
unfolding lowest clause_of along meets given all from keep
events = (refl, refl, refl, refl, refl, refl, refl, refl, refl, refl)

abbrev pub Semaphores : Type 0
Semaphores =
    (fault (over 235 1) ≡ told 33 1 235) × (fault (over 236 5) ≡ told 34 1 236) × (fault (over 235 7) ≡ told 35 1 169)
    × (fault (over 152 4) ≡ told 36 6 152) × (fault (over 169 3) ≡ told 37 6 169) × (fault (over 235 0) ≡ told 38 6 152)
    × (fault (over 234 65533) ≡ told 39 1 234)

pub semaphores : Semaphores
unfolding lowest clause_of along meets given all from keep
semaphores = (refl, refl, refl, refl, refl, refl, refl)

abbrev pub Processes : Type 0
Processes =
    (fault (over 108 6) ≡ told 40 3 108) × (fault (over 93 4) ≡ told 41 2 93) × (fault (over 109 1) ≡ told 42 3 109)
    × (fault (over 119 1) ≡ told 43 3 119) × (fault moved ≡ told 44 3 106) × (fault (over 127 5) ≡ told 45 4 127)
    × (fault (over 144 5) ≡ told 46 5 144) × (fault (over 78 3) ≡ told 47 1 78) × (fault (over 14 5) ≡ told 48 7 14)

pub processes : Processes
unfolding lowest clause_of along meets given all from keep
processes = (refl, refl, refl, refl, refl, refl, refl, refl, refl)
