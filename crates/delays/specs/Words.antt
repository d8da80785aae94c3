-- The words of a delay queue, any words at all, and what each call makes of them. Assumes nothing: these are definitions.
use Rattle.std.specs.Prelude.{◌≡◌, Bool, not, ◌&&◌, ◌||◌, List, [], ◌∷◌, ℕ, zero, suc, ◌+◌, ◌-◌, ◌*◌, ◌≤◌, length, get_or, set, eqb, leb, ltb, Result, Ok, Err}
use Rattle.std.proofs.lemmas.List.Edits.{sets}
use Rattle.machine.specs.Numbers.{no_such_process, room_too_short, most_processes}
use Rattle.machine.specs.Queue.{if}
use Rattle.delays.specs.declared.list.Spot.{Spot}
use Rattle.delays.specs.declared.list.Due.{Due}
use Rattle.delays.specs.declared.Ticked.{Ticked}
use Rattle.delays.specs.declared.Delay.{Delay}
use Rattle.delays.specs.declared.refusal.Refusal.{Refusal}
use Rattle.delays.specs.declared.refusal.Refusal.TheVariants.{NoQueue, NoSuchProcess, RoomTooShort, WrongNumber, WordsTooFew}

-- ---- the words by name
-- word 1
abbrev pub P_of : List ℕ → ℕ
P_of t = get_or t 1 0

-- word 2p: the process behind p, and of 0 the first; a link to no process is none
unfoldable pub next : List ℕ → ℕ → ℕ
next t p = if (leb (get_or t (2 * p) 0) (P_of t)) (get_or t (2 * p) 0) 0

-- word 2p + 1: how much later than the one before it p ends
abbrev pub difference : List ℕ → ℕ → ℕ
difference t p = get_or t (2 * p + 1) 0

abbrev pub put_next : ℕ → ℕ → List ℕ → List ℕ
put_next p v t = set t (2 * p) v

abbrev pub put_difference : ℕ → ℕ → List ℕ → List ℕ
put_difference p v t = set t (2 * p + 1) v

-- P is 1 to 32, and there are words enough
unfoldable pub sized : List ℕ → Bool
sized t = leb 1 (P_of t) && (leb (P_of t) most_processes && leb (2 + 2 * P_of t) (length t))

pub record Sized (t : List ℕ) : Type 0 where
  pub some : 1 ≤ P_of t
  pub few : P_of t ≤ most_processes
  pub long : 2 + 2 * P_of t ≤ length t

-- a sum that stays at 65,535 once there
unfoldable pub sum : ℕ → ℕ → ℕ
sum a b = if (leb (a + b) 65535) (a + b) 65535

-- ---- going along the list, at most as many links as there are processes
unfoldable pub walk : {A : Type 0} → (A → Bool) → (A → A) → ℕ → A → A
walk stop go zero a = a
walk stop go (suc k) a = if (stop a) a (walk stop go k (go a))

-- there is nobody behind s, or it is p
abbrev pub met : List ℕ → ℕ → Spot → Bool
met t p s = eqb (next t s.before) 0 || eqb (next t s.before) p

-- one further, the differences added up
abbrev pub further : List ℕ → Spot → Spot
further t s = record { before = next t s.before; time = sum s.time (difference t (next t s.before)) }

-- whom p stands behind, and when that one ends; the last of all, if p isn't there
abbrev pub sought : List ℕ → ℕ → Spot
sought t p = walk (met t p) (further t) (P_of t) (record { before = 0; time = 0 })

-- x, ending at c, comes before p, ending at d
abbrev pub sooner : ℕ → ℕ → ℕ → ℕ → Bool
sooner c x d p = ltb c d || (eqb c d && ltb x p)

-- there is nobody behind s, or one who comes after p
abbrev pub due_here : List ℕ → ℕ → Spot → Bool
due_here t p s = eqb (next t s.before) 0 || not (sooner (difference t (next t s.before)) (next t s.before) s.time p)

-- one further, the difference taken off
abbrev pub nearer : List ℕ → Spot → Spot
nearer t s = record { before = next t s.before; time = s.time - difference t (next t s.before) }

-- whom p is to stand behind, to end d from now, and how much later it ends than that one
abbrev pub place : List ℕ → ℕ → ℕ → Spot
place t p d = walk (due_here t p) (nearer t) (P_of t) (record { before = 0; time = d })

-- ---- the calls
-- p is one of 1 to P
abbrev pub member : List ℕ → ℕ → Bool
member t p = leb 1 p && leb p (P_of t)

-- the numbers of refusal: no delay queue, no such process, room for fewer than P, P not 1 to 32, too few words for P
abbrev pub no_queue : ℕ
no_queue = 1

abbrev pub wrong_number : ℕ
wrong_number = 11

abbrev pub words_too_few : ℕ
words_too_few = 12

abbrev pub number_of_refusal : Refusal → ℕ
number_of_refusal NoQueue = no_queue
number_of_refusal NoSuchProcess = no_such_process
number_of_refusal RoomTooShort = room_too_short
number_of_refusal WrongNumber = wrong_number
number_of_refusal WordsTooFew = words_too_few

-- what C is told of how a call went: of any, of a tick, and of the delay left
abbrev pub number_of : {A : Type 0} → Result A Refusal → ℕ
number_of (Ok _) = 0
number_of (Err e) = number_of_refusal e

abbrev pub ticked_of : Result ℕ Refusal → Ticked
ticked_of (Ok n) = record { number = 0; count = n }
ticked_of (Err e) = record { number = number_of_refusal e; count = 0 }

abbrev pub delay_of : Result ℕ Refusal → Delay
delay_of (Ok n) = record { number = 0; time = n }
delay_of (Err e) = record { number = number_of_refusal e; time = 0 }

-- of a call for process p
unfoldable pub refusal : List ℕ → ℕ → ℕ
refusal t p = if (sized t) (if (member t p) 0 no_such_process) no_queue

-- u, or t where it is refused
abbrev pub unless : {A : Type 0} → ℕ → A → A → A
unless zero u t = u
unless (suc n) u t = t

-- x ends that much later than the one before it, if there is an x
abbrev pub later : ℕ → ℕ → List ℕ → List ℕ
later x d t = if (eqb x 0) t (put_difference x (sum (difference t x) d) t)

abbrev pub earlier : ℕ → ℕ → List ℕ → List ℕ
earlier x d t = if (eqb x 0) t (put_difference x (difference t x - d) t)

-- p taken out from behind b
abbrev pub unlinked : ℕ → ℕ → List ℕ → List ℕ
unlinked b p t = later (next t p) (difference t p) (put_next b (next t p) t)

-- p is not waiting any more
unfoldable pub gone : ℕ → List ℕ → List ℕ
gone p t = if (eqb (next t (sought t p).before) p) (unlinked (sought t p).before p t) t

-- p put in behind b, to end d later than b
abbrev pub linked : ℕ → ℕ → ℕ → List ℕ → List ℕ
linked b d p t = earlier (next t b) d (put_next b p (put_difference p d (put_next p (next t b) t)))

-- p put in to end d from now
unfoldable pub entered : ℕ → ℕ → List ℕ → List ℕ
entered p d t = linked (place t p d).before (place t p d).time p t

-- p waits, with delay d; 0 is no limit
unfoldable pub waited : ℕ → ℕ → List ℕ → List ℕ
waited p d t = if (eqb d 0) (gone p t) (entered p d (gone p t))

-- p's delay left
unfoldable pub left : List ℕ → ℕ → ℕ
left t p = if (eqb (next t (sought t p).before) p) (sum (sought t p).time (difference t p)) 0

-- a tick: the first ends 1 earlier
abbrev pub fallen : List ℕ → List ℕ
fallen t = earlier (next t 0) 1 t

-- there is no x, or it ends later
abbrev pub over : List ℕ → ℕ → Bool
over t x = eqb x 0 || not (eqb (difference t x) 0)

-- from x on, those that end now, k at most
unfoldable pub due : List ℕ → ℕ → ℕ → List ℕ
due t zero x = []
due t (suc k) x = if (over t x) [] (x ∷ due t k (next t x))

-- who is first behind them
abbrev pub rest : List ℕ → ℕ → ℕ → ℕ
rest t k x = walk (over t) (next t) k x

unfoldable pub woken : List ℕ → List ℕ
woken t = due (fallen t) (P_of t) (next t 0)

unfoldable pub ticked : List ℕ → List ℕ
ticked t = put_next 0 (rest (fallen t) (P_of t) (next t 0)) (fallen t)

-- of a tick
unfoldable pub tick_refusal : List ℕ → ℕ → ℕ
tick_refusal t room = if (sized t) (if (leb (P_of t) room) 0 room_too_short) no_queue

-- an empty queue for P processes, and its refusal
unfoldable pub make_refusal : List ℕ → ℕ → ℕ
make_refusal t P = if (leb 1 P && leb P most_processes) (if (leb (2 + 2 * P) (length t)) 0 words_too_few) wrong_number

abbrev pub made : ℕ → List ℕ → List ℕ
made P t = set (set t 0 0) 1 P

-- ---- whether words show a queue
-- x, with the difference c, may stand behind b, which ends at s: later, or then with a higher number; the first, behind 0, later than now
abbrev pub may_follow : ℕ → ℕ → ℕ → ℕ → Bool
may_follow b s x c = leb c (65535 - s) && (leb 1 c || (leb 1 s && ltb b x))

-- from behind b on, which ends at s, each may stand where it does, and the list ends, k links on at most
unfoldable pub ordered : List ℕ → ℕ → ℕ → ℕ → Bool
ordered t zero b s = eqb (next t b) 0
ordered t (suc k) b s =
    eqb (next t b) 0 || (may_follow b s (next t b) (difference t (next t b)) && ordered t k (next t b) (s + difference t (next t b)))

unfoldable pub shown : List ℕ → Bool
shown t = sized t && ordered t (P_of t) 0 0

-- ---- what the calls promise
-- from the room s to the room v those that end now went in, from x on
pub record Gathers (t s v : List ℕ) (x : ℕ) (r : Due) : Type 0 where
  pub room : v ≡ sets s 0 (due t (P_of t) x)
  pub count : r.count ≡ length (due t (P_of t) x)
  pub rest : r.rest ≡ rest t (P_of t) x
  pub among : r.rest ≤ P_of t

-- of any words t, which become u
pub record Makes (t u : List ℕ) (P r : ℕ) : Type 0 where
  pub number : r ≡ make_refusal t P
  pub words : u ≡ unless (make_refusal t P) (made P t) t

pub record Waits (t u : List ℕ) (p d r : ℕ) : Type 0 where
  pub number : r ≡ refusal t p
  pub words : u ≡ unless (refusal t p) (waited p d t) t

pub record Leaves (t u : List ℕ) (p r : ℕ) : Type 0 where
  pub number : r ≡ refusal t p
  pub words : u ≡ unless (refusal t p) (gone p t) t

-- with the room s, which becomes v
pub record Ticks (t u s v : List ℕ) (r : Ticked) : Type 0 where
  pub number : r.number ≡ tick_refusal t (length s)
  pub count : r.count ≡ unless (tick_refusal t (length s)) (length (woken t)) 0
  pub words : u ≡ unless (tick_refusal t (length s)) (ticked t) t
  pub room : v ≡ unless (tick_refusal t (length s)) (sets s 0 (woken t)) s

pub record Remains (t : List ℕ) (p : ℕ) (r : Delay) : Type 0 where
  pub number : r.number ≡ refusal t p
  pub time : r.time ≡ unless (refusal t p) (left t p) 0
