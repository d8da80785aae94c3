-- The links of a table, of every kind of queue alike: each queue is a circle through 0. Assumes nothing: these are definitions.
use Rattle.std.specs.Prelude.{ℕ, zero, suc, ◌+◌, ◌≤◌, ◌<◌, Bool, true, List, [], ◌∷◌, ◌++◌, ◌≡◌, eqb}
use Rattle.machine.specs.Queue.{if, same, at, Range, In, Out, head, next, previous, without, enter, passed}
use Rattle.machine.specs.Machine.{Machine, semaphore, semaphores, priority, up, with_semaphore, put_running, put_events, put_semaphore, set_semaphore}
use Rattle.machine.specs.Moves.{leave_running}
use Rattle.machine.specs.Walk.{passing}
use Rattle.machine.specs.Words.{Place, Header, Process, Buffer, Semaphore, index, Links, queue, process_queue, home, ShowsLinks, Shows}
use Rattle.table.specs.Fits.{Fits, MayWalk, MayLeave}
use Rattle.table.specs.declared.queue.Queue.{Queue as Named}

-- ---- the queues
-- a queue of processes, 0 the running queue and the others those of the semaphores; or the event queue of a process
pub data Queue : Type 0 where
  Processes : ℕ → Queue
  Events : ℕ → Queue

-- as the code names them
abbrev pub queue_in : Named → Queue
queue_in (Named.Processes s) = Processes s
queue_in (Named.Events p) = Events p

-- a where the two queues are one, else b
abbrev pub same_queue : {A : Type 0} → Queue → Queue → A → A → A
same_queue (Processes q) (Processes p) a b = same q p a b
same_queue (Processes q) (Events p) a b = b
same_queue (Events q) (Processes p) a b = b
same_queue (Events q) (Events p) a b = same q p a b

abbrev pub queue_of : Machine → Queue → List ℕ
queue_of m (Processes s) = process_queue m s
queue_of m (Events p) = queue m p

abbrev pub put_processes : ℕ → List ℕ → Machine → Machine
put_processes zero q m = put_running q m
put_processes (suc s) q m = with_semaphore m.counter (at m.waiters (suc s) q) m

abbrev pub put_queue : Queue → List ℕ → Machine → Machine
put_queue (Processes s) q m = put_processes s q m
put_queue (Events p) q m = put_events p q m

-- ---- the links
-- the link of each number in each queue, on side 0 its next, on side 1 its previous
abbrev pub Neighbours : Type 0
Neighbours = Queue → ℕ → ℕ → ℕ

unfoldable pub links_of : Neighbours → Links
links_of g =
    record {
      process_next = λ s. g (Processes s) 0;
      process_previous = λ s. g (Processes s) 1;
      event_next = λ p. g (Events p) 0;
      event_previous = λ p. g (Events p) 1;
    }

abbrev pub neighbour : ℕ → List ℕ → ℕ → ℕ
neighbour zero q x = next q x
neighbour (suc side) q x = previous q x

abbrev pub neighbours : Machine → Neighbours
neighbours m w side x = neighbour side (queue_of m w) x

-- where a link stands: the ends of a queue, which are 0's links, at its head; the links of a member in its record
abbrev pub head_of : ℕ → ℕ → Place
head_of zero side = Header (suc (suc side))
head_of (suc s) side = Semaphore (suc s) (suc side)

abbrev pub place_of : Queue → ℕ → ℕ → Place
place_of (Processes s) side zero = head_of s side
place_of (Processes s) side (suc x) = Process (suc x) side
place_of (Events p) side zero = Process p (suc (suc side))
place_of (Events p) side (suc x) = Buffer (suc x) side

-- the link of x becomes y
abbrev pub set_link : Queue → ℕ → ℕ → ℕ → Neighbours → Neighbours
set_link w side x y g = λ u k z. same_queue u w (same k side (same z x y (g u k z)) (g u k z)) (g u k z)

-- y follows x
abbrev pub join : Queue → ℕ → ℕ → Neighbours → Neighbours
join w x y g = set_link w 1 y x (set_link w 0 x y g)

-- both links of x
abbrev pub set_links : Queue → ℕ → ℕ → ℕ → Neighbours → Neighbours
set_links w x next previous g = set_link w 1 x previous (set_link w 0 x next g)

-- ---- what may be linked
-- the numbers that may stand in a queue: of P processes those that name it, of B buffers those at home there
abbrev pub Member : ℕ → ℕ → (ℕ → ℕ) → (ℕ → ℕ) → Queue → ℕ → Type 0
Member P B named home (Processes s) x = (x ≤ P) × (named x ≡ s)
Member P B named home (Events p) x = (x ≤ B) × (home x ≡ p)

-- there is such a queue, of P processes and S semaphores
abbrev pub There : ℕ → ℕ → Queue → Type 0
There P S (Processes s) = s ≤ S
There P S (Events p) = Range P p

abbrev pub ThereIn : Machine → Queue → Type 0
ThereIn m = There m.P (semaphores m)

abbrev pub MemberOf : Machine → Queue → ℕ → Type 0
MemberOf m = Member m.P m.B (semaphore m) (home m.buffer)

-- x stands for an end of the queue, or may stand in it
abbrev pub Linkable : Queue → ℕ → Machine → Type 0
Linkable w x m = ThereIn m w × (1 ≤ x → MemberOf m w x)

-- the link of x may be read and set
pub record MayLink (w : Queue) (side x : ℕ) (m : Machine) : Type 0 where
  pub low : side ≤ 1
  pub linkable : Linkable w x m

-- x may stand in the queue, and its next link is found at index i; its previous link stands behind that
pub record LinksAt (w : Queue) (x i : ℕ) (m : Machine) : Type 0 where
  pub is : 1 ≤ x
  pub linkable : Linkable w x m
  pub found : i ≡ index m.P m.B (place_of w 0 x)

pub record MayJoin (w : Queue) (x y : ℕ) (m : Machine) : Type 0 where
  pub from : Linkable w x m
  pub to : Linkable w y m

-- ---- the form of a promise on links
-- the words t have the links g, on a machine of which May holds
pub record CanLink (t : List ℕ) (May : Machine → Type 0) : Type 0 where
  pub m : Machine
  pub g : Neighbours
  pub shows : ShowsLinks t m (links_of g)
  pub may : May m

-- from t to u the links change by f
abbrev pub DoesLink : List ℕ → List ℕ → (Machine → Type 0) → (Neighbours → Neighbours) → Type 0
DoesLink t u May f = (m : Machine) (g : Neighbours) → ShowsLinks t m (links_of g) → May m → ShowsLinks u m (links_of (f g))

-- from t to u the links found at i change, in whatever queue that is
abbrev pub DoesLinks : List ℕ → List ℕ → ℕ → ℕ → ℕ → Type 0
DoesLinks t u i next previous = (m : Machine) (g : Neighbours) (w : Queue) (x : ℕ) → ShowsLinks t m (links_of g) → LinksAt w x i m
    → ShowsLinks u m (links_of (set_links w x next previous g))

-- r is what `get` says of the links that t has
abbrev pub GivesLink : List ℕ → (Machine → Type 0) → (Neighbours → ℕ) → ℕ → Type 0
GivesLink t May get r = (m : Machine) (g : Neighbours) → ShowsLinks t m (links_of g) → May m → r ≡ get g

-- ---- a number put into a queue
-- r is q with x put in behind a, where z stands before q
pub data Puts (x : ℕ) : ℕ → ℕ → List ℕ → List ℕ → Type 0 where
  here : {z : ℕ} {q : List ℕ} → Puts x z z q (x ∷ q)
  later : {z a c : ℕ} {q r : List ℕ} → Puts x c a q r → Puts x z a (c ∷ q) (c ∷ r)

-- the queue w fits, and x, which may stand in it and does not yet, may go between a and b
pub record Insertion (There : Type 0) (Member : ℕ → Type 0) (q : List ℕ) (a b x : ℕ) : Type 0 where
  pub there : There
  pub fits : Fits Member q
  pub is : 1 ≤ x
  pub member : Member x
  pub new : Out x q
  pub behind : In a (0 ∷ q)
  pub follows : b ≡ next q a

abbrev pub MayInsert : Queue → ℕ → ℕ → ℕ → Machine → Type 0
MayInsert w a b x m = Insertion (ThereIn m w) (MemberOf m w) (queue_of m w) a b x

-- from t to u, x goes into the queue between a and b
abbrev pub Inserts : List ℕ → List ℕ → Queue → ℕ → ℕ → ℕ → Type 0
Inserts t u w a b x = (m : Machine) (r : List ℕ) → Shows t m → MayInsert w a b x m → Puts x 0 a (queue_of m w) r → Shows u (put_queue w r m)

-- and x may go last
pub record Addition (There : Type 0) (Member : ℕ → Type 0) (q : List ℕ) (x : ℕ) : Type 0 where
  pub there : There
  pub fits : Fits Member q
  pub is : 1 ≤ x
  pub member : Member x
  pub new : Out x q

abbrev pub MayAdd : Queue → ℕ → Machine → Type 0
MayAdd w x m = Addition (ThereIn m w) (MemberOf m w) (queue_of m w) x

-- x last in the queue
abbrev pub add : Queue → ℕ → Machine → Machine
add w x m = put_queue w (queue_of m w ++ (x ∷ [])) m

-- who enters q, behind all of rank `bar` or higher, goes between a and b, and passes n
pub record EntersAt (rank : ℕ → ℕ) (bar : ℕ) (q : List ℕ) (a b n : ℕ) : Type 0 where
  pub puts : (p : ℕ) → Puts p 0 a q (enter rank bar p q)
  pub follows : b ≡ next q a
  pub passes : n ≡ passed rank bar q

-- so in the running queue of what t shows; the number of processes is a word
pub record EntersBehind (t : List ℕ) (bar a b n : ℕ) : Type 0 where
  pub at : (m : Machine) → Shows t m → MayWalk m → EntersAt (priority m) bar m.running a b n
  pub few : (m : Machine) → Shows t m → m.P < 65536

-- p is the first of q, and who follows, if anybody, ranks below it
pub record Foremost (rank : ℕ → ℕ) (q : List ℕ) (p : ℕ) : Type 0 where
  pub rest : List ℕ
  pub first : q ≡ p ∷ rest
  pub lower : (head rest ≡ 0 → ⊥) → rank (head rest) < rank p

-- r only where p is so in the running queue of what t shows
abbrev pub KeepsPlace : List ℕ → ℕ → Bool → Type 0
KeepsPlace t p r = r ≡ true → (m : Machine) → Shows t m → MayLeave p m → Foremost (priority m) m.running p

-- the counter's word of semaphore s becomes x
abbrev pub put_counter : ℕ → ℕ → Machine → Machine
put_counter s x m = with_semaphore (at m.counter s x) m.waiters m

-- p last in its queue
abbrev pub waits_last : ℕ → ℕ → Machine → Machine
waits_last s p m = with_semaphore m.counter (at m.waiters s (m.waiters s ++ (p ∷ []))) m

-- p names no semaphore any more, and one is added to the counter of s
abbrev pub counted_out : ℕ → ℕ → Machine → Machine
counted_out s p m = set_semaphore p 0 (put_counter s (up (m.counter s)) m)

-- p out of its queue, naming it no more, and one added to the counter
abbrev pub leaves_semaphore : ℕ → ℕ → Machine → Machine
leaves_semaphore s p m = set_semaphore p 0 (put_semaphore s (up (m.counter s)) (without p (m.waiters s)) m)

-- the position that p takes in the running queue, from 1
abbrev pub position : ℕ → ℕ → Machine → ℕ
position reason p m = passing reason p m + 1

-- what p passes that leaves and enters again
abbrev pub moving_on : ℕ → Machine → ℕ
moving_on p m = if (eqb p 0) 0 (passing 0 p (leave_running p m))

-- the queue w fits, and x stands in it
pub record Removal (There : Type 0) (Member : ℕ → Type 0) (q : List ℕ) (x : ℕ) : Type 0 where
  pub there : There
  pub fits : Fits Member q
  pub stands : In x q

abbrev pub MayRemove : Queue → ℕ → Machine → Type 0
MayRemove w x m = Removal (ThereIn m w) (MemberOf m w) (queue_of m w) x

-- and a before it
abbrev pub MayRemoveBehind : Queue → ℕ → ℕ → Machine → Type 0
MayRemoveBehind w a x m = MayRemove w x m × (a ≡ previous (queue_of m w) x)

-- x out of the queue
abbrev pub remove : Queue → ℕ → Machine → Machine
remove w x m = put_queue w (without x (queue_of m w)) m
