-- The plain clock, and what it is that words keep its delays. Assumes nothing: these are definitions.
use Rattle.std.specs.Prelude.{◌≡◌, ◌&&◌, List, [], ◌∷◌, ℕ, ◌+◌, ◌-◌, ◌≤◌, ◌<◌, eqb, leb}
use Rattle.machine.specs.Queue.{if, at, from, keep, In, Range, Exact}
use Rattle.delays.specs.Words.{P_of, Sized, next, difference, unless, refusal, gone, waited, tick_refusal, woken, ticked}

-- ---- the plain clock: a delay for each process, 0 for no limit or not waiting
-- "each delay above 0 falls by 1"
abbrev pub fall : (ℕ → ℕ) → ℕ → ℕ
fall d = λ p. d p - 1

-- "processes whose delay has just fallen to 0", rising
abbrev pub ending : ℕ → (ℕ → ℕ) → List ℕ
ending P d = keep (λ p. eqb (d p) 1) (from 1 P)

-- what both clocks are fed
pub data Event : Type 0 where
  Wait : ℕ → ℕ → Event
  Wake : ℕ → Event
  Stop : ℕ → Event
  Clean : ℕ → Event
  Tick : Event

-- ---- the plain clock fed: for P processes; a process that isn't one of them changes nothing
abbrev pub at_member : ℕ → (ℕ → ℕ) → ℕ → ℕ → ℕ → ℕ
at_member P d p v = if (leb 1 p && leb p P) (at d p v) d

unfoldable pub fed : ℕ → (ℕ → ℕ) → Event → ℕ → ℕ
fed P d (Wait p v) = at_member P d p v
fed P d (Wake p) = at_member P d p 0
fed P d (Stop p) = at_member P d p 0
fed P d (Clean p) = at_member P d p 0
fed P d Tick = fall d

-- whom an event wakes by a delay that ran out
unfoldable pub wakes : ℕ → (ℕ → ℕ) → Event → List ℕ
wakes P d (Wait p v) = []
wakes P d (Wake p) = []
wakes P d (Stop p) = []
wakes P d (Clean p) = []
wakes P d Tick = ending P d

-- the delays after a stream of events, and who was woken at each
unfoldable pub fed_all : ℕ → (ℕ → ℕ) → List Event → ℕ → ℕ
fed_all P d [] = d
fed_all P d (e ∷ l) = fed_all P (fed P d e) l

unfoldable pub wakes_all : ℕ → (ℕ → ℕ) → List Event → List (List ℕ)
wakes_all P d [] = []
wakes_all P d (e ∷ l) = wakes P d e ∷ wakes_all P (fed P d e) l

-- ---- the queue fed: what the calls promise of its words; n words of room at a tick
unfoldable pub called : ℕ → List ℕ → Event → List ℕ
called n t (Wait p v) = unless (refusal t p) (waited p v t) t
called n t (Wake p) = unless (refusal t p) (gone p t) t
called n t (Stop p) = unless (refusal t p) (gone p t) t
called n t (Clean p) = unless (refusal t p) (gone p t) t
called n t Tick = unless (tick_refusal t n) (ticked t) t

unfoldable pub lists : ℕ → List ℕ → Event → List ℕ
lists n t (Wait p v) = []
lists n t (Wake p) = []
lists n t (Stop p) = []
lists n t (Clean p) = []
lists n t Tick = unless (tick_refusal t n) (woken t) []

unfoldable pub called_all : ℕ → List ℕ → List Event → List ℕ
called_all n t [] = t
called_all n t (e ∷ l) = called_all n (called n t e) l

unfoldable pub lists_all : ℕ → List ℕ → List Event → List (List ℕ)
lists_all n t [] = []
lists_all n t (e ∷ l) = lists n t e ∷ lists_all n (called n t e) l

-- a delay is a word
abbrev pub FitsWord : Event → Type 0
FitsWord (Wait p v) = v < 65536
FitsWord (Wake p) = Unit {0}
FitsWord (Stop p) = Unit {0}
FitsWord (Clean p) = Unit {0}
FitsWord Tick = Unit {0}

abbrev pub AllFitWords : List Event → Type 0
AllFitWords [] = Unit {0}
AllFitWords (e ∷ l) = FitsWord e × AllFitWords l

-- ---- the list
-- x ends before y; at equal times the lower number comes first
abbrev pub Sooner : (ℕ → ℕ) → ℕ → ℕ → Type 0
Sooner d x y = (d x ≤ d y) × (d x ≡ d y → x < y)

abbrev pub Rising : (ℕ → ℕ) → List ℕ → Type 0
Rising d [] = Unit {0}
Rising d (x ∷ q) = ((y : ℕ) → In y q → Sooner d x y) × Rising d q

-- from x on, behind one that ends at `since`, q stands linked, each with its difference to the one before
unfoldable pub LinkedByTime : (ℕ → ℕ) → (ℕ → ℕ) → (ℕ → ℕ) → ℕ → ℕ → List ℕ → Type 0
LinkedByTime next difference d x since [] = x ≡ 0
LinkedByTime next difference d x since (y ∷ q) = (x ≡ y) × (since + difference y ≡ d y) × LinkedByTime next difference d (next y) (d y) q

-- the words t keep the delays d: in a list by time left, of exactly the processes that wait with a limit
pub record Keeps (t : List ℕ) (d : ℕ → ℕ) : Type 0 where
  pub size : Sized t
  pub q : List ℕ
  pub stands : LinkedByTime (next t) (difference t) d (next t 0) 0 q
  pub rising : Rising d q
  pub exact : Exact (λ p. Range (P_of t) p × (1 ≤ d p)) q
  pub small : (p : ℕ) → Range (P_of t) p → d p < 65536
