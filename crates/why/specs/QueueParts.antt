-- Queues by what each record says of itself and of its neighbour, so that what is wrong can be told at a record. Assumes nothing: these
-- are definitions.
use Rattle.std.specs.Prelude.{Bool, false, not, ◌&&◌, ◌||◌, ◌≡◌, ◌⊎◌, List, [], ◌∷◌, ℕ, zero, suc, ◌+◌, ◌≤◌, get_or, eqb, leb}
use Rattle.machine.specs.Numbers.{state_running, state_waits_semaphore, standing_queued, standing_answered}
use Rattle.machine.specs.Records.{header_first, header_last, process_next, process_previous, process_first, process_last, process_state, process_semaphore}
use Rattle.machine.specs.Records.{buffer_next, buffer_previous, buffer_owner, buffer_receiver, buffer_standing, semaphore_first, semaphore_last}
use Rattle.machine.specs.Queue.{if, Range, In}
use Rattle.machine.specs.Sound.{P_of, B_of, S_of, process_at, buffer_at, semaphore_at}
use Rattle.machine.specs.Words.{Process, Buffer, Semaphore, index}

-- queues of one kind: how many there are, and of how many records; the queue in which a record belongs, 0 for none; its links; the ends of
-- each queue; the places of a record's next and of a queue's first (its previous and its last stand one behind)
pub record Queues : Type 0 where
  pub number : ℕ
  pub records : ℕ
  pub home : ℕ → ℕ
  pub next : ℕ → ℕ
  pub previous : ℕ → ℕ
  pub first : ℕ → ℕ
  pub last : ℕ → ℕ
  pub links : ℕ → ℕ
  pub ends : ℕ → ℕ

-- ---- the three kinds
-- the running queue, the one that there is: of the processes in state 1
abbrev pub running : List ℕ → Queues
running w = record {
  number = 1;
  records = P_of w;
  home = λ p. if (eqb (process_at w p process_state) state_running) 1 0;
  next = λ p. process_at w p process_next;
  previous = λ p. process_at w p process_previous;
  first = λ h. get_or w header_first 0;
  last = λ h. get_or w header_last 0;
  links = λ p. index (P_of w) (B_of w) (Process p process_next);
  ends = λ h. header_first;
}

-- the processes' event queues: of the buffers of standing 1 at their receiver, of standing 3 at their owner
abbrev pub events : List ℕ → Queues
events w = record {
  number = P_of w;
  records = B_of w;
  home = λ b. if (eqb (buffer_at w b buffer_standing) standing_queued) (buffer_at w b buffer_receiver)
      (if (eqb (buffer_at w b buffer_standing) standing_answered) (buffer_at w b buffer_owner) 0);
  next = λ b. buffer_at w b buffer_next;
  previous = λ b. buffer_at w b buffer_previous;
  first = λ p. process_at w p process_first;
  last = λ p. process_at w p process_last;
  links = λ b. index (P_of w) (B_of w) (Buffer b buffer_next);
  ends = λ p. index (P_of w) (B_of w) (Process p process_first);
}

-- the semaphores' queues: of the processes in state 5, at the semaphore that they name
abbrev pub waiting_queues : List ℕ → Queues
waiting_queues w = record {
  number = S_of w;
  records = P_of w;
  home = λ p. if (eqb (process_at w p process_state) state_waits_semaphore) (process_at w p process_semaphore) 0;
  next = λ p. process_at w p process_next;
  previous = λ p. process_at w p process_previous;
  first = λ s. semaphore_at w s semaphore_first;
  last = λ s. semaphore_at w s semaphore_last;
  links = λ p. index (P_of w) (B_of w) (Process p process_next);
  ends = λ s. index (P_of w) (B_of w) (Semaphore s semaphore_first);
}

-- and their numbers
abbrev pub running_queue : ℕ
running_queue = 0

abbrev pub event_queues : ℕ
event_queues = 1

abbrev pub semaphore_queues : ℕ
semaphore_queues = 2

abbrev pub queues : List ℕ → ℕ → Queues
queues w zero = running w
queues w (suc zero) = events w
queues w (suc (suc k)) = waiting_queues w

-- ---- what each queue and each record is asked
-- x is one of 1 to n
abbrev pub among : ℕ → ℕ → Bool
among n x = leb 1 x && leb x n

-- x is none, or a record that belongs in queue h
abbrev pub belongs : Queues → ℕ → ℕ → Bool
belongs q h x = eqb x 0 || (leb x q.records && eqb (q.home x) h)

-- x belongs in a queue that there is
abbrev pub housed : Queues → ℕ → Bool
housed q x = among q.number (q.home x)

-- a queue followed from `at`, for at most k records
unfoldable pub along : Queues → ℕ → ℕ → List ℕ
along q zero at = []
along q (suc k) at = if (among q.records at) (at ∷ along q k (q.next at)) []

-- x is met on the way
unfoldable pub meets : Queues → ℕ → ℕ → ℕ → Bool
meets q zero at x = false
meets q (suc k) at x = among q.records at && (eqb at x || meets q k (q.next at) x)

-- the parts of 'linked both ways, exactly those, each once': of a queue, its first and its last belong there, and before the first is none;
-- of a record that belongs in a queue, what is behind it belongs there too, and comes back to it (behind the last is none), and it is met
-- where the queue is followed from its first
pub data Part : Type 0 where
  First : Part
  Last : Part
  Start : Part
  Next : Part
  Back : Part
  Met : Part

-- of queue or record x
abbrev pub part_holds : Queues → Part → ℕ → Bool
part_holds q First h = belongs q h (q.first h)
part_holds q Last h = belongs q h (q.last h)
part_holds q Start h = not (among q.records (q.first h)) || eqb (q.previous (q.first h)) 0
part_holds q Next x = not (housed q x) || belongs q (q.home x) (q.next x)
part_holds q Back x =
    not (housed q x) || ((not (eqb (q.next x) 0) || eqb (q.last (q.home x)) x)
    && (not (among q.records (q.next x)) || eqb (q.previous (q.next x)) x))
part_holds q Met x = not (housed q x) || meets q q.records (q.first (q.home x)) x

-- the same as propositions
abbrev pub Belongs : Queues → ℕ → ℕ → Type 0
Belongs q h x = (x ≡ 0) ⊎ ((x ≤ q.records) × (q.home x ≡ h))

abbrev pub PartHolds : Queues → Part → ℕ → Type 0
PartHolds q First h = Belongs q h (q.first h)
PartHolds q Last h = Belongs q h (q.last h)
PartHolds q Start h = Range q.records (q.first h) → q.previous (q.first h) ≡ 0
PartHolds q Next x = Range q.number (q.home x) → Belongs q (q.home x) (q.next x)
PartHolds q Back x =
    Range q.number (q.home x) → (q.next x ≡ 0 → q.last (q.home x) ≡ x) × (Range q.records (q.next x) → q.previous (q.next x) ≡ x)
PartHolds q Met x = Range q.number (q.home x) → In x (along q q.records (q.first (q.home x)))

-- how many queues or records are asked, and the word that is named where one fails
abbrev pub asked : Queues → Part → ℕ
asked q First = q.number
asked q Last = q.number
asked q Start = q.number
asked q Next = q.records
asked q Back = q.records
asked q Met = q.records

abbrev pub named : Queues → Part → ℕ → ℕ
named q First h = q.ends h
named q Last h = q.ends h + 1
named q Start h = q.links (q.first h) + 1
named q Next x = q.links x
named q Back x = if (eqb (q.next x) 0) (q.ends (q.home x) + 1) (q.links (q.next x) + 1)
named q Met x = q.links x
