-- docs/MONITOR.md, 2: the places of a table, the word of a machine at each, and what it is for words to show a machine. Assumes
-- nothing: these are definitions.
use Rattle.std.specs.Prelude.{◌≡◌, List, [], map, ℕ, zero, suc, ◌+◌, ◌-◌, ◌*◌, ◌/◌, ◌%◌, ◌≤◌, ◌<◌, length, get_or, drop, ltb}
use Rattle.machine.specs.Numbers.{standing_queued, standing_answered}
use Rattle.machine.specs.Records.{header_edition, header_semaphores, header_zero, header_second_zero, header_width, process_base, process_width}
use Rattle.machine.specs.Records.{buffer_base, buffer_width, buffer_owner, buffer_receiver, buffer_standing, semaphore_base, semaphore_width}
use Rattle.machine.specs.Queue.{if, same, next, previous, from}
use Rattle.machine.specs.Machine.{Machine, semaphore, semaphores}

-- a word's place: word i of the header, word f of process p, word g of buffer b, word h of semaphore s
pub data Place : Type 0 where
  Header : ℕ → Place
  Process : ℕ → ℕ → Place
  Buffer : ℕ → ℕ → Place
  Semaphore : ℕ → ℕ → Place

-- "Length used: 72 + 16P + 10B"; "grows by four words each"
abbrev pub size : ℕ → ℕ → ℕ → ℕ
size n k j = header_width + process_width * n + buffer_width * k + semaphore_width * j

-- where a place stands in a table of n processes and k buffers: 72 + 16 (p - 1) + f, 72 + 16 n + 10 (b - 1) + g,
-- 72 + 16 n + 10 k + 4 (s - 1) + h
abbrev pub index : ℕ → ℕ → Place → ℕ
index n k (Header i) = i
index n k (Process p f) = process_base + process_width * p + f
index n k (Buffer b g) = buffer_base + process_width * n + buffer_width * b + g
index n k (Semaphore s h) = semaphore_base + process_width * n + buffer_width * k + semaphore_width * s + h

-- the places of a table of n processes, k buffers and j semaphores
abbrev pub Has : ℕ → ℕ → ℕ → Place → Type 0
Has n k j (Header i) = i < header_width
Has n k j (Process p f) = (1 ≤ p) × (p ≤ n) × (f < process_width)
Has n k j (Buffer b g) = (1 ≤ b) × (b ≤ k) × (g < buffer_width)
Has n k j (Semaphore s h) = (1 ≤ s) × (s ≤ j) × (h < semaphore_width)

-- the place at an index of a table of n processes and k buffers
abbrev pub place : ℕ → ℕ → ℕ → Place
place n k i =
    if (ltb i header_width) (Header i)
    (if (ltb i (header_width + process_width * n)) (Process ((i - process_base) / process_width) ((i - process_base) % process_width))
    (if (ltb i (header_width + process_width * n + buffer_width * k))
    (Buffer ((i - buffer_base - process_width * n) / buffer_width) ((i - buffer_base - process_width * n) % buffer_width))
    (Semaphore ((i - semaphore_base - process_width * n - buffer_width * k) / semaphore_width)
    ((i - semaphore_base - process_width * n - buffer_width * k) % semaphore_width))))

-- ---- the word of a machine at each place
-- the links: what follows and what stands before x in a queue of processes (of 0: the first, the last), and in p's event queue
pub record Links : Type 0 where
  pub process_next : ℕ → ℕ → ℕ
  pub process_previous : ℕ → ℕ → ℕ
  pub event_next : ℕ → ℕ → ℕ
  pub event_previous : ℕ → ℕ → ℕ

-- p's event queue; there is no process 0
abbrev pub queue : Machine → ℕ → List ℕ
queue m zero = []
queue m (suc p) = m.events (suc p)

-- the queues that process words 0 and 1 link: number 0 is the running queue, the others are the semaphores' own
abbrev pub process_queue : Machine → ℕ → List ℕ
process_queue m zero = m.running
process_queue m (suc s) = m.waiters (suc s)

-- the links of the queues of m
abbrev pub links : Machine → Links
links m = record {
  process_next = λ s. next (process_queue m s);
  process_previous = λ s. previous (process_queue m s);
  event_next = λ p. next (queue m p);
  event_previous = λ p. previous (queue m p);
}

-- the process in whose event queue a buffer stands: queued, its receiver; answered, its owner; else 0
unfoldable pub home : (ℕ → ℕ → ℕ) → ℕ → ℕ
home buffer b =
    same (buffer b buffer_standing) standing_queued (buffer b buffer_receiver)
    (same (buffer b buffer_standing) standing_answered (buffer b buffer_owner) 0)

-- "Header: 0 P, 1 B, 2 first and 3 last of the running queue"; plain words 4 to 7; "8 to 71, for devices 0 to 63, the waiting process"
abbrev pub header_word : ℕ → ℕ → ℕ → ℕ → (ℕ → ℕ) → (ℕ → ℕ) → ℕ → ℕ
header_word P B first last plain device zero = P
header_word P B first last plain device (suc zero) = B
header_word P B first last plain device (suc (suc zero)) = first
header_word P B first last plain device (suc (suc (suc zero))) = last
header_word P B first last plain device (suc (suc (suc (suc zero)))) = plain header_edition
header_word P B first last plain device (suc (suc (suc (suc (suc zero))))) = plain header_semaphores
header_word P B first last plain device (suc (suc (suc (suc (suc (suc zero)))))) = plain header_zero
header_word P B first last plain device (suc (suc (suc (suc (suc (suc (suc zero))))))) = plain header_second_zero
header_word P B first last plain device (suc (suc (suc (suc (suc (suc (suc (suc d)))))))) = device d

-- "Process, 16 words: 0 next, 1 previous in the running queue", or in the queue that word 15 names; "2 first, 3 last of its event
-- queue"; plain words
abbrev pub process_word : ℕ → ℕ → ℕ → ℕ → (ℕ → ℕ) → ℕ → ℕ
process_word next previous first last plain zero = next
process_word next previous first last plain (suc zero) = previous
process_word next previous first last plain (suc (suc zero)) = first
process_word next previous first last plain (suc (suc (suc zero))) = last
process_word next previous first last plain (suc (suc (suc (suc f)))) = plain (suc (suc (suc (suc f))))

-- "Buffer, 10 words: 0 next, 1 previous in an event queue"; plain words
abbrev pub buffer_word : ℕ → ℕ → (ℕ → ℕ) → ℕ → ℕ
buffer_word next previous plain zero = next
buffer_word next previous plain (suc zero) = previous
buffer_word next previous plain (suc (suc g)) = plain (suc (suc g))

-- "four words each: counter, first and last waiter, zero"
abbrev pub semaphore_word : ℕ → ℕ → ℕ → ℕ → ℕ
semaphore_word counter first last zero = counter
semaphore_word counter first last (suc zero) = first
semaphore_word counter first last (suc (suc zero)) = last
semaphore_word counter first last (suc (suc (suc h))) = 0

-- the word of m at each place, with the links v
abbrev pub word : Machine → Links → Place → ℕ
word m v (Header i) = header_word m.P m.B (v.process_next 0 0) (v.process_previous 0 0) m.header m.device i
word m v (Process p f) =
    process_word (v.process_next (semaphore m p) p) (v.process_previous (semaphore m p) p) (v.event_next p 0) (v.event_previous p 0) (m.process p) f
word m v (Buffer b g) = buffer_word (v.event_next (home m.buffer b) b) (v.event_previous (home m.buffer b) b) (m.buffer b) g
word m v (Semaphore s h) = semaphore_word (m.counter s) (v.process_next s 0) (v.process_previous s 0) h

-- ---- showing
-- t has at each place of n processes, k buffers and j semaphores the word that w says, and r beyond
pub record Table (t : List ℕ) (n k j : ℕ) (w : Place → ℕ) (r : List ℕ) : Type 0 where
  pub long : size n k j ≤ length t
  pub at : (l : Place) → Has n k j l → get_or t (index n k l) 0 ≡ w l
  pub beyond : drop (size n k j) t ≡ r

-- t has the words of m, with the links v
pub record ShowsLinks (t : List ℕ) (m : Machine) (v : Links) : Type 0 where
  pub table : Table t m.P m.B (semaphores m) (word m v) m.beyond

-- the words t show the machine m
abbrev pub Shows : List ℕ → Machine → Type 0
Shows t m = ShowsLinks t m (links m)

-- the words used of a machine
unfoldable pub image : Machine → List ℕ
image m = map (λ i. word m (links m) (place m.P m.B i)) (from 0 (size m.P m.B (semaphores m)))
