-- docs/MONITOR.md, 4: the list, rows 11 and 12 of refusal, and the machine laid out. Assumes nothing: these are definitions.
use Rattle.std.specs.Prelude.{Bool, true, false, not, ◌&&◌, ◌||◌, List, [], ◌∷◌, ℕ, suc, ◌+◌, ◌-◌, ◌/◌, ◌%◌, length, get_or, eqb, leb, ltb}
use Rattle.machine.specs.Numbers.{wrong_list, table_too_short, edition_second, most_processes, most_buffers, most_semaphores, most_priority}
use Rattle.machine.specs.Numbers.{most_counter}
use Rattle.machine.specs.Records.{header_edition, header_semaphores, process_priority, process_first_own, process_owns, process_name}
use Rattle.machine.specs.Records.{process_second_name, process_third_name, buffer_owner}
use Rattle.machine.specs.Queue.{if, same}
use Rattle.machine.specs.Machine.{Machine, given}
use Rattle.machine.specs.Refusal.{◌when◌, first}
use Rattle.machine.specs.Words.{size}

-- "Five words a process": priority, number of buffers, three name words
pub record Entry : Type 0 where
  pub priority : ℕ
  pub owns : ℕ
  pub name₀ : ℕ
  pub name₁ : ℕ
  pub name₂ : ℕ

-- how many buffers a list gives out, a whole number
unfoldable pub sum : List Entry → ℕ
sum [] = 0
sum (e ∷ l) = e.owns + sum l

-- what stands where there is no entry
abbrev pub blank : Entry
blank = record { priority = 0; owns = 0; name₀ = 0; name₁ = 0; name₂ = 0 }

-- the entry of process p: "numbered in list order"
abbrev pub entry : List Entry → ℕ → Entry
entry l p = get_or (blank ∷ l) p blank

-- which of the processes from p on has the buffer that b others stand before
unfoldable pub owner_of : ℕ → List Entry → ℕ → ℕ
owner_of p [] b = 0
owner_of p (e ∷ l) b = if (ltb b e.owns) p (owner_of (suc p) l (b - e.owns))

-- the owner of buffer b; there is no buffer 0
abbrev pub owner_in : List Entry → ℕ → ℕ
owner_in l b = same b 0 0 (owner_of 1 l (b - 1))

-- word f of process p: own buffers in process order, "stopped, with reason 0"
abbrev pub entry_word : List Entry → ℕ → ℕ → ℕ
entry_word l p f =
    let e : Entry = entry l p in
    if (eqb f process_priority) e.priority
    (if (eqb f process_first_own) (same e.owns 0 0 (suc (given (λ k. (entry l k).owns) (p - 1))))
    (if (eqb f process_owns) e.owns
    (if (eqb f process_name) e.name₀
    (if (eqb f process_second_name) e.name₁
    (if (eqb f process_third_name) e.name₂ 0)))))

-- the machine laid out, with these words beyond, in that edition, with semaphores of these counters: "All processes begin
-- stopped .. all buffers begin free"
unfoldable pub laid_over : List ℕ → ℕ → List ℕ → List Entry → Machine
laid_over beyond edition counters l =
    record {
      P = length l;
      B = sum l;
      header = λ i. if (eqb i header_edition) edition (if (eqb i header_semaphores) (length counters) 0);
      running = [];
      events = λ p. [];
      process = entry_word l;
      buffer = λ b g. if (eqb g buffer_owner) (owner_in l b) 0;
      device = λ d. 0;
      counter = λ s. get_or (0 ∷ counters) s 0;
      waiters = λ s. [];
      beyond = beyond;
    }

-- with none beyond
abbrev pub laid : ℕ → List ℕ → List Entry → Machine
laid edition counters l = laid_over [] edition counters l

-- ---- refusals 11 and 12

-- the list's words in fives: priority, buffers, three name words
unfoldable pub entries : List ℕ → List Entry
entries [] = []
entries (p ∷ []) = []
entries (p ∷ n ∷ []) = []
entries (p ∷ n ∷ x ∷ []) = []
entries (p ∷ n ∷ x ∷ y ∷ []) = []
entries (p ∷ n ∷ x ∷ y ∷ z ∷ l) = record { priority = p; owns = n; name₀ = x; name₁ = y; name₂ = z } ∷ entries l

-- the list is in fives
unfoldable pub fives : List ℕ → Bool
fives [] = true
fives (p ∷ []) = false
fives (p ∷ n ∷ []) = false
fives (p ∷ n ∷ x ∷ []) = false
fives (p ∷ n ∷ x ∷ y ∷ []) = false
fives (p ∷ n ∷ x ∷ y ∷ z ∷ l) = fives l

-- "A name is 1 to 5 non-zero bytes, left byte first, then zeros"
abbrev pub name_ok : ℕ → ℕ → ℕ → Bool
name_ok x y z =
    not (eqb (x / 256) 0) && ((not (eqb (x % 256) 0) || eqb (y / 256) 0) && ((not (eqb (y / 256) 0) || eqb (y % 256) 0)
    && ((not (eqb (y % 256) 0) || eqb (z / 256) 0) && eqb (z % 256) 0)))

-- f of every entry
unfoldable pub each : (Entry → Bool) → List Entry → Bool
each f [] = true
each f (e ∷ l) = f e && each f l

-- the entry's priority and name are good
abbrev pub proper : Entry → Bool
proper e = leb 1 e.priority && (leb e.priority most_priority && name_ok e.name₀ e.name₁ e.name₂)

-- the entry's name isn't x, y, z
abbrev pub unlike : ℕ → ℕ → ℕ → Entry → Bool
unlike x y z e = not (eqb x e.name₀ && (eqb y e.name₁ && eqb z e.name₂))

-- no name is repeated
unfoldable pub apart : List Entry → Bool
apart [] = true
apart (e ∷ l) = each (unlike e.name₀ e.name₁ e.name₂) l && apart l

-- not empty, not over 32 processes or 128 buffers, priorities and names good, no name repeated
abbrev pub layout_ok : List Entry → Bool
layout_ok l = leb 1 (length l) && (leb (length l) most_processes && (leb (sum l) most_buffers && (each proper l && apart l)))

-- every counter is "0 to 32,767 at layout"
unfoldable pub startable : List ℕ → Bool
startable [] = true
startable (c ∷ l) = leb c most_counter && startable l

-- the edition is 0 or 1; at most 16 counters, each in its range
abbrev pub setting_ok : ℕ → List ℕ → Bool
setting_ok edition counters = leb edition edition_second && (leb (length counters) most_semaphores && startable counters)

-- the number of the refusal of a layout by this list, in that edition and with these counters, for a table of n words; 0 for none
unfoldable pub layout_refusal : List ℕ → ℕ → List ℕ → ℕ → ℕ
layout_refusal ws edition counters n = first
    ((wrong_list when not (setting_ok edition counters && (fives ws && layout_ok (entries ws))))
    ∷ (table_too_short when ltb n (size (length (entries ws)) (sum (entries ws)) (length counters))) ∷ [])
