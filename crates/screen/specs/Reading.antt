-- What the parts of the screen promise: what is read off the words, and what is to be done. Assumes nothing: these are definitions.
use Rattle.std.specs.Prelude.{◌≡◌, Bool, not, List, ℕ, zero, suc, ◌+◌, ◌*◌, ◌≤◌, length, drop, eqb, ltb, Result, Ok, Err, IfOk}
use Rattle.machine.specs.Numbers.{standing_free, room_too_short}
use Rattle.machine.specs.Records.{process_width, process_first, process_state, process_first_own, process_owns, buffer_base, buffer_next, buffer_standing}
use Rattle.machine.specs.Queue.{if, from, keep}
use Rattle.machine.specs.Sound.{P_of, B_of, process_at, buffer_at, Sound}
use Rattle.lists.specs.Counts.{bit}
use Rattle.screen.specs.declared.Summary.{Summary}
use Rattle.machine.specs.declared.refusal.Refusal.{Refusal}
use Rattle.machine.specs.declared.refusal.Refusal.TheVariants.{TableNotSound, RoomTooShort}

-- ---- the record of a process, as it is read
-- where the words of buffer 0 would start, if there were one, behind n processes
abbrev pub base : ℕ → ℕ
base n = buffer_base + process_width * n

abbrev pub base_of : List ℕ → ℕ
base_of t = base (P_of t)

-- the words from there on
abbrev pub buffers_of : List ℕ → List ℕ
buffers_of t = drop (base_of t) t

-- how many buffers follow one another from b on, of at most n
unfoldable pub along : List ℕ → ℕ → ℕ → ℕ
along t zero b = 0
along t (suc n) b = if (eqb b 0) 0 (suc (along t n (buffer_at t b buffer_next)))

abbrev pub queued : List ℕ → ℕ → ℕ
queued t p = along t (B_of t) (process_at t p process_first)

-- b is not free
abbrev pub is_taken : List ℕ → ℕ → Bool
is_taken t b = not (eqb (buffer_at t b buffer_standing) standing_free)

-- of the buffers from b on, n of them, those that are not free
unfoldable pub taken : List ℕ → ℕ → ℕ → ℕ
taken t b n = length (keep (is_taken t) (from b n))

-- 1 for a standing that is not free's
abbrev pub one_if_taken : ℕ → ℕ
one_if_taken standing = bit (not (eqb standing 0))

-- own buffers stand together: word 10 says which is the first, word 11 how many there are
abbrev pub sent : List ℕ → ℕ → ℕ
sent t p = taken t (process_at t p process_first_own) (process_at t p process_owns)

abbrev pub summary_at : List ℕ → ℕ → Summary
summary_at t p = record { number = p; state = process_at t p process_state; queue = queued t p; sent = sent t p }

-- how many records are filled
abbrev pub count_of : Result ℕ Refusal → ℕ
count_of (Ok n) = n
count_of (Err e) = 0

-- for n processes, and a list that is too short or not
abbrev pub plan : Bool → ℕ → Result ℕ Refusal
plan short n = if short (Err RoomTooShort) (Ok n)

-- on any words t, with `room` records
pub record Planned (t : List ℕ) (room : ℕ) (r : Result ℕ Refusal) : Type 0 where
  pub unsound : (Sound t → ⊥) → r ≡ Err TableNotSound
  pub sound : Sound t → r ≡ plan (ltb room (P_of t)) (P_of t)
  -- a place is filled in a sound table only, for each process, and is there
  pub each : IfOk r (λ n. Sound t × ((n ≡ P_of t) × (n ≤ room)))
