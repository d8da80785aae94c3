-- The tests on a buffer by itself, as the code makes them. Assumes nothing: these are definitions.
use Rattle.std.specs.Prelude.{Bool, not, ◌&&◌, ◌||◌, List, ℕ, ◌+◌, get_or, eqb, leb}
use Rattle.machine.specs.Numbers.{standing_free, standing_queued, standing_held, standing_answered, standing_orphaned}
use Rattle.machine.specs.Records.{buffer_next, buffer_previous, buffer_owner, buffer_receiver, buffer_standing, buffer_age, buffer_message, buffer_second}
use Rattle.machine.specs.Records.{buffer_third, buffer_fourth}
use Rattle.machine.specs.Queue.{if}

-- a buffer of that standing is in an event queue
abbrev pub queued : ℕ → Bool
queued standing = eqb standing standing_queued || eqb standing standing_answered

-- in no queue; `start` is the index of a buffer's word 0
abbrev pub unlinked : List ℕ → ℕ → Bool
unlinked w start = eqb (get_or w (start + buffer_next) 0) 0 && eqb (get_or w (start + buffer_previous) 0) 0

-- words 5 to 9 are zero: no age, and no message
abbrev pub blank : List ℕ → ℕ → Bool
blank w start =
    eqb (get_or w (start + buffer_age) 0) 0
    && (eqb (get_or w (start + buffer_message) 0) 0 && (eqb (get_or w (start + buffer_second) 0) 0 && (eqb (get_or w (start + buffer_third) 0) 0
    && eqb (get_or w (start + buffer_fourth) 0) 0)))

-- the words of a free buffer, but for its receiver
abbrev pub free : List ℕ → ℕ → ℕ → Bool
free w start standing = eqb standing standing_free && (unlinked w start && blank w start)

-- a receiver is one of the processes, and not the owner p
abbrev pub received : ℕ → ℕ → ℕ → Bool
received receiver p processes = leb 1 receiver && (leb receiver processes && not (eqb receiver p))

-- the words of a buffer that is held or orphaned, but for its receiver
abbrev pub held : List ℕ → ℕ → ℕ → Bool
held w start standing = (eqb standing standing_held || eqb standing standing_orphaned) && unlinked w start

-- its owner is p
abbrev pub owned : List ℕ → ℕ → ℕ → Bool
owned w start p = eqb (get_or w (start + buffer_owner) 0) p

-- a buffer of p's that is right but for its queue, which tells that the receiver of a queued one is one of the processes
unfoldable pub own_buffer : List ℕ → ℕ → ℕ → ℕ → Bool
own_buffer w start p processes =
    owned w start p &&
    (if (eqb (get_or w (start + buffer_standing) 0) standing_queued) (not (eqb (get_or w (start + buffer_receiver) 0) p))
    (if (eqb (get_or w (start + buffer_receiver) 0) 0) (free w start (get_or w (start + buffer_standing) 0))
    (received (get_or w (start + buffer_receiver) 0) p processes && (eqb (get_or w (start + buffer_standing) 0) standing_answered
    || held w start (get_or w (start + buffer_standing) 0)))))
