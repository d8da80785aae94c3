-- docs/MONITOR.md, 14: the nine lines. No table and no machine is looked at here. Assumes nothing: these are definitions.
use Rattle.std.specs.Prelude.{Bool, not, ◌&&◌, ◌||◌, List, [], ◌∷◌, ℕ, ◌+◌, min, eqb}
use Rattle.machine.specs.Numbers.{standing_free, standing_queued, standing_held, standing_answered, standing_orphaned, kind_message, kind_answer}
use Rattle.machine.specs.Numbers.{most_age}
use Rattle.machine.specs.Queue.{if, from, keep}
use Rattle.machine.specs.Machine.{Words}
use Rattle.machine.specs.Request.{Request, request, Send, WaitAnswer, WaitEvent, SendAnswer, WaitInterrupt, Start, Stop, Clean, Tick, Interrupt}
use Rattle.machine.specs.Request.{ListOpen, Lower, Raise, Unknown}
use Rattle.machine.specs.Refusal.{among}
use Rattle.machine.specs.Step.{Answer}
use Rattle.machine.specs.Layout.{Entry, entry, sum, owner_in}

-- ---- a log
-- "each call from 01 up with its answer": its number and parts, the words of room lent to it, the answer
pub record Call : Type 0 where
  pub number : ℕ
  pub a : ℕ
  pub b : ℕ
  pub words : Words
  pub room : ℕ
  pub answer : Answer

-- "the list of one accepted layout and then each call"
pub record Log : Type 0 where
  pub list : List Entry
  pub calls : List Call

-- what a call asks
abbrev pub asked : Call → Request
asked c = request c.number c.a c.b c.words c.room

-- ---- what it says of one buffer
-- "A buffer's owner follows from the list, its receiver from the send"; its age, "the number of ticks
-- accepted in the log since that send, or 65,535 if more"
pub record Talk : Type 0 where
  pub owner : ℕ
  pub receiver : ℕ
  pub standing : ℕ
  pub age : ℕ

abbrev pub talk_of : ℕ → ℕ → ℕ → ℕ → Talk
talk_of o r s a = record { owner = o; receiver = r; standing = s; age = a }

-- the same conversation, in another standing
abbrev pub moved : ℕ → Talk → Talk
moved s t = talk_of t.owner t.receiver s t.age

-- free
abbrev pub freed : Talk → Talk
freed t = talk_of t.owner 0 standing_free 0

-- "Open is not free"
abbrev pub is_open : Talk → Bool
is_open t = not (eqb t.standing standing_free)

-- the answer names b, with that kind
abbrev pub names : ℕ → ℕ → Answer → Bool
names b kind r = eqb r.kind kind && eqb b r.buffer

-- the nine lines: what an accepted call does to buffer b
unfoldable pub move : ℕ → Talk → Request → Answer → Talk
-- (1) Send answering b: queued
move b t (Send a ws) r = if (eqb b r.buffer) (talk_of t.owner a standing_queued 0) t
-- (3) 02 answering b, kind 2: free
move b t (WaitAnswer a) r = if (names b kind_answer r) (freed t) t
-- (2) 03 answering b, kind 1: held; (3) kind 2: free
move b t (WaitEvent d) r = if (names b kind_message r) (moved standing_held t) (if (names b kind_answer r) (freed t) t)
-- (4) 04 on held b: answered; (5) 04 on orphaned b: free
move b t (SendAnswer a ws) r =
    if (eqb b a && eqb t.standing standing_held) (moved standing_answered t) (if (eqb b a && eqb t.standing standing_orphaned) (freed t) t)
-- (6) Owner cleaned while queued or answered: free; (7) while held: orphaned;
-- (8) Receiver cleaned while queued or held: answered; (9) while orphaned: free
move b t (Clean a) r =
    if (eqb t.owner a && among t.standing (standing_queued ∷ standing_answered ∷ [])) (freed t)
    (if (eqb t.owner a && eqb t.standing standing_held) (moved standing_orphaned t)
    (if (eqb t.receiver a && among t.standing (standing_queued ∷ standing_held ∷ [])) (moved standing_answered t)
    (if (eqb t.receiver a && eqb t.standing standing_orphaned) (freed t) t)))
-- a tick while open
move b t Tick r = if (is_open t) (talk_of t.owner t.receiver t.standing (min (t.age + 1) most_age)) t
-- "Nothing else moves it"
move b t (WaitInterrupt a d) r = t
move b t (Start a) r = t
move b t (Stop a) r = t
move b t (Interrupt a) r = t
move b t (ListOpen a room) r = t
move b t (Lower a) r = t
move b t (Raise a) r = t
move b t Unknown r = t

-- "Only accepted calls count"
abbrev pub count : ℕ → Talk → Call → Talk
count b t c = if (eqb c.answer.number 0) (move b t (asked c) c.answer) t

-- "each buffer by itself"
unfoldable pub read : ℕ → Talk → List Call → Talk
read b t [] = t
read b t (c ∷ l) = read b (count b t c) l

-- what the log leaves of buffer b, "free at layout"
abbrev pub left : Log → ℕ → Talk
left g b = read b (talk_of (owner_in g.list b) 0 standing_free 0) g.calls

-- ---- what it leaves open
-- the buffers in which the log leaves open a conversation with p, rising
abbrev pub open_with : Log → ℕ → List ℕ
open_with g p = keep (λ b. is_open (left g b) && (eqb (left g b).owner p || eqb (left g b).receiver p)) (from 1 (sum g.list))

-- and those that p began
abbrev pub open_by : Log → ℕ → List ℕ
open_by g p = keep (λ b. is_open (left g b) && eqb (left g b).owner p) (from 1 (sum g.list))

-- buffer, owner, receiver, standing and age of each
unfoldable pub listed : (ℕ → Talk) → List ℕ → List ℕ
listed f [] = []
listed f (b ∷ l) = b ∷ (f b).owner ∷ (f b).receiver ∷ (f b).standing ∷ (f b).age ∷ listed f l

-- how many buffers the list gives p
abbrev pub given_to : Log → ℕ → ℕ
given_to g p = (entry g.list p).owns

-- "current" of the last accepted answer, 0 before the first
unfoldable pub current_after : ℕ → List Call → ℕ
current_after now [] = now
current_after now (c ∷ l) = current_after (if (eqb c.answer.number 0) c.answer.current now) l
