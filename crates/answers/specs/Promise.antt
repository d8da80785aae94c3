-- What a served request comes to: its answer as the code gives it, and the words afterwards. Assumes nothing: these are definitions.
use Rattle.std.specs.Prelude.{List, ◌++◌, ◌≡◌, ℕ, ◌+◌, ◌-◌, ◌≤◌, ◌<◌, eqb, length, drop, Result, Ok, Err}
use Rattle.machine.specs.Queue.{if}
use Rattle.machine.specs.Machine.{Machine, Words}
use Rattle.machine.specs.Request.{Request, request}
use Rattle.machine.specs.Step.{Answer as Reply, Outcome, refused, step}
use Rattle.machine.specs.Walk.{Walk as Walking, nowhere, further, entered, walk}
use Rattle.machine.specs.Legal.{Legal}
use Rattle.machine.specs.Words.{Shows}
use Rattle.table.specs.Links.{position}
use Rattle.machine.specs.Exchange.{said, number_of}
use Rattle.machine.specs.declared.refusal.Refusal.{Refusal}
use Rattle.answers.specs.declared.Walk.{Walk}
use Rattle.answers.specs.declared.Walked.{Walked}

-- the code's walk, in the words of the definitions
abbrev pub walk_of : Walk → Walking
walk_of w = record { entries = w.entries; passed = w.passed; most = w.most; moved = w.moved }

-- w, and one entry more to that position in the running queue, from 1; position 0: nobody entered
abbrev pub walk_to : ℕ → Walking → Walking
walk_to position w = if (eqb position 0) w (further (position - 1) w)

-- what comes back of a call that is answered or refused, and its walk: by a refusal nobody enters
abbrev pub answer_in : Result Walked Refusal → Reply
answer_in (Ok walked) = said walked.answer
answer_in (Err refusal) = refused (number_of refusal)

abbrev pub walk_in : Result Walked Refusal → Walking
walk_in (Ok walked) = walk_of walked.walk
walk_in (Err _) = nowhere

-- the position that p takes between m and n, 0 if it doesn't enter
abbrev pub arrival : ℕ → ℕ → Machine → Machine → ℕ
arrival reason p m n = if (entered p m n) (position reason p m) 0

-- there is room in words for one entry more
pub record Roomy (w : Walking) (position : ℕ) : Type 0 where
  pub entries : w.entries < 65535
  pub passed : w.passed + position ≤ 65536

-- a call's two answers are these
pub record Walks (r : Reply) (w : Walking) (r' : Reply) (w' : Walking) : Type 0 where
  pub answer : r' ≡ r
  pub walk : w' ≡ w

-- what comes of a request to a legal machine: its answer, and words that show the machine afterwards
pub record Comes (o : Outcome) (u : List ℕ) (r : Reply) : Type 0 where
  pub answer : r ≡ o.answer
  pub words : Shows u o.machine

-- from the words t to the words u the request is served, whatever legal machine t shows
abbrev pub Serves : List ℕ → List ℕ → Request → Reply → Type 0
Serves t u q r = (m : Machine) → Shows t m → Legal m → Comes (step m q) u r

-- and the records that its entries to the running queue passed are told
pub record ServesWalked (t u : List ℕ) (q : Request) (r : Reply) (w : Walking) : Type 0 where
  pub serves : Serves t u q r
  pub walks : (m : Machine) → Shows t m → Legal m → w ≡ walk m q

-- the same of the request that the numbers of a call ask, whatever its room
pub record Answers (t u : List ℕ) (k a b : ℕ) (ws : Words) (r : Reply) (w : Walking) : Type 0 where
  pub serves_walked : (room : ℕ) → ServesWalked t u (request k a b ws room) r w

-- the room has the listing, and behind it what was there
abbrev pub with_listing : List ℕ → List ℕ → List ℕ
with_listing l s = l ++ drop (length l) s
