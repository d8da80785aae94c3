-- What demand 3 says of the conversations that a log leaves open: which they are, where they stand, how they end. Assumes nothing: these are definitions.
use Rattle.std.specs.Prelude.{◌≡◌, ◌⊎◌, List, [], ◌∷◌, ◌++◌, ℕ, ◌≤◌, length}
use Rattle.machine.specs.Numbers.{standing_free, standing_queued, standing_held, standing_answered, standing_orphaned, kind_answer, call_wait_answer}
use Rattle.machine.specs.Numbers.{call_wait_event}
use Rattle.machine.specs.Queue.{Range, In, Out}
use Rattle.machine.specs.Layout.{sum}
use Rattle.machine.specs.Step.{Outcome}
use Rattle.machine.specs.Log.{Log, left, open_with, listed, Call, Talk}

-- ---- those open with a process
-- the log leaves open in b a conversation with p
pub record OpenWith (g : Log) (p b : ℕ) : Type 0 where
  pub is : Range (sum g.list) b
  pub not_free : (left g b).standing ≡ standing_free → ⊥
  pub between : ((left g b).owner ≡ p) ⊎ ((left g b).receiver ≡ p)

-- a listing for p as the log says it
pub record LeavesOpen (g : Log) (p : ℕ) (o : Outcome) : Type 0 where
  pub accepted : o.answer.number ≡ 0
  pub kind : o.answer.kind ≡ length (open_with g p)
  pub rows : o.listing ≡ listed (left g) (open_with g p)

-- ---- where each stands, and with whom
-- where a conversation that is not free stands, among the event queues of P processes
pub data Whereabouts (P : ℕ) (events : ℕ → List ℕ) (b : ℕ) (t : Talk) : Type 0 where
  queued : t.standing ≡ standing_queued → In b (events t.receiver) → Whereabouts P events b t
  held : t.standing ≡ standing_held → ((p : ℕ) → Range P p → Out b (events p)) → Whereabouts P events b t
  answered : t.standing ≡ standing_answered → In b (events t.owner) → Whereabouts P events b t
  orphaned : t.standing ≡ standing_orphaned → ((p : ℕ) → Range P p → Out b (events p)) → Whereabouts P events b t

-- it is had by somebody: owner and receiver are two of the P processes, and it stands with one of them
pub record Had (P : ℕ) (events : ℕ → List ℕ) (b : ℕ) (t : Talk) : Type 0 where
  pub owner : Range P t.owner
  pub receiver : Range P t.receiver
  pub apart : t.receiver ≡ t.owner → ⊥
  pub stands : Whereabouts P events b t

-- nothing is left under way with p: none that it began is queued, held or answered, none sent to it is queued or held
pub record Gone (p : ℕ) (t : Talk) : Type 0 where
  pub begun : t.owner ≡ p → standing_queued ≤ t.standing → t.standing ≤ standing_answered → ⊥
  pub received : t.receiver ≡ p → standing_queued ≤ t.standing → t.standing ≤ standing_held → ⊥

-- the log g, and one call more
abbrev pub with_call : Log → Call → Log
with_call g c = record { list = g.list; calls = g.calls ++ (c ∷ []) }

-- c brings its caller an answer: an accepted 02 or 03 of kind 2
pub record Brings (c : Call) : Type 0 where
  pub asks : (c.number ≡ call_wait_answer) ⊎ (c.number ≡ call_wait_event)
  pub accepted : c.answer.number ≡ 0
  pub kind : c.answer.kind ≡ kind_answer

-- p is the owner of b, which the log leaves answered
pub record Owed (g : Log) (b p : ℕ) : Type 0 where
  pub is : Range (sum g.list) b
  pub answered : (left g b).standing ≡ standing_answered
  pub own : (left g b).owner ≡ p
